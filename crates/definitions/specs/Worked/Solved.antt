-- What solve prints of some texts. Assumes nothing.
use Rattle.std.specs.Prelude.{ℕ, ◌≡◌, refl, List, [], ◌∷◌, ◌++◌}
use Rattle.std.proofs.Math.Option.{some}
use Rattle.definitions.specs.Text.Ascii.{ascii}
use Rattle.definitions.specs.Text.Tokens.{tokens_of}
use Rattle.definitions.specs.Text.Reader.{step, script_read}
use Rattle.definitions.specs.Text.Nodes.{ask, nodes_of_script, bytes_of_script, problem_of_script, limits_of_script, taken, read_answer, read_buffer}
use Rattle.definitions.specs.Problem.Asked.{asked, refusal_of}
use Rattle.definitions.specs.Elimination.{eliminated}
use Rattle.definitions.specs.Ranges.{tops, tops_of, sizes_of, product}
use Rattle.definitions.specs.Places.{values_at, true_at}
use Rattle.definitions.specs.Verdict.{outcome_of}
use Rattle.definitions.specs.Witness.{rows_at, witness_at}
use Rattle.definitions.specs.Operations.Answers.{given, isFalsified, isStopped, eliminate_refusal, buffers_refusal, decide_refusal, decide_answer}
use Rattle.definitions.specs.Operations.Buffers.{witness_after}
use Rattle.definitions.specs.Solve.{position, position_of, error_line, answer_lines, name_at, row_line, decision_lines, solved, budget_in}

abbrev H : List ℕ
H = ascii "(set-logic QF_UF)(declare-sort U 0)\n"

-- the second line begins at the eighth byte
pub worked_place : position_of (ascii "; note\nx") 7 ≡ position 2 1
unfolding position_of
worked_place = refl

-- four arguments
pub worked_error : solved (H ++ ascii "(declare-fun f (U U U U) U)(check-sat)") 100 ≡ ascii "(error \"refusal 14: the text cannot go on so, line 2, column 23\")\n"
unfolding solved read_answer read_buffer taken script_read tokens_of step bytes_of_script nodes_of_script problem_of_script limits_of_script ask error_line position_of
worked_error = refl

-- tables by the text's own names; the bytes of the four symbols are 0, 1, 16 and 18
abbrev names : List ℕ
names = H ++ ascii "(declare-fun x () U)(declare-fun |f g| (U) U)(declare-fun p()Bool)(declare-fun q (U U) Bool)(check-sat)"

abbrev bytes : List ℕ
bytes = 69 ∷ 81 ∷ 80 ∷ 1 ∷ 0 ∷ 4 ∷ 2 ∷ 0 ∷ 0 ∷ 1 ∷ 16 ∷ 18 ∷ []

pub worked-rows :
    decision_lines names bytes (69 ∷ 81 ∷ 87 ∷ 1 ∷ 0 ∷ 4 ∷ 0 ∷ 0 ∷ 0 ∷ 0 ∷ 1 ∷ 1 ∷ 1 ∷ 0 ∷ 0 ∷ 12 ∷ 2 ∷ 0 ∷ 0 ∷ 0 ∷ 1 ∷ 3 ∷ 1 ∷ 2 ∷ 0 ∷ 0 ∷ [])
    (given (record { verdict = isFalsified; tried = 3; product = 8; written = 26 }))
    ≡ ascii "sat\n; x = 1\n; |f g|(1) = 12\n; p = true\n; q(1, 2) = false\n"
unfolding answer_lines row_line name_at tokens_of
worked-rows = refl

pub worked-unknown :
    answer_lines names (given (record { verdict = isStopped; tried = 100; product = 4096; written = 0 })) ≡ ascii "unknown\n; tried 100 of 4096\n"
unfolding answer_lines
worked-unknown = refl

pub worked_budget : budget_in (ascii "4096") ≡ some 4096
unfolding budget_in
worked_budget = refl

-- whole runs
abbrev xy : List ℕ
xy = H ++ ascii "(declare-fun x () U)(declare-fun y () U)"

pub worked_sat : solved (xy ++ ascii "(assert (not (= x y)))(check-sat)") 10 ≡ ascii "sat\n; x = 1\n; y = 2\n"
unfolding solved read_answer read_buffer taken script_read tokens_of step bytes_of_script nodes_of_script problem_of_script limits_of_script ask error_line position_of answer_lines row_line name_at decide_answer witness_after witness_at rows_at outcome_of decide_refusal buffers_refusal eliminate_refusal refusal_of asked product tops tops_of sizes_of eliminated values_at true_at
worked_sat = refl

pub worked_unsat : solved (xy ++ ascii "(declare-fun f (U) U)(assert (= x y))(assert (not (= (f x) (f y))))(check-sat)") 4 ≡ ascii "unsat\n"
unfolding solved read_answer read_buffer taken script_read tokens_of step bytes_of_script nodes_of_script problem_of_script limits_of_script ask error_line position_of answer_lines row_line name_at decide_answer witness_after witness_at rows_at outcome_of decide_refusal buffers_refusal eliminate_refusal refusal_of asked product tops tops_of sizes_of eliminated values_at true_at
worked_unsat = refl
