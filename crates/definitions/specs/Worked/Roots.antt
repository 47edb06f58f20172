-- Two departments, one table (02, E2): what the voice group's root and the effects group's say of one table. Assumes nothing.
use Rattle.std.specs.Prelude.{◌≡◌, refl, ℕ, List, [], ◌∷◌, map}
use Rattle.std.proofs.Math.Option.{none, some}
use Rattle.definitions.specs.Problem.Node.{Node, plain, table_bytes, problem_bytes}
use Rattle.definitions.specs.Problem.Check.{refuse}
use Rattle.definitions.specs.Problem.Asked.{asked, ask_refusal, refusal_of}
use Rattle.definitions.specs.Elimination.{eliminated, table_of}
use Rattle.definitions.specs.Ranges.{tops, tops_of, sizes_of, product}
use Rattle.definitions.specs.Places.{values_at, true_at}
use Rattle.definitions.specs.Verdict.{outcome_of}
use Rattle.definitions.specs.Witness.{rows_at, witness_at}
use Rattle.definitions.specs.Operations.Answers.{
  eliminate_refusal,
  buffers_refusal,
  decide_refusal,
  Answer,
  refused,
  given,
  isFalsified,
  check_answer,
  Decided,
  decide_answer,
}

-- an application of a symbol
abbrev app : ℕ → ℕ → Node
app symbol a = record { op = 0; sym = symbol; a = a; b = 0; c = 0 }

-- x, y, x = y; and after them z, f(z), f(x), f(z) = f(x), where x, y, z and f are symbols 0 to 3
abbrev pub voice : List ℕ
voice = problem_bytes (0 ∷ 0 ∷ 0 ∷ 1 ∷ []) (app 0 0 ∷ app 1 0 ∷ plain 2 0 1 0 ∷ [])

abbrev pub both : List ℕ
both =
    problem_bytes (0 ∷ 0 ∷ 0 ∷ 1 ∷ [])
    (app 0 0 ∷ app 1 0 ∷ plain 2 0 1 0 ∷ app 2 0 ∷ app 3 3 ∷ app 3 0 ∷ plain 2 4 5 0 ∷ [])

-- the effects group's root reaches neither y nor x = y
abbrev pub effects : List ℕ
effects = problem_bytes (0 ∷ 0 ∷ 0 ∷ 1 ∷ []) (app 0 0 ∷ app 2 0 ∷ app 3 1 ∷ app 3 0 ∷ plain 2 2 3 0 ∷ [])

pub both_asked : map (asked both) (2 ∷ 6 ∷ []) ≡ voice ∷ effects ∷ []
unfolding asked
both_asked = refl

-- only formulas are roots
pub both_roots : map (ask_refusal both) (0 ∷ 1 ∷ 2 ∷ 3 ∷ 4 ∷ 5 ∷ 6 ∷ 7 ∷ 300 ∷ [])
    ≡ some (refuse 16 0) ∷ some (refuse 16 0) ∷ none ∷ some (refuse 16 0) ∷ some (refuse 16 0) ∷ some (refuse 16 0) ∷ none
    ∷ some (refuse 16 0) ∷ some (refuse 16 0) ∷ []
unfolding ask_refusal
both_roots = refl

abbrev falsified_of : ℕ → ℕ → ℕ → Answer Decided
falsified_of tried product written =
    given (record { verdict = isFalsified; tried = tried; product = product; written = written })

pub both_answers : map (λ root. decide_answer both root 100 21056 206) (2 ∷ 6 ∷ 3 ∷ [])
    ≡ falsified_of 2 2 16 ∷ falsified_of 4 4 26 ∷ refused (refuse 16 0) ∷ []
unfolding
    decide_answer decide_refusal buffers_refusal eliminate_refusal refusal_of asked outcome_of true_at values_at witness_at rows_at
    product sizes_of tops_of tops eliminated
both_answers = refl

pub both_counts : map (check_answer both) (2 ∷ 6 ∷ [])
    ≡ given (record { functions = 2; predicates = 0 }) ∷ given (record { functions = 4; predicates = 0 }) ∷ []
unfolding check_answer refusal_of asked
both_counts = refl

-- x, z, f's two variables with their choice, and the equation
pub effects_table : table_bytes (table_of (asked both 6))
    ≡ 0 ∷ 0 ∷ 0 ∷ 0 ∷ 0 ∷ 0 ∷ 0 ∷ 0
    ∷ 0 ∷ 1 ∷ 0 ∷ 0 ∷ 0 ∷ 0 ∷ 0 ∷ 0
    ∷ 0 ∷ 2 ∷ 0 ∷ 0 ∷ 0 ∷ 0 ∷ 0 ∷ 0
    ∷ 0 ∷ 3 ∷ 0 ∷ 0 ∷ 0 ∷ 0 ∷ 0 ∷ 0
    ∷ 2 ∷ 0 ∷ 0 ∷ 0 ∷ 1 ∷ 0 ∷ 0 ∷ 0
    ∷ 1 ∷ 0 ∷ 4 ∷ 0 ∷ 2 ∷ 0 ∷ 3 ∷ 0
    ∷ 2 ∷ 0 ∷ 2 ∷ 0 ∷ 5 ∷ 0 ∷ 0 ∷ 0
    ∷ []
unfolding asked eliminated
effects_table = refl

-- x = 1, z = 2, f(2) = 1, f(1) = 2
pub effects_witness : witness_at (asked both 6) 4
    ≡ 69 ∷ 81 ∷ 87 ∷ 1 ∷ 0 ∷ 4
    ∷ 0 ∷ 0 ∷ 0 ∷ 0 ∷ 1
    ∷ 2 ∷ 0 ∷ 0 ∷ 0 ∷ 2
    ∷ 3 ∷ 2 ∷ 0 ∷ 0 ∷ 1
    ∷ 3 ∷ 1 ∷ 0 ∷ 0 ∷ 2
    ∷ []
unfolding witness_at rows_at values_at asked product sizes_of tops_of tops eliminated
effects_witness = refl

-- x, x, and the second x on both sides: one variable, one equation
pub second_x : table_of (asked (problem_bytes (0 ∷ []) (app 0 0 ∷ app 0 0 ∷ plain 2 1 1 0 ∷ [])) 2) ≡ app 0 0 ∷ plain 2 0 0 0 ∷ []
unfolding asked eliminated
second_x = refl

-- p, q, not q, where p and q are predicates: q alone is counted, and is the row
pub not_q : decide_answer (problem_bytes (16 ∷ 16 ∷ []) (plain 6 0 0 0 ∷ record { op = 6; sym = 1; a = 0; b = 0; c = 0 } ∷ plain 3 1 0 0 ∷ [])) 2 100 21056 206
    ≡ falsified_of 2 2 11
unfolding
    decide_answer decide_refusal buffers_refusal eliminate_refusal refusal_of asked outcome_of true_at values_at witness_at rows_at
    product sizes_of tops_of tops eliminated
not_q = refl
