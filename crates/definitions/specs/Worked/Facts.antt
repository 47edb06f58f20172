-- Budgets around the first false place and around the product, and the sample of the night run, byte for byte (01, 'Verdicts'
-- and 'The night run'). Assumes nothing.
use Rattle.std.specs.Prelude.{◌≡◌, refl, ℕ, List, [], ◌∷◌, ◌++◌, map, length}
use Rattle.definitions.specs.Bytes.{bytes_of, two}
use Rattle.definitions.specs.Problem.Asked.{asked, refusal_of}
use Rattle.definitions.specs.Elimination.{eliminated}
use Rattle.definitions.specs.Ranges.{tops, tops_of, sizes_of, product}
use Rattle.definitions.specs.Places.{values_at, true_at}
use Rattle.definitions.specs.Verdict.{valid, falsified, stopped, outcome_of}
use Rattle.definitions.specs.Witness.{rows_at, witness_at}
use Rattle.definitions.specs.Operations.Answers.{eliminate_refusal, buffers_refusal, decide_refusal, decide_answer}
use Rattle.definitions.specs.Night.{night_run}
use Rattle.definitions.specs.Worked.Problems.{row2, row4, row6}

-- row 6 is false at place 4 first, and row 4 at none of its 4 places
pub row6_budgets : map (outcome_of row6) (0 ∷ 1 ∷ 3 ∷ 4 ∷ 5 ∷ [])
    ≡ stopped 0 ∷ stopped 1 ∷ stopped 3 ∷ falsified 4 ∷ falsified 4 ∷ []
unfolding outcome_of true_at values_at product sizes_of tops_of tops eliminated
row6_budgets = refl

pub row4_budgets : map (outcome_of row4) (0 ∷ 3 ∷ 4 ∷ 5 ∷ []) ≡ stopped 0 ∷ stopped 3 ∷ valid 4 ∷ valid 4 ∷ []
unfolding outcome_of true_at values_at product sizes_of tops_of tops eliminated
row4_budgets = refl

abbrev job : ℕ → List ℕ → List ℕ
job budget s = bytes_of 8 budget ++ two (length s) ++ s

-- row 2 with budget 10, row 4 with 3, row 4 with 4, and an empty problem with 5
abbrev pub sample_jobs : List ℕ
sample_jobs = job 10 row2 ++ job 3 row4 ++ job 4 row4 ++ job 5 []

-- the six lines, in ASCII
abbrev pub sample_lines : List ℕ
sample_lines =
    -- EQP NIGHT 1
    (69 ∷ 81 ∷ 80 ∷ 32 ∷ 78 ∷ 73 ∷ 71 ∷ 72 ∷ 84 ∷ 32 ∷ 49 ∷ 10 ∷ [])
    -- JOB 1 FALSIFIED 2 2
    ++ (74 ∷ 79 ∷ 66 ∷ 32 ∷ 49 ∷ 32 ∷ 70 ∷ 65 ∷ 76 ∷ 83 ∷ 73 ∷ 70 ∷ 73 ∷ 69 ∷ 68 ∷ 32 ∷ 50 ∷ 32 ∷ 50 ∷ 10 ∷ [])
    -- JOB 2 STOPPED 3 4
    ++ (74 ∷ 79 ∷ 66 ∷ 32 ∷ 50 ∷ 32 ∷ 83 ∷ 84 ∷ 79 ∷ 80 ∷ 80 ∷ 69 ∷ 68 ∷ 32 ∷ 51 ∷ 32 ∷ 52 ∷ 10 ∷ [])
    -- JOB 3 VALID 4 4
    ++ (74 ∷ 79 ∷ 66 ∷ 32 ∷ 51 ∷ 32 ∷ 86 ∷ 65 ∷ 76 ∷ 73 ∷ 68 ∷ 32 ∷ 52 ∷ 32 ∷ 52 ∷ 10 ∷ [])
    -- JOB 4 REFUSED 1 0
    ++ (74 ∷ 79 ∷ 66 ∷ 32 ∷ 52 ∷ 32 ∷ 82 ∷ 69 ∷ 70 ∷ 85 ∷ 83 ∷ 69 ∷ 68 ∷ 32 ∷ 49 ∷ 32 ∷ 48 ∷ 10 ∷ [])
    -- END 4
    ++ (69 ∷ 78 ∷ 68 ∷ 32 ∷ 52 ∷ 10 ∷ [])

pub night_sample : night_run sample_jobs ≡ sample_lines
unfolding
    night_run decide_answer decide_refusal buffers_refusal eliminate_refusal refusal_of asked outcome_of true_at values_at witness_at rows_at
    product sizes_of tops_of tops eliminated
night_sample = refl
