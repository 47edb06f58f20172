-- Rows 1 to 12 as one table, under a single statement: product, verdict, tried, the witness's length and, where the paper
-- gives it, the witness. Assumes nothing.
use Rattle.std.specs.Prelude.{◌≡◌, refl, ℕ, List, [], ◌∷◌, ◌++◌, map}
use Rattle.std.proofs.Math.Option.{Option, none, some}
use Rattle.definitions.specs.Bytes.{EQW}
use Rattle.definitions.specs.Problem.Asked.{asked, refusal_of, last_node}
use Rattle.definitions.specs.Elimination.{eliminated}
use Rattle.definitions.specs.Ranges.{tops, tops_of, sizes_of, product}
use Rattle.definitions.specs.Places.{values_at, true_at}
use Rattle.definitions.specs.Verdict.{outcome_of}
use Rattle.definitions.specs.Witness.{rows_at, witness_at}
use Rattle.definitions.specs.Operations.Answers.{
  eliminate_refusal,
  buffers_refusal,
  decide_refusal,
  Answer,
  given,
  Verdict,
  isValid,
  isFalsified,
  Decided,
  decide_answer,
}
use Rattle.definitions.specs.Worked.Problems.{row1, row2, row3, row4, row5, row6, row7, row8, row9, row10, row11, row12}

-- a row of the paper: the formula asked, what decide answers, and the witness bytes where the paper gives them
pub record Worked : Type 0 where
  pub formula : List ℕ
  pub says : Answer Decided
  pub writes : Option (List ℕ)

abbrev row : List ℕ → Verdict → ℕ → ℕ → ℕ → Option (List ℕ) → Worked
row formula verdict tried product written writes =
    record {
      formula = formula;
      says = given (record { verdict = verdict; tried = tried; product = product; written = written });
      writes = writes;
    }

-- x = 1, y = 2, f(1) = 1, f(2) = 1, where x, y and f are symbols 0, 1 and 2
abbrev pub witness5 : List ℕ
witness5 =
    EQW
    ++ (1 ∷ 0 ∷ 4 ∷ [])
    ++ (0 ∷ 0 ∷ 0 ∷ 0 ∷ 1 ∷ [])
    ++ (1 ∷ 0 ∷ 0 ∷ 0 ∷ 2 ∷ [])
    ++ (2 ∷ 1 ∷ 0 ∷ 0 ∷ 1 ∷ [])
    ++ (2 ∷ 2 ∷ 0 ∷ 0 ∷ 1 ∷ [])

abbrev pub no_rows : List ℕ
no_rows = EQW ++ (1 ∷ 0 ∷ 0 ∷ [])

-- a witness is 6 bytes, and 5 for each distinct application
abbrev pub table : List Worked
table =
    row row1 isValid 1 1 0 none
    ∷ row row2 isFalsified 2 2 16 none
    ∷ row row3 isFalsified 1 2 16 none
    ∷ row row4 isValid 4 4 0 none
    ∷ row row5 isFalsified 2 4 26 (some witness5)
    ∷ row row6 isFalsified 4 4 26 none
    ∷ row row7 isValid 2 2 0 none
    ∷ row row8 isFalsified 1 2 11 none
    ∷ row row9 isFalsified 2 4 21 none
    ∷ row row10 isValid 1 1 0 none
    ∷ row row11 isFalsified 1 1 6 (some no_rows)
    ∷ row row12 isFalsified 1 4 26 none
    ∷ []

-- the witness at the place that was falsified, where the paper gives one
abbrev witness_seen : List ℕ → Answer Decided → Option (List ℕ) → Option (List ℕ)
witness_seen s answer none = none
witness_seen s (given d) (some w) = some (witness_at s d.tried)
witness_seen s (Answer.refused r) (some w) = some []

-- what the definitions give for a row's formula, with an ample budget and buffers of the least length
abbrev pub seen : Worked → Worked
seen r =
    let answer = decide_answer r.formula (last_node r.formula) 100 21056 206 in
    record { formula = r.formula; says = answer; writes = witness_seen r.formula answer r.writes }

pub rows : map seen table ≡ table
unfolding
    decide_answer decide_refusal buffers_refusal eliminate_refusal refusal_of asked outcome_of true_at values_at witness_at rows_at product
    sizes_of tops_of tops eliminated
rows = refl
