-- What a search of the places says (01, 'Verdicts'), over any test of places; and the other words of Top: a formula that some
-- interpretation falsifies, the truth of a table that stands in bytes, the count of an answer. Assumes nothing.
use Rattle.std.specs.Prelude.{◌≡◌, ℕ, min, ◌≤◌, ◌<◌, Bool, true, false, cond, List, [], length, leb, Result, Ok, Err}
use Rattle.std.proofs.Math.Option.{Option, none, some}
use Rattle.definitions.specs.Lists.{product_of}
use Rattle.definitions.specs.Problem.Node.{nodes_at}
use Rattle.definitions.specs.Logic.{Interpretation, values, truth_at, holds, holds_at}
use Rattle.definitions.specs.Elimination.{eliminated, table_of, root_of}
use Rattle.definitions.specs.Verdict.{Outcome, valid, falsified, stopped}
use Rattle.definitions.specs.declared.Refusal.{Refusal}
use Rattle.definitions.specs.declared.Verdict.{Verdict}
use Rattle.definitions.specs.declared.Decision.{Decision}

-- some interpretation makes the formula false; and that at a named root
abbrev pub Falsifiable : List ℕ → Type 0
Falsifiable s = (I : Interpretation) × (holds I s ≡ false)

abbrev pub FalsifiableAt : List ℕ → ℕ → Type 0
FalsifiableAt s root = (I : Interpretation) × (holds_at I s root ≡ false)

-- the truth, under an assignment, of the root of the function-free table that stands at the start of some bytes
abbrev pub table_truth : List ℕ → List ℕ → Interpretation → Bool
table_truth s bytes A = truth_at (values A [] (nodes_at bytes 0 (length (table_of s)))) (root_of (eliminated s))

-- the places 1 to n are true
abbrev pub AllTrue : (ℕ → Bool) → ℕ → Type 0
AllTrue good n = (p : ℕ) → 1 ≤ p → p ≤ n → good p ≡ true

-- p is the first false place, and at most n
pub record FirstFalse (good : ℕ → Bool) (n p : ℕ) : Type 0 where
  pub low : 1 ≤ p
  pub high : p ≤ n
  pub fails : good p ≡ false
  pub before : (q : ℕ) → 1 ≤ q → q < p → good q ≡ true

-- what each outcome says of n places and the budget b
abbrev pub Says : (ℕ → Bool) → ℕ → ℕ → Outcome → Type 0
Says good b n (valid t) = (t ≡ n) × (n ≤ b) × AllTrue good n
Says good b n (falsified t) = (t ≤ b) × FirstFalse good n t
Says good b n (stopped t) = (t ≡ b) × (b < n) × AllTrue good b

-- tried: the first false place if the budget reaches it, else the smaller of budget and product
abbrev pub tried_within : ℕ → ℕ → Option ℕ → ℕ
tried_within budget product (some place) = cond (leb place budget) place (min budget product)
tried_within budget product none = min budget product

-- decide's answers that are no refusal, each with the count tried and the product; falsified has the witness's length too
abbrev pub with_verdict : Verdict → ℕ → ℕ → Result Decision Refusal
with_verdict verdict tried product = Ok (record { verdict = verdict; tried = tried; product = product })

abbrev pub valid_answer : ℕ → ℕ → Result Decision Refusal
valid_answer tried product = with_verdict Verdict.Valid tried product

abbrev pub falsified_answer : ℕ → ℕ → ℕ → Result Decision Refusal
falsified_answer tried product written = with_verdict (Verdict.Falsified written) tried product

abbrev pub stopped_answer : ℕ → ℕ → Result Decision Refusal
stopped_answer tried product = with_verdict Verdict.Stopped tried product

-- the count that an answer gives; a refusal has none
abbrev pub tried_of : Result Decision Refusal → ℕ
tried_of (Ok d) = d.tried
tried_of (Err x) = 0

-- counted from 0, the places of so many sizes are those below their product
abbrev pub IsPlace : List ℕ → ℕ → Type 0
IsPlace sizes p = p < product_of sizes
