-- The verdict within a budget, with the number of assignments tried (01, 'Verdicts'). Assumes nothing.
use Rattle.std.specs.Prelude.{ℕ, zero, suc, List, Bool, true, false, leb}
use Rattle.std.proofs.Math.Option.{Option, none, some}
use Rattle.definitions.specs.Ranges.{product}
use Rattle.definitions.specs.Places.{true_at}

-- each with the number of assignments tried, in order from place 1
pub data Outcome : Type 0 where
  valid falsified stopped : ℕ → Outcome

-- the first false place among the n places from p on; good says which places are true
abbrev pub first_false : (ℕ → Bool) → ℕ → ℕ → Option ℕ
first_false good p zero = none
first_false good p (suc n) = elim (good p) [ true ↦ first_false good (suc p) n | false ↦ some p ]

-- where the place reached is within the budget, this outcome; else stopped, with the budget spent
abbrev pub within : ℕ → ℕ → (ℕ → Outcome) → Outcome
within budget place outcome = elim (leb place budget) [ true ↦ outcome place | false ↦ stopped budget ]

-- falsified: the first false place is at most the budget. Valid: no place is false and the product is at most the budget
abbrev pub outcome_at : ℕ → ℕ → Option ℕ → Outcome
outcome_at budget product (some place) = within budget place falsified
outcome_at budget product none = within budget product valid

abbrev pub outcome : ℕ → ℕ → (ℕ → Bool) → Outcome
outcome budget product good = outcome_at budget product (first_false good 1 product)

-- the outcome for a problem
unfoldable pub outcome_of : List ℕ → ℕ → Outcome
outcome_of s budget = outcome budget (product s) (true_at s)
