-- What the verdicts mean, in terms of interpretations over the whole numbers, for an accepted problem (01, demand 3 and
-- 'Verdicts'). Assumes nothing.
use mathlib.Core.Path.{◌≡◌, sym, ◌∙◌}
use Prim.Native.Nat.{ℕ, ◌≤◌, ◌<◌}
use native.Mathlib.Omega.{arith}
use mathlib.Core.Bool.{false, false≢true}
use mathlib.Core.Logic.{◌↔◌, inl, inr}
use mathlib.Core.List.{List}
use Rattle.definitions.specs.Logic.{Valid}
use Rattle.definitions.specs.Ranges.{product}
use Rattle.definitions.specs.Places.{true_at}
use Rattle.definitions.specs.Verdict.{valid, falsified, stopped, outcome_of}
use Rattle.theorems.proofs.Accepted.{Accepted}
use Rattle.theorems.specs.Searched.{Falsifiable, AllTrue, FirstFalse}
use Rattle.theorems.proofs.Search.Verdict.{
  first_or_none,
  valid_when,
  falsified_when,
  stopped_when,
  valid_then,
  falsified_then,
  stopped_then,
  valid_grows,
  falsified_grows,
  nothing_tried,
}
use Rattle.theorems.proofs.Truth.{
  some_place,
  assignment_of,
  interpretation_at,
  interpretation_truth,
  place_of,
  place_truth,
}

-- no formula is both
pub not_both : (s : List ℕ) → Valid s → Falsifiable s → ⊥
unfolding Valid
not_both s v f = false≢true (sym f.1 ∙ v f.0)

module _ (s : List ℕ) where
  -- budget 0 gives stopped, 0
  pub zero_budget : outcome_of s 0 ≡ stopped 0
  unfolding outcome_of
  zero_budget = nothing_tried (true_at s) (product s) (some_place s)

  -- a valid or falsified outcome is the same at every larger budget
  pub valid_stays : (b b' tried : ℕ) → b ≤ b' → outcome_of s b ≡ valid tried → outcome_of s b' ≡ valid tried
  unfolding outcome_of
  valid_stays b b' tried h e = valid_grows (true_at s) b b' (product s) tried h e

  pub falsified_stays : (b b' tried : ℕ) → b ≤ b' → outcome_of s b ≡ falsified tried → outcome_of s b' ≡ falsified tried
  unfolding outcome_of
  falsified_stays b b' tried h e = falsified_grows (true_at s) b b' (product s) tried h e

module _ (s : List ℕ) (ok : Accepted s) where
  -- all places are true exactly where the formula is valid
  pub places_valid : AllTrue (true_at s) (product s) ↔ Valid s
  unfolding Valid
  places_valid = (
    λ a I.
        let r = place_of s ok (assignment_of s ok I) in
        sym (interpretation_truth s ok I) ∙ r.3 ∙ a r.0 r.1 r.2,
    λ v p l h. sym (place_truth s ok p) ∙ v (interpretation_at s ok p),
  )

  -- a false place has an interpretation that makes the formula false
  pub place_falsifies : (p : ℕ) → true_at s p ≡ false → Falsifiable s
  place_falsifies p e = (interpretation_at s ok p, place_truth s ok p ∙ e)

  pub falsifiable_place : Falsifiable s → (p : ℕ) × FirstFalse (true_at s) (product s) p
  falsifiable_place f =
      elim (first_or_none (true_at s) (product s)) [
        | inl a ↦ absurd (not_both s (places_valid.0 a.1) f)
        | inr r ↦ (r.0, r.2)
      ]

  module _ (budget : ℕ) where
    -- valid, whatever the budget: every interpretation makes the formula true
    pub valid_sound : (tried : ℕ) → outcome_of s budget ≡ valid tried → (tried ≡ product s) × (product s ≤ budget) × Valid s
    unfolding outcome_of
    valid_sound tried e =
        let r = valid_then (true_at s) budget (product s) tried e in
        (r.0, r.1, places_valid.0 r.2)

    pub falsified_sound : (tried : ℕ) → outcome_of s budget ≡ falsified tried
        → (tried ≤ budget) × FirstFalse (true_at s) (product s) tried × Falsifiable s
    unfolding outcome_of
    falsified_sound tried e =
        let r = falsified_then (true_at s) budget (product s) tried e in
        (r.0, r.1, place_falsifies tried r.1.fails)

    -- with a budget of at least the product, valid is exactly valid and falsified exactly falsifiable
    pub valid_exactly : product s ≤ budget → (outcome_of s budget ≡ valid (product s)) ↔ Valid s
    unfolding outcome_of
    valid_exactly h = (
      λ e. (valid_sound (product s) e).2,
      λ v. valid_when (true_at s) budget (product s) h (places_valid.1 v),
    )

    pub falsified_exactly : product s ≤ budget → ((tried : ℕ) × (outcome_of s budget ≡ falsified tried)) ↔ Falsifiable s
    unfolding outcome_of
    falsified_exactly h = (
      λ r. (falsified_sound r.0 r.1).2,
      λ f.
          let r = falsifiable_place f in
          (r.0, falsified_when (true_at s) budget (product s) r.0 r.1 (let l = r.1.high in omega arith)),
    )

    -- with less, stopped is exactly that the first `budget` places all hold
    pub stopped_exactly : budget < product s → (outcome_of s budget ≡ stopped budget) ↔ AllTrue (true_at s) budget
    unfolding outcome_of
    stopped_exactly h = (
      λ e. (stopped_then (true_at s) budget (product s) budget e).2,
      λ a. stopped_when (true_at s) budget (product s) h a,
    )

    pub stopped_sound : (tried : ℕ) → outcome_of s budget ≡ stopped tried
        → (tried ≡ budget) × (budget < product s) × AllTrue (true_at s) budget
    unfolding outcome_of
    stopped_sound tried e = stopped_then (true_at s) budget (product s) tried e
