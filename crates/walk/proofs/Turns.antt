-- The successor, digit by digit: the digits at their tops go back to 0, and the first that is not turns. Assumes nothing.
use mathlib.Core.Path.{◌≡◌, refl, sym, ap, ap₂, ◌∙◌}
use Prim.Native.Nat.{ℕ, zero, suc, ◌≤◌, ◌<◌}
use native.Mathlib.Omega.{arith}
use mathlib.Core.Bool.{Bool, true, false}
use mathlib.Core.List.{List, [], ◌∷◌}
use lib.ListN.{length, get_or}
use lib.Seq.{ext_get_or, get_or-take, length-take-le}
use borrow.Author.Tests.{lt-ltb, le-ltb}
use Rattle.definitions.specs.Places.{next}
use Rattle.theorems.proofs.Search.Places.{Positive}
use Rattle.walk.specs.Digits.{sizes_in}
use Rattle.walk.specs.declared.odometer.Odometer.{Odometer}

module _ (s d : ℕ) (ss ds : List ℕ) where
  abbrev picked : Bool → List ℕ
  picked b = elim b as (λ _. List ℕ) [ true ↦ suc d ∷ ds | false ↦ 0 ∷ next ss ds ]

  turn : suc d < s → next (s ∷ ss) (d ∷ ds) ≡ suc d ∷ ds
  turn h = ap picked (lt-ltb (suc d) s h)

  carry : s ≤ suc d → next (s ∷ ss) (d ∷ ds) ≡ 0 ∷ next ss ds
  carry h = ap picked (le-ltb (suc d) s h)

-- digits before i are at their tops in ds, and 0 in es
pub record Carried (i : ℕ) (ss ds es : List ℕ) : Type 0 where
  pub digits_long : length ds ≡ length ss
  pub next_long : length es ≡ length ss
  pub tops : (j : ℕ) → j < i → get_or ss j 0 ≤ suc (get_or ds j 0)
  pub zeros : (j : ℕ) → j < i → get_or es j 0 ≡ 0

carried_tail : (i s d e : ℕ) (ss ds es : List ℕ) → Carried (suc i) (s ∷ ss) (d ∷ ds) (e ∷ es) → Carried i ss ds es
carried_tail i s d e ss ds es c =
    let a = c.digits_long in
    let b = c.next_long in
    record {
      digits_long = omega arith;
      next_long = omega arith;
      tops = λ j h. c.tops (suc j) (omega arith);
      zeros = λ j h. c.zeros (suc j) (omega arith);
    }

same_digits : (i : ℕ) (ds es : List ℕ) (n : ℕ) → length ds ≡ n → length es ≡ n → ((j : ℕ) → get_or es j 0 ≡ get_or ds j 0) → es ≡ ds
same_digits i ds es n p q h = ext_get_or 0 es ds (q ∙ sym p) (λ j l. h j)

-- the first digit that is not at its top turns
pub next_turns : (i : ℕ) (ss ds es : List ℕ) → Carried i ss ds es → i < length ss → suc (get_or ds i 0) < get_or ss i 0
    → get_or es i 0 ≡ suc (get_or ds i 0) → ((j : ℕ) → i < j → get_or es j 0 ≡ get_or ds j 0) → es ≡ next ss ds
next_turns i [] ds es c h t e r = absurd (omega arith)
next_turns i (s ∷ ss) [] es c h t e r = absurd (let a = c.digits_long in omega arith)
next_turns i (s ∷ ss) (d ∷ ds) [] c h t e r = absurd (let a = c.next_long in omega arith)
next_turns zero (s ∷ ss) (d ∷ ds) (x ∷ es) c h t e r =
    let a = c.digits_long in
    let b = c.next_long in
    ap₂ {C = List ℕ} (λ y ys. y ∷ ys) e
    (same_digits 0 ds es (length ss) (omega arith) (omega arith) (λ j. r (suc j) (omega arith)))
    ∙ sym (turn s d ss ds t)
next_turns (suc i) (s ∷ ss) (d ∷ ds) (x ∷ es) c h t e r =
    ap₂ {C = List ℕ} (λ y ys. y ∷ ys) (c.zeros 0 (omega arith))
    (next_turns i ss ds es (carried_tail i s d x ss ds es c) (omega arith) t e (λ j l. r (suc j) (omega arith)))
    ∙ sym (carry s d ss ds (c.tops 0 (omega arith)))

-- where all are at their tops, all go back to 0
pub next_wraps : (ss ds es : List ℕ) → Carried (length ss) ss ds es → es ≡ next ss ds
next_wraps [] ds [] c = refl
next_wraps [] ds (x ∷ es) c = absurd (let b = c.next_long in omega arith)
next_wraps (s ∷ ss) [] es c = absurd (let a = c.digits_long in omega arith)
next_wraps (s ∷ ss) (d ∷ ds) [] c = absurd (let b = c.next_long in omega arith)
next_wraps (s ∷ ss) (d ∷ ds) (x ∷ es) c =
    ap₂ {C = List ℕ} (λ y ys. y ∷ ys) (c.zeros 0 (omega arith)) (next_wraps ss ds es (carried_tail (length ss) s d x ss ds es c))
    ∙ sym (carry s d ss ds (c.tops 0 (omega arith)))

positive_of : (ss : List ℕ) → ((j : ℕ) → j < length ss → 1 ≤ get_or ss j 0) → Positive ss
positive_of [] h = tt
positive_of (s ∷ ss) h = (h 0 (omega arith), positive_of ss (λ j g. h (suc j) (omega arith)))

-- sizes above digits are positive
pub positive : (o : Odometer) → Positive (sizes_in o)
positive o =
    let t = o.turning in
    let few = t.few in
    let long = t.sizes_long in
    let l = length-take-le o.count o.sizes (omega arith) in
    positive_of (sizes_in o)
    (λ j h.
    let w = t.within j (omega arith) in
    let e = get_or-take o.count o.sizes j 0 (omega arith) in
    omega arith)
