-- What a search over a list finds is the first member that fails a test; what a search over its places finds is the position of the
-- first that passes one. Assumes nothing.
use native.Mathlib.Numerals.{add-one}
use Rattle.std.proofs.Math.Option.{some}
use native.Mathlib.Omega.{arith}
use borrow.Author.Tests.{lt-ltb, le-ltb}
use Rattle.std.specs.Prelude.{Option, Some, None, cond}
use Rattle.std.specs.Option.{MatchOption}
use Rattle.std.proofs.lemmas.List.Sums.{position_or_len_is}
use Rattle.std.proofs.Common.{◌≡◌, ◌<◌, ◌≤◌, ℕ, suc, List, [], ◌∷◌, Bool, true, false, not, refl, sym, ap, ◌∙◌, length, get_or}
use Rattle.std.specs.List.{position, position_from, position_or_len}
use Rattle.std.proofs.lemmas.Iterator.Adapters.{position_from-zero}
use Rattle.definitions.specs.Lists.{first_failing}
use Rattle.problem.specs.Stages.{found_of}

module _ {A : Type 0} (f : A → Bool) where
  found_from : (i : ℕ) (xs : List A) → found_of (position_from (λ x. not (f x)) i xs) ≡ first_failing f i xs
  found_from i [] = refl
  found_from i (x ∷ xs) = rw (add-one i) (go (f x) (found_from (suc i) xs))
    where
      go : (b : Bool) → found_of (position_from (λ y. not (f y)) (suc i) xs) ≡ first_failing f (suc i) xs
          → found_of (cond (not b) (Some i) (position_from (λ y. not (f y)) (suc i) xs)) ≡ elim b [ true ↦ first_failing f (suc i) xs | false ↦ some i ]
      go true rec = rec
      go false rec = refl

  pub position_failing : (xs : List A) → found_of (position (λ x. not (f x)) xs) ≡ first_failing f 0 xs
  position_failing xs = ap found_of (position_from-zero (λ x. not (f x)) xs) ∙ found_from 0 xs

-- the first place whose member passes is the position; of a place outside the list nothing is known
module _ {X : Type 0} (p : X → Bool) (xs : List X) (d : X) where
  abbrev pub tested : Bool → ℕ → Type 0
  tested b k = k < length xs → p (get_or xs k d) ≡ b

  pub range_position : (r : Option ℕ)
      → MatchOption r ((k : ℕ) → 0 ≤ k → k < length xs → tested false k)
      (λ i. (0 ≤ i) × (i < length xs) × tested true i × ((k : ℕ) → 0 ≤ k → k < i → tested false k))
      → r ≡ position p xs
  range_position None m =
      let e = position_or_len_is p xs (length xs) d (omega arith) (λ k h. m k (omega arith) h h) (λ g. absurd (omega arith)) in
      rw (le-ltb (position_or_len p xs) (length xs) (omega arith)) refl
  range_position (Some i) m =
      let e = position_or_len_is p xs i d (omega (arith, m.1)) (λ k h. m.3 k (omega arith) h (omega (arith, m.1))) (λ g. m.2 m.1) in
      rw (lt-ltb (position_or_len p xs) (length xs) (omega (arith, m.1))) (ap Some (sym e))
