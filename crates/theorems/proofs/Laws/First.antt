-- The first that is there, of a list in which members may be missing. Assumes nothing.
use mathlib.Core.Path.{◌≡◌, refl, sym}
use Prim.Native.Nat.{ℕ, zero, suc, ◌<◌}
use native.Mathlib.Omega.{arith}
use mathlib.Core.List.{List, [], ◌∷◌, ◌++◌}
use mathlib.Core.Option.{Option, none, some}
use lib.ListN.{length, get_or, take}
use Rattle.definitions.specs.Lists.{first_of}
use Rattle.theorems.proofs.Laws.Tests.{none≢some}

abbrev pub AllNone : {A : Type 0} → List (Option A) → Type 0
AllNone [] = Unit {0}
AllNone (x ∷ xs) = (x ≡ none) × AllNone xs

module _ {A : Type 0} where
  -- where nothing is first, nothing is there, and the other way round
  pub all_none : (xs : List (Option A)) → first_of xs ≡ none → AllNone xs
  all_none [] e = tt
  all_none (none ∷ xs) e = (refl, all_none xs e)
  all_none (some x ∷ xs) e = absurd (none≢some (sym e))

  -- of two lists, one after the other
  pub none_left : (xs ys : List (Option A)) → AllNone (xs ++ ys) → AllNone xs
  none_left [] ys p = tt
  none_left (x ∷ xs) ys p = (p.0, none_left xs ys p.1)

  pub none_right : (xs ys : List (Option A)) → AllNone (xs ++ ys) → AllNone ys
  none_right [] ys p = p
  none_right (x ∷ xs) ys p = none_right xs ys p.1

  pub none_both : (xs ys : List (Option A)) → AllNone xs → AllNone ys → AllNone (xs ++ ys)
  none_both [] ys p q = q
  none_both (x ∷ xs) ys p q = (p.0, none_both xs ys p.1 q)

  pub first_none : (xs : List (Option A)) → AllNone xs → first_of xs ≡ none
  first_none [] p = refl
  first_none (y ∷ ys) p = rw p.0 (first_none ys p.1)

  -- what stands after some that are missing is the first
  pub first_at_lem : (xs : List (Option A)) (k : ℕ) (x : A) → AllNone (take k xs) → get_or xs k none ≡ some x → first_of xs ≡ some x
  first_at_lem [] k x p e = absurd (none≢some e)
  first_at_lem (y ∷ ys) zero x p e = rw e
  first_at_lem (y ∷ ys) (suc k) x p e = rw p.0 (first_at_lem ys k x p.1 e)

  -- and the first stands after some that are missing
  pub first_where : (xs : List (Option A)) (x : A) → first_of xs ≡ some x → (k : ℕ) × (get_or xs k none ≡ some x) × AllNone (take k xs)
  first_where [] x e = absurd (none≢some e)
  first_where (some y ∷ ys) x e = (0, e, tt)
  first_where (none ∷ ys) x e = let r = first_where ys x e in (suc r.0, r.1, (refl, r.2))

  -- where all are missing, each is
  pub none_at : (xs : List (Option A)) → AllNone xs → (j : ℕ) → get_or xs j none ≡ none
  none_at [] p j = refl
  none_at (y ∷ ys) p zero = p.0
  none_at (y ∷ ys) p (suc j) = none_at ys p.1 j

  -- what is there is a member
  pub there_below : (xs : List (Option A)) (j : ℕ) (x : A) → get_or xs j none ≡ some x → j < length xs
  there_below [] j x e = absurd (none≢some e)
  there_below (y ∷ ys) zero x e = omega arith
  there_below (y ∷ ys) (suc j) x e = let h = there_below ys j x e in omega arith

  -- the first of a first and what comes after it is the first of them all
  pub first_append : (xs ys : List (Option A)) → first_of (first_of xs ∷ ys) ≡ first_of (xs ++ ys)
  first_append [] ys = refl
  first_append (some x ∷ xs) ys = refl
  first_append (none ∷ xs) ys = first_append xs ys
