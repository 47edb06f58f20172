-- A test that all members of a list pass: of lists appended, of one member, of equal members. Assumes nothing.
use mathlib.Core.Path.{◌≡◌, refl, ap, ◌∙◌}
use Prim.Native.Nat.{ℕ, zero, suc}
use mathlib.Core.Bool.{Bool, true, false≢true}
use mathlib.Core.List.{List, [], ◌∷◌, ◌++◌}
use mathlib.Core.Logic.{inl, inr}
use lib.ListN.{replicate}
use Rattle.definitions.specs.Lists.{any, all}
use Rattle.theorems.proofs.Laws.Tests.{and_left, and_right, and_intro, or_cases}

module _ {A : Type 0} (p : A → Bool) where
  pub all_append : (xs ys : List A) → all p xs ≡ true → all p ys ≡ true → all p (xs ++ ys) ≡ true
  all_append [] ys e f = f
  all_append (x ∷ xs) ys e f =
      and_intro (p x) (all p (xs ++ ys)) (and_left (p x) (all p xs) e) (all_append xs ys (and_right (p x) (all p xs) e) f)

  pub all_left : (xs ys : List A) → all p (xs ++ ys) ≡ true → all p xs ≡ true
  all_left [] ys e = refl
  all_left (x ∷ xs) ys e =
      and_intro (p x) (all p xs) (and_left (p x) (all p (xs ++ ys)) e) (all_left xs ys (and_right (p x) (all p (xs ++ ys)) e))

  pub all_right : (xs ys : List A) → all p (xs ++ ys) ≡ true → all p ys ≡ true
  all_right [] ys e = e
  all_right (x ∷ xs) ys e = all_right xs ys (and_right (p x) (all p (xs ++ ys)) e)

  pub all_replicate : (n : ℕ) (x : A) → p x ≡ true → all p (replicate n x) ≡ true
  all_replicate zero x e = refl
  all_replicate (suc n) x e = and_intro (p x) (all p (replicate n x)) e (all_replicate n x e)

  pub all_weaker : (q : A → Bool) → ((x : A) → p x ≡ true → q x ≡ true) → (xs : List A) → all p xs ≡ true → all q xs ≡ true
  all_weaker q f [] e = refl
  all_weaker q f (x ∷ xs) e =
      and_intro (q x) (all q xs) (f x (and_left (p x) (all p xs) e)) (all_weaker q f xs (and_right (p x) (all p xs) e))

  -- what equals a member passes what all members pass
  pub any_all : (same : A → Bool) (x : A) → ((y : A) → same y ≡ true → x ≡ y) → (xs : List A) → any same xs ≡ true → all p xs ≡ true → p x ≡ true
  any_all same x is [] e f = absurd (false≢true e)
  any_all same x is (y ∷ ys) e f =
      elim (or_cases (same y) (any same ys) e) [
        | inl h ↦ ap p (is y h) ∙ and_left (p y) (all p ys) f
        | inr h ↦ any_all same x is ys h (and_right (p y) (all p ys) f)
      ]
