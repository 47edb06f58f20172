-- Truth values, numbers compared, and what may be missing: small laws that every other file cites. Assumes nothing.
use mathlib.Core.Path.{◌≡◌, refl, sym}
use Prim.Native.Nat.{ℕ, ◌≤◌, ◌<◌}
use native.Mathlib.Omega.{arith}
use mathlib.Core.Bool.{Bool, true, false, ◌&&◌, ◌||◌, and-eq-true_iff}
use mathlib.Core.Logic.{◌⊎◌, inl, inr}
use mathlib.Core.Option.{Option, none, some}
use lib.Dec.{eqb, ltb}
use borrow.Author.Tests.{eq-eqb, eqb-true, ltb-true, ltb-false}

pub or_cases : (a b : Bool) → a || b ≡ true → (a ≡ true) ⊎ (b ≡ true)
or_cases true b e = inl refl
or_cases false b e = inr e

pub or_left : (a b : Bool) → a ≡ true → a || b ≡ true
or_left a b e = rw e

pub or_right : (a b : Bool) → b ≡ true → a || b ≡ true
or_right true b e = refl
or_right false b e = e

pub and_intro : (a b : Bool) → a ≡ true → b ≡ true → a && b ≡ true
and_intro a b p q = (and-eq-true_iff a b).1 (p, q)

pub and_left : (a b : Bool) → a && b ≡ true → a ≡ true
and_left a b e = ((and-eq-true_iff a b).0 e).0

pub and_right : (a b : Bool) → a && b ≡ true → b ≡ true
and_right a b e = ((and-eq-true_iff a b).0 e).1

-- two tests that are true together are equal
pub same_test : (a b : Bool) → (a ≡ true → b ≡ true) → (b ≡ true → a ≡ true) → a ≡ b
same_test true b f g = sym (f refl)
same_test false true f g = g refl
same_test false false f g = refl

pub eqb_swap : (u v : ℕ) → eqb u v ≡ eqb v u
eqb_swap u v = same_test (eqb u v) (eqb v u) (λ e. eq-eqb v u (sym (eqb-true u v e))) (λ e. eq-eqb u v (sym (eqb-true v u e)))

-- a number is below another or not
pub split : (m n : ℕ) → (m < n) ⊎ (n ≤ m)
split m n = go (ltb m n) refl
  where
    go : (b : Bool) → ltb m n ≡ b → (m < n) ⊎ (n ≤ m)
    go true e = inl (ltb-true m n e)
    go false e = inr (ltb-false m n e)

module _ {A : Type 0} where
  pub some_same : (x y : A) → ◌≡◌ {A = Option A} (some x) (some y) → x ≡ y
  some_same x y e = cc

  pub none≢some : {x : A} → ◌≡◌ {A = Option A} none (some x) → ⊥
  none≢some e = let z : ◌≡◌ {A = ℕ} 0 1 = cc in omega arith

-- two constructors are never equal: `cc` proves 0 ≡ 1 from such an equation
pub clash : {A : Type 0} → ◌≡◌ {A = ℕ} 0 1 → A
clash z = absurd (omega arith)
