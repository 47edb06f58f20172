-- Choices between two values. Assumes nothing.
use mathlib.Core.Path.{◌≡◌, refl, ap, ◌∙◌}
use Prim.Native.Nat.{ℕ}
use mathlib.Core.Bool.{Bool, true, false}
use lib.Dec.{eqb}
use borrow.Author.Tests.{eqb-true, eqb-false}
use Rattle.walk.specs.Cells.{chosen}

-- a choice by a truth value
abbrev by : Bool → ℕ → ℕ → ℕ
by b same apart = elim b as (λ _. ℕ) [ true ↦ same | false ↦ apart ]

-- a choice, by its two cases
pub chosen_is : (x y p q r : ℕ) → (x ≡ y → p ≡ r) → ((x ≡ y → ⊥) → q ≡ r) → chosen x y p q ≡ r
chosen_is x y p q r same apart = go (eqb x y) refl
  where
    go : (b : Bool) → eqb x y ≡ b → by b p q ≡ r
    go true e = same (eqb-true x y e)
    go false e = apart (eqb-false x y e)

-- a choice between equals is the same
pub chosen_equal : (x y p q x' y' p' q' : ℕ) → x ≡ x' → y ≡ y' → p ≡ p' → q ≡ q' → chosen x y p q ≡ chosen x' y' p' q'
chosen_equal x y p q x' y' p' q' a b c d =
    ap (λ n. chosen n y p q) a ∙ ap (λ n. chosen x' n p q) b ∙ ap (λ n. chosen x' y' n q) c ∙ ap (λ n. chosen x' y' p' n) d
