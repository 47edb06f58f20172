-- The digits of a budget are read one by one, the high one first. Assumes nothing.
use mathlib.Core.Path.{◌≡◌, refl, sym, ap, ◌∙◌}
use Prim.Native.Nat.{ℕ, ◌+◌, ◌^◌, ◌≤◌, ◌<◌}
use native.Mathlib.Numerals.{add-one}
use native.Mathlib.Nat.{pow-le-pow_right}
use native.Mathlib.Omega.{arith}
use mathlib.Core.Bool.{Bool, true, false, ◌&&◌}
use mathlib.Core.List.{List, [], ◌∷◌}
use mathlib.Core.Option.{Option, none, some}
use lib.ListN.{length, get_or, drop, drop_of_length-le}
use lib.Seq.{drop-cons}
use lib.Dec.{ltb}
use borrow.Author.Tests.{lt-ltb, le-ltb}
use Rattle.definitions.specs.Lists.{all}
use Rattle.definitions.specs.Text.Tokens.{digit}
use Rattle.definitions.specs.Solve.{number_from, budget_in}

abbrev taken : List ℕ → Bool → Option ℕ
taken ds b = elim b [ true ↦ some (number_from 0 ds) | false ↦ none ]

budget_by : (ds : List ℕ) → (length ds ≡ 0 → ⊥) → budget_in ds ≡ taken ds (ltb (length ds) 20 && all digit ds)
unfolding budget_in
budget_by [] h = absurd (h refl)
budget_by (b ∷ bs) h = refl

pub budget_none : (ds : List ℕ) → length ds ≡ 0 → some 1000000000 ≡ budget_in ds
unfolding budget_in
budget_none [] h = refl
budget_none (b ∷ bs) h = absurd (omega arith)

pub budget_long : (ds : List ℕ) → 20 ≤ length ds → none ≡ budget_in ds
budget_long ds h =
    sym (budget_by ds (λ e. omega arith) ∙ ap (λ (b : Bool). taken ds (b && all digit ds)) (le-ltb (length ds) 20 h))

-- so many digits are read
pub record Digits (ds : List ℕ) (i n : ℕ) : Type 0 where
  pub inside : i ≤ length ds
  pub so_far : number_from n (drop i ds) ≡ number_from 0 ds
  pub right : all digit (drop i ds) ≡ all digit ds
  pub small : n < 10 ^ i

module _ (ds : List ℕ) (i n : ℕ) (h : length ds < 20) (d : Digits ds i n) where
  pub digits_fit : i < length ds → n < 1000000000000000000
  digits_fit l =
      let p : 10 ^ i ≤ 10 ^ 18 = pow-le-pow_right {n = 10} (omega arith) {i = i} {j = 18} (omega arith) in
      let s = d.small in
      omega arith

  short : ltb (length ds) 20 ≡ true
  short = lt-ltb (length ds) 20 h

  by_short : (length ds ≡ 0 → ⊥) → {b : Bool} → all digit ds ≡ b → budget_in ds ≡ taken ds b
  by_short z e = budget_by ds z ∙ ap (λ (b : Bool). taken ds (b && all digit ds)) short ∙ ap (taken ds) e

  module _ (l : i < length ds) where
    abbrev b : ℕ
    b = get_or ds i 0

    split : drop i ds ≡ b ∷ drop (i + 1) ds
    split = drop-cons ds i 0 l ∙ ap (λ (k : ℕ). b ∷ drop k ds) (sym (add-one i))

    all_by : {t : Bool} → digit b ≡ t → all digit ds ≡ (t && all digit (drop (i + 1) ds))
    all_by e = sym d.right ∙ ap (all digit) split ∙ ap (λ (t : Bool). t && all digit (drop (i + 1) ds)) e

    pub digits_wrong : digit b ≡ false → none ≡ budget_in ds
    digits_wrong e = sym (by_short (λ z. omega arith) (all_by e))

  pub digits_all : (length ds ≡ 0 → ⊥) → length ds ≤ i → some n ≡ budget_in ds
  digits_all z l =
      let gone : drop i ds ≡ [] = drop_of_length-le ds {i = i} l in
      ap some (sym (ap (number_from n) gone) ∙ d.so_far) ∙ sym (by_short z (sym d.right ∙ ap (all digit) gone))
