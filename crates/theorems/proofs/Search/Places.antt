-- Every assignment within the ranges stands at exactly one place, and after the last place comes the first again.
-- Assumes nothing.
use mathlib.Core.Path.{◌≡◌, refl, sym, ap, ◌∙◌, subst}
use Prim.Native.Nat.{ℕ, zero, suc, ◌+◌, ◌*◌, ◌/◌, ◌%◌, ◌≤◌, ◌<◌}
use native.Mathlib.Omega.{arith}
use native.Mathlib.Nat.{mul-le-mul_left, mul_assoc, one-mul, one-le-mul, mod-lt, div-add-mod', div-lt_iff_lt-mul}
use mathlib.Core.Bool.{Bool, true, false}
use mathlib.Core.List.{List, [], ◌∷◌, ◌++◌}
use lib.ListN.{length, length-replicate}
use lib.Dec.{ltb}
use borrow.Author.Tests.{lt-ltb, le-ltb}
use Rattle.definitions.specs.Lists.{product_of}
use Rattle.definitions.specs.Places.{next, first, digits_after, digits_at}
use Rattle.theorems.specs.Searched.{IsPlace}

-- every size is at least 1
abbrev pub Positive : List ℕ → Type 0
Positive [] = Unit {0}
Positive (s ∷ ss) = (1 ≤ s) × Positive ss

-- the digits are in their ranges
abbrev pub Within : List ℕ → List ℕ → Type 0
Within [] [] = Unit {0}
Within [] (d ∷ ds) = ⊥
Within (s ∷ ss) [] = ⊥
Within (s ∷ ss) (d ∷ ds) = (d < s) × Within ss ds

pub product_positive : (sizes : List ℕ) → Positive sizes → 1 ≤ product_of sizes
product_positive [] h = omega arith
product_positive (s ∷ ss) h = one-le-mul h.0 (product_positive ss h.1)

pub product_of_append : (xs ys : List ℕ) → product_of (xs ++ ys) ≡ product_of xs * product_of ys
product_of_append [] ys = sym (one-mul (product_of ys))
product_of_append (x ∷ xs) ys =
    ap (λ (n : ℕ). x * n) (product_of_append xs ys) ∙ sym (mul_assoc x (product_of xs) (product_of ys))

-- the two ways that a successor goes: the first digit turns, or goes back to 0 and carries
module _ (s d : ℕ) (ss ds : List ℕ) where
  abbrev chosen : Bool → List ℕ
  chosen b = elim b as (λ _. List ℕ) [ true ↦ suc d ∷ ds | false ↦ 0 ∷ next ss ds ]

  turn : suc d < s → next (s ∷ ss) (d ∷ ds) ≡ suc d ∷ ds
  turn h = ap chosen (lt-ltb (suc d) s h)

  carry : s ≤ suc d → next (s ∷ ss) (d ∷ ds) ≡ 0 ∷ next ss ds
  carry h = ap chosen (le-ltb (suc d) s h)

  chosen_length : (n : ℕ) → length ds ≡ n → length (next ss ds) ≡ n → (b : Bool) → length (chosen b) ≡ suc n
  chosen_length n p q true = ap suc p
  chosen_length n p q false = ap suc q

next_length : (sizes ds : List ℕ) → length ds ≡ length sizes → length (next sizes ds) ≡ length sizes
next_length [] ds e = refl
next_length (s ∷ ss) [] e = e
next_length (s ∷ ss) (d ∷ ds) e =
    let l : length ds ≡ length ss = omega arith in
    chosen_length s d ss ds (length ss) l (next_length ss ds l) (ltb (suc d) s)

pub digits_length : (sizes : List ℕ) (p : ℕ) → length (digits_after sizes p) ≡ length sizes
digits_length sizes zero = length-replicate (length sizes) 0
digits_length sizes (suc p) = next_length sizes (digits_after sizes p) (digits_length sizes p)

-- the digits at place p + 1 are the successor's
pub successor : (sizes : List ℕ) (p : ℕ) → 1 ≤ p → digits_at sizes (suc p) ≡ next sizes (digits_at sizes p)
successor sizes zero h = absurd (omega arith)
successor sizes (suc p) h = refl

-- the first digit turns s times while the others stand
run : (s : ℕ) (ss : List ℕ) (q : ℕ) → digits_after (s ∷ ss) (q * s) ≡ 0 ∷ digits_after ss q → (r : ℕ) → r < s
    → digits_after (s ∷ ss) (q * s + r) ≡ r ∷ digits_after ss q
run s ss q b zero h = ap (digits_after (s ∷ ss)) (let e : q * s + 0 ≡ q * s = omega arith in e) ∙ b
run s ss q b (suc r) h =
    ap (digits_after (s ∷ ss)) (let e : q * s + suc r ≡ suc (q * s + r) = omega arith in e)
    ∙ ap (next (s ∷ ss)) (run s ss q b r (omega arith))
    ∙ turn s r ss (digits_after ss q) h

base : (s : ℕ) (ss : List ℕ) (q : ℕ) → digits_after (suc s ∷ ss) (q * suc s) ≡ 0 ∷ digits_after ss q
base s ss zero = ap (digits_after (suc s ∷ ss)) (let e : 0 * suc s ≡ 0 = omega arith in e)
base s ss (suc q) =
    ap (digits_after (suc s ∷ ss)) (let e : suc q * suc s ≡ suc (q * suc s + s) = omega arith in e)
    ∙ ap (next (suc s ∷ ss)) (run (suc s) ss q (base s ss q) s (omega arith))
    ∙ carry (suc s) s ss (digits_after ss q) (omega arith)

pub split_digits : (s : ℕ) (ss : List ℕ) (q r : ℕ) → r < s → digits_after (s ∷ ss) (q * s + r) ≡ r ∷ digits_after ss q
split_digits zero ss q r h = absurd (omega arith)
split_digits (suc s) ss q r h = run (suc s) ss q (base s ss q) r h

no_digits : (p : ℕ) → digits_after [] p ≡ []
no_digits zero = refl
no_digits (suc p) = refl

-- the first digit is the remainder by its size, and the others stand at the quotient
divided : (s : ℕ) (ss : List ℕ) → 1 ≤ s → (p : ℕ) → digits_after (s ∷ ss) p ≡ p % s ∷ digits_after ss (p / s)
divided s ss h p = ap (digits_after (s ∷ ss)) (sym (div-add-mod' p s)) ∙ split_digits s ss (p / s) (p % s) (mod-lt p h)

pub after_within : (sizes : List ℕ) → Positive sizes → (p : ℕ) → Within sizes (digits_after sizes p)
after_within [] h p = subst (Within []) (sym (no_digits p)) tt
after_within (s ∷ ss) h p =
    subst (Within (s ∷ ss)) (sym (divided s ss h.0 p)) (mod-lt p h.0, after_within ss h.1 (p / s))

-- after the last place the digits are those of the first
pub wraps : (sizes : List ℕ) → Positive sizes → digits_after sizes (product_of sizes) ≡ first sizes
wraps [] h = refl
wraps (s ∷ ss) h =
    ap (digits_after (s ∷ ss)) (let e : s * product_of ss ≡ product_of ss * s + 0 = omega arith in e)
    ∙ split_digits s ss (product_of ss) 0 h.0
    ∙ ap {B = List ℕ} (λ x. 0 ∷ x) (wraps ss h.1)

pub reach : (sizes ds : List ℕ) → Within sizes ds → (p : ℕ) × (p < product_of sizes) × (digits_after sizes p ≡ ds)
reach [] [] w = (0, omega arith, refl)
reach [] (d ∷ ds) w = absurd w
reach (s ∷ ss) [] w = absurd w
reach (s ∷ ss) (d ∷ ds) w =
    let r = reach ss ds w.1 in
    let h = w.0 in
    let l = r.1 in
    let m = mul-le-mul_left s l in
    (r.0 * s + d, omega arith, split_digits s ss r.0 d h ∙ ap {B = List ℕ} (λ x. d ∷ x) r.2)

-- the number that digits stand for
abbrev number : List ℕ → List ℕ → ℕ
number [] ds = 0
number (s ∷ ss) [] = 0
number (s ∷ ss) (d ∷ ds) = number ss ds * s + d

number_after : (sizes : List ℕ) → Positive sizes → (p : ℕ) → IsPlace sizes p
    → number sizes (digits_after sizes p) ≡ p
number_after [] h p l = omega arith
number_after (s ∷ ss) h p l =
    let q : p < product_of ss * s = omega arith in
    ap (number (s ∷ ss)) (divided s ss h.0 p)
    ∙ ap (λ (n : ℕ). n * s + p % s) (number_after ss h.1 (p / s) ((div-lt_iff_lt-mul h.0).1 q))
    ∙ div-add-mod' p s

-- no two places have the same digits
pub one_place : (sizes : List ℕ) → Positive sizes → (p q : ℕ) → IsPlace sizes p → IsPlace sizes q
    → digits_after sizes p ≡ digits_after sizes q → p ≡ q
one_place sizes h p q lp lq e = sym (number_after sizes h p lp) ∙ ap (number sizes) e ∙ number_after sizes h q lq

-- digits in their ranges stand at exactly one place, counted from 1
pub placed : (sizes ds : List ℕ) → Positive sizes → Within sizes ds
    → (p : ℕ) × (1 ≤ p) × (p ≤ product_of sizes) × (digits_at sizes p ≡ ds)
    × ((q : ℕ) → 1 ≤ q → q ≤ product_of sizes → digits_at sizes q ≡ ds → q ≡ p)
placed sizes ds h w = (suc r.0, omega arith, r.1, r.2, only)
  where
    r : (p : ℕ) × (p < product_of sizes) × (digits_after sizes p ≡ ds)
    r = reach sizes ds w

    only : (q : ℕ) → 1 ≤ q → q ≤ product_of sizes → digits_at sizes q ≡ ds → q ≡ suc r.0
    only zero a b e = absurd (omega arith)
    only (suc q) a b e = ap suc (one_place sizes h q r.0 b r.1 (e ∙ sym r.2))
