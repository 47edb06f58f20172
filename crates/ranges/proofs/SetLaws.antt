-- Sets of variables as numbers: which variables are in none, in one alone, in two sets joined. Assumes nothing.
use Rattle.std.proofs.Common.{◌≡◌, refl, sym, ap, ◌∙◌, ℕ, zero, suc, max, ◌*◌, ◌%◌, ◌^◌, ◌<◌, false, ◌||◌, eqb, bit_or, inl, inr, arith}
use Rattle.std.specs.Int.{bit_at}
use Rattle.std.proofs.lemmas.Nat.{one_shl}
use Rattle.std.proofs.lemmas.Nat.Bits.{bit_at-zero, bit_at-lt, bit_at_or, bit_at-pow_same, bit_at-pow_other}
use borrow.Author.Tests.{eq-eqb, ne_eqb}
use Rattle.std.proofs.lemmas.Bool.{cases_eq}
use Rattle.ranges.specs.Sets.{in_set}

pub in_none : (v : ℕ) → in_set 0 v ≡ false
in_none v = ap (λ n. eqb n 1) (bit_at-zero v)

-- a bit of two
below_two : (p q : ℕ) → p < 2 → q < 2 → eqb (max p q) 1 ≡ eqb p 1 || eqb q 1
below_two zero zero h l = refl
below_two zero (suc zero) h l = refl
below_two zero (suc (suc q)) h l = absurd (omega arith)
below_two (suc zero) zero h l = refl
below_two (suc zero) (suc zero) h l = refl
below_two (suc zero) (suc (suc q)) h l = absurd (omega arith)
below_two (suc (suc p)) q h l = absurd (omega arith)

pub in_or : (a b v : ℕ) → in_set (bit_or a b) v ≡ in_set a v || in_set b v
in_or a b v = ap (λ n. eqb n 1) (bit_at_or a b v) ∙ below_two (bit_at a v) (bit_at b v) (bit_at-lt a v) (bit_at-lt b v)

-- 2 to the power k is the set of k alone
pub in_one : (k v : ℕ) → in_set (2 ^ k) v ≡ eqb k v
in_one k v =
    elim (cases_eq k v) [
      | inl e ↦ ap (λ n. in_set (2 ^ k) n) (sym e) ∙ ap (λ n. eqb n 1) (bit_at-pow_same k) ∙ sym (eq-eqb k v e)
      | inr d ↦ ap (λ n. eqb n 1) (bit_at-pow_other k v (λ e. d (sym e))) ∙ sym (ne_eqb k v d)
    ]

-- and so is what the code shifts
pub in_only : (w k v : ℕ) → k < w → in_set ((1 * 2 ^ k) % 2 ^ w) v ≡ eqb k v
in_only w k v h = ap (λ n. in_set n v) (one_shl k w h) ∙ in_one k v
