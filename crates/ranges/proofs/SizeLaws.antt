-- Factors multiplied one by one, each product tested, and the sizes as such factors. Assumes nothing.
use mathlib.Core.Path.{◌≡◌, sym, ap, ap₂, ◌∙◌, subst}
use Prim.Native.Nat.{ℕ, zero, suc, ◌+◌, ◌*◌, ◌^◌, ◌≤◌, ◌<◌}
use native.Mathlib.Omega.{arith}
use native.Mathlib.Nat.{mul_assoc, mul-one, mul-le-mul_left}
use native.Mathlib.Numerals.{add-one}
use mathlib.Core.List.{List, [], ◌∷◌, ◌++◌}
use Rattle.std.specs.Prelude.{None, Some}
use lib.ListN.{length, get_or, drop, replicate, length-replicate, length-append, get_or-append}
use lib.Seq.{drop-cons}
use Rattle.definitions.specs.Lists.{product_of}
use Rattle.definitions.specs.Ranges.{sizes}
use Rattle.ranges.specs.Spans.{ProductIs}
use Rattle.theorems.proofs.Search.Places.{Positive, product_positive}

positive_drop : (n : ℕ) (xs : List ℕ) → Positive xs → Positive (drop n xs)
positive_drop zero xs p = p
positive_drop (suc n) [] p = tt
positive_drop (suc n) (x ∷ xs) p = positive_drop n xs p.1

-- the factors xs before number k are multiplied to `all`, which is at most 10^18; those from k on take it to n
pub record Multiplied (xs : List ℕ) (n k all : ℕ) : Type 0 where
  pub most : all ≤ 10 ^ 18
  pub left : all * product_of (drop k xs) ≡ n

module _ (xs : List ℕ) (n k all : ℕ) (done : Multiplied xs n k all) where
  -- the next factor is x
  module _ (x : ℕ) (h : k < length xs) (e : get_or xs k 0 ≡ x) where
    rest : all * x * product_of (drop (suc k) xs) ≡ n
    rest =
        mul_assoc all x (product_of (drop (suc k) xs))
        ∙ ap (λ (ys : List ℕ). all * product_of ys)
        (ap {B = List ℕ} (λ y. y ∷ drop (suc k) xs) (sym e) ∙ sym (drop-cons xs k 0 h))
        ∙ done.left

    pub multiplied_next : (p : ℕ) → ProductIs (all * x) (Some p) → Multiplied xs n (k + 1) p
    multiplied_next p r =
        record {
          most = subst (λ (m : ℕ). m ≤ 10 ^ 18) (sym r.0) r.1;
          left = ap₂ (λ (m i : ℕ). m * product_of (drop i xs)) r.0 (add-one k) ∙ rest;
        }

    -- a product that is too great stays so
    pub multiplied_big : Positive xs → ProductIs (all * x) None → ProductIs n None
    multiplied_big p l =
        let e = rest in
        let more = mul-le-mul_left (all * x) (product_positive (drop (suc k) xs) (positive_drop (suc k) xs p)) in
        let same = mul-one (all * x) in
        omega arith

-- the sizes of n truth variables
abbrev pub twos : ℕ → List ℕ
twos n = replicate n 2

pub length_twos : (n : ℕ) → length (twos n) ≡ n
length_twos n = length-replicate {A = ℕ} n 2

pub positive_twos : (n : ℕ) → Positive (twos n)
positive_twos zero = tt
positive_twos (suc n) = (omega arith, positive_twos n)

positive_append : (xs ys : List ℕ) → Positive xs → Positive ys → Positive (xs ++ ys)
positive_append [] ys p q = q
positive_append (x ∷ xs) ys p q = (p.0, positive_append xs ys p.1 q)

positive_all : (xs : List ℕ) → ((v : ℕ) → v < length xs → 1 ≤ get_or xs v 0) → Positive xs
positive_all [] p = tt
positive_all (x ∷ xs) p = (p 0 (omega arith), positive_all xs (λ v l. p (suc v) (omega arith)))

-- the sizes of so many truth variables after some tops
module _ (ts : List ℕ) (truths : ℕ) where
  pub sizes_more : (v : ℕ) → v < length ts → v < length (sizes ts truths)
  sizes_more v l = omega (arith, length-append ts (twos truths))

  pub sizes_at : (v : ℕ) → v < length ts → get_or (sizes ts truths) v 0 ≡ get_or ts v 0
  sizes_at v l = get_or-append ts (twos truths) 0 v l

  pub sizes_positive : ((v : ℕ) → v < length ts → 1 ≤ get_or ts v 0) → Positive (sizes ts truths)
  sizes_positive p = positive_append ts (twos truths) (positive_all ts p) (positive_twos truths)
