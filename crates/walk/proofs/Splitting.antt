-- The digits split in two: the first ones have no more assignments than there are lanes. Assumes nothing.
use mathlib.Core.Path.{◌≡◌, sym, ap, ◌∙◌}
use Prim.Native.Nat.{ℕ, suc, ◌+◌, ◌*◌, ◌≤◌, ◌<◌}
use native.Mathlib.Omega.{arith}
use native.Mathlib.Nat.{mul-le-mul_left}
use mathlib.Core.List.{List, [], ◌∷◌}
use lib.ListN.{length, get_or, take}
use lib.Seq.{get_or-take, length-take-le, take-suc}
use Rattle.definitions.specs.Lists.{product_of}
use Rattle.theorems.proofs.Search.Places.{product_of_append}
use Rattle.walk.specs.declared.odometer.Odometer.{Odometer}
use Rattle.walk.specs.Digits.{sizes_in}

product_next : (xs : List ℕ) (k : ℕ) → k < length xs → product_of (take (k + 1) xs) ≡ product_of (take k xs) * get_or xs k 0
product_next xs k h =
    ap (λ (n : ℕ). product_of (take n xs)) (let e : k + 1 ≡ suc k = omega arith in e)
    ∙ ap product_of (take-suc xs k 0 h)
    ∙ product_of_append (take k xs) (get_or xs k 0 ∷ [])
    ∙ (let e : product_of (take k xs) * (get_or xs k 0 * 1) ≡ product_of (take k xs) * get_or xs k 0 = omega arith in e)

-- the first digits, while they have few enough assignments
pub record Splitting (sizes : List ℕ) (count most fast lanes : ℕ) : Type 0 where
  pub few : fast ≤ count
  pub lanes_are : lanes ≡ product_of (take fast (take count sizes))
  pub some : 1 ≤ lanes
  pub fit : lanes ≤ most

module _ (o : Odometer) (most fast lanes : ℕ) (s : Splitting o.sizes o.count most fast lanes) where
  pub sizes_length : length (sizes_in o) ≡ o.count
  sizes_length = let a = o.turning.few in let b = o.turning.sizes_long in length-take-le o.count o.sizes (omega arith)

  pub size_here : fast < o.count → (1 ≤ get_or o.sizes fast 0) × (get_or o.sizes fast 0 < 256)
  size_here h = let w = o.turning.within fast h in (omega arith, o.turning.sizes_small fast)

  pub splits_more : fast < o.count → (more : ℕ) → more ≡ lanes * get_or o.sizes fast 0 → more ≤ most → Splitting o.sizes o.count most (fast + 1) more
  splits_more h more e g =
      let q = (size_here h).0 in
      let m : lanes * 1 ≤ lanes * get_or o.sizes fast 0 = mul-le-mul_left lanes q in
      let some = s.some in
      record {
        few = omega arith;
        lanes_are =
            e ∙ ap (λ (x : ℕ). x * get_or o.sizes fast 0) s.lanes_are
            ∙ ap (λ (x : ℕ). product_of (take fast (sizes_in o)) * x) (sym (get_or-take o.count o.sizes fast 0 h))
            ∙ sym (product_next (sizes_in o) fast (let l = sizes_length in omega arith));
        some = omega arith;
        fit = g;
      }
