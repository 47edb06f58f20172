-- The walk in blocks: the sizes in two parts, fast and slow. A block is the places that share the slow digits, one lane for
-- each assignment of the fast ones. Assumes nothing.
use mathlib.Core.Path.{◌≡◌, refl, sym, ap, ◌∙◌}
use Prim.Native.Nat.{ℕ, zero, suc, ◌+◌, ◌*◌, ◌/◌, ◌%◌, ◌≤◌, ◌<◌}
use native.Mathlib.Omega.{arith}
use native.Mathlib.Nat.{mul-le-mul_right, mod-lt, div-add-mod', div-lt_iff_lt-mul}
use mathlib.Core.Bool.{Bool, true, false}
use mathlib.Core.List.{List, [], ◌∷◌, ◌++◌}
use mathlib.Core.Logic.{inl, inr}
use lib.Arith.{digits_div, digits_mod}
use Rattle.definitions.specs.Lists.{product_of}
use Rattle.definitions.specs.Places.{next, first, digits_after, digits_at}
use Rattle.theorems.proofs.Search.Places.{Positive, split_digits, digits_length, one_place, wraps, product_positive, product_of_append}
use Rattle.theorems.proofs.Laws.Tests.{split}
use Rattle.blocks.specs.Moves.{topped}
use Rattle.blocks.proofs.Moves.{next_append, step_by, topped_first, first_topped}

-- block q, lane r: the fast digits after r steps, then the slow digits after q steps
pub block_digits : (fast slow : List ℕ) → (q r : ℕ) → r < product_of fast
    → digits_after (fast ++ slow) (q * product_of fast + r) ≡ digits_after fast r ++ digits_after slow q
block_digits [] slow q r h =
    let z : r ≡ 0 = omega arith in
    let e : q * 1 + r ≡ q = omega arith in
    ap (digits_after slow) e ∙ ap (λ x. digits_after [] x ++ digits_after slow q) (sym z)
block_digits (s ∷ fast) slow q r h =
    let W = product_of fast in
    let pos : 1 ≤ s = positive s h in
    let r0 = r % s in
    let r1 = r / s in
    let low : r0 < s = mod-lt r pos in
    let sum : r1 * s + r0 ≡ r = div-add-mod' r s in
    let high : r1 < W = (div-lt_iff_lt-mul pos).1 (let g : r < W * s = omega arith in g) in
    let e : q * (s * W) + r ≡ (q * W + r1) * s + r0 = omega arith in
    ap (digits_after (s ∷ (fast ++ slow))) e
    ∙ split_digits s (fast ++ slow) (q * W + r1) r0 low
    ∙ ap {B = List ℕ} (λ x. r0 ∷ x) (block_digits fast slow q r1 high)
    ∙ ap (λ (x : List ℕ). x ++ digits_after slow q) (sym (ap (digits_after (s ∷ fast)) (sym sum) ∙ split_digits s fast r1 r0 low))
  where
    positive : (x : ℕ) → r < x * product_of fast → 1 ≤ x
    positive zero g = absurd (omega arith)
    positive (suc x) g = omega arith

module _ (fast slow : List ℕ) (good : Positive fast) where
  abbrev W : ℕ
  W = product_of fast

  wide : 1 ≤ W
  wide = product_positive fast good

  -- p steps are p / W of the slow digits and p % W of the fast ones
  pub digits_append : (p : ℕ) → digits_after (fast ++ slow) p ≡ digits_after fast (p % W) ++ digits_after slow (p / W)
  digits_append p =
      ap (digits_after (fast ++ slow)) (sym (div-add-mod' p W)) ∙ block_digits fast slow (p / W) (p % W) (mod-lt p wide)

  -- the same at a place, counted from 1
  pub place_digits : (q r : ℕ) → r < W → digits_at (fast ++ slow) (suc (q * W + r)) ≡ digits_after fast r ++ digits_after slow q
  place_digits q r h = block_digits fast slow q r h

-- digits are at their tops exactly at the last place
module _ (sizes : List ℕ) (good : Positive sizes) (r : ℕ) (h : r < product_of sizes) where
  pub topped_last : topped sizes (digits_after sizes r) ≡ true → suc r ≡ product_of sizes
  topped_last e =
      elim (split (suc r) (product_of sizes)) [
        | inl l ↦ absurd (let z : suc r ≡ 0 = one_place sizes good (suc r) 0 l (omega arith) back in omega arith)
        | inr g ↦ omega arith
      ]
    where
      back : digits_after sizes (suc r) ≡ digits_after sizes 0
      back = topped_first sizes (digits_after sizes r) (digits_length sizes r) e

  pub last_topped : suc r ≡ product_of sizes → topped sizes (digits_after sizes r) ≡ true
  last_topped e =
      first_topped sizes (digits_after sizes r) (digits_length sizes r) (ap (digits_after sizes) e ∙ wraps sizes good)

  pub topped_before : suc r < product_of sizes → topped sizes (digits_after sizes r) ≡ false
  topped_before l = go (topped sizes (digits_after sizes r)) refl
    where
      go : (b : Bool) → topped sizes (digits_after sizes r) ≡ b → b ≡ false
      go true e = absurd (let z = topped_last e in omega arith)
      go false e = refl

module _ (fast slow : List ℕ) (good : Positive fast) (r : ℕ) (h : r < product_of fast) where
  -- inside a block a step moves the fast digits alone
  pub step_inside : (es : List ℕ) → suc r < product_of fast
      → next (fast ++ slow) (digits_after fast r ++ es) ≡ digits_after fast (suc r) ++ es
  step_inside es l =
      next_append slow es fast (digits_after fast r) (digits_length fast r)
      ∙ ap (step_by slow es (digits_after fast (suc r))) (topped_before fast good r h l)

  -- from its last lane a step turns the fast digits back and moves the slow ones by their own successor
  pub step_over : (es : List ℕ) → suc r ≡ product_of fast
      → next (fast ++ slow) (digits_after fast r ++ es) ≡ first fast ++ next slow es
  step_over es e =
      next_append slow es fast (digits_after fast r) (digits_length fast r)
      ∙ ap (step_by slow es (digits_after fast (suc r))) (last_topped fast good r h e)
      ∙ ap (λ (x : List ℕ). x ++ next slow es) (ap (digits_after fast) e ∙ wraps fast good)

-- the blocks: block q from 0 on, and lane r of it, stand for place q * W + r + 1
module _ (fast slow : List ℕ) (good : Positive fast) (fine : Positive slow) where
  abbrev many : ℕ
  many = product_of fast

  abbrev blocks : ℕ
  blocks = product_of slow

  all_are : product_of (fast ++ slow) ≡ many * blocks
  all_are = product_of_append fast slow

  -- a block and a lane are a place
  pub block_place : (q r : ℕ) → q < blocks → r < many → q * many + r < product_of (fast ++ slow)
  block_place q r hq hr =
      let e = all_are in
      let m : suc q * many ≤ blocks * many = mul-le-mul_right many hq in
      omega arith

  -- a place is a block and a lane
  pub place_block : (p : ℕ) → p < product_of (fast ++ slow)
      → (p / many < blocks) × (p % many < many) × (p / many * many + p % many ≡ p)
  place_block p h =
      let w : 1 ≤ many = product_positive fast good in
      let e = all_are in
      ((div-lt_iff_lt-mul w).1 (let g : p < blocks * many = omega arith in g), mod-lt p w, div-add-mod' p many)

  -- and of one block and lane only
  pub one_block : (q r q' r' : ℕ) → r < many → r' < many → q * many + r ≡ q' * many + r' → (q ≡ q') × (r ≡ r')
  one_block q r q' r' hr hr' e =
      (sym (digits_div q hr) ∙ ap (λ x. x / many) e ∙ digits_div q' hr', sym (digits_mod q hr) ∙ ap (λ x. x % many) e ∙ digits_mod q' hr')

  -- every place from 1 to the product is exactly one block and lane
  pub one_place_one_block : (p : ℕ) → 1 ≤ p → p ≤ product_of (fast ++ slow)
      → (q : ℕ) × (r : ℕ) × (q < blocks) × (r < many) × (p ≡ suc (q * many + r))
      × (digits_at (fast ++ slow) p ≡ digits_after fast r ++ digits_after slow q)
      × ((q' r' : ℕ) → r' < many → p ≡ suc (q' * many + r') → (q' ≡ q) × (r' ≡ r))
  one_place_one_block zero a b = absurd (omega arith)
  one_place_one_block (suc p) a b =
      let w = place_block p b in (
        p / many,
        p % many,
        w.0,
        w.1,
        ap suc (sym w.2),
        digits_append fast slow good p,
        λ q' r' h e. one_block q' r' (p / many) (p % many) h w.1 (let s = w.2 in omega arith),
      )

  -- the walk's end is the last lane of the last block, where the slow digits are at their tops
  pub last_place : (q r : ℕ) → q < blocks → r < many
      → (suc (q * many + r) ≡ product_of (fast ++ slow) → (suc r ≡ many) × (topped slow (digits_after slow q) ≡ true))
      × ((suc r ≡ many) × (topped slow (digits_after slow q) ≡ true) → suc (q * many + r) ≡ product_of (fast ++ slow))
  last_place q r hq hr = (forth, back)
    where
      end : suc (q * many + r) ≡ product_of (fast ++ slow) → 1 ≤ many → suc q ≡ blocks
      end e w =
          elim (split (suc q) blocks) [
            | inl l ↦ absurd (let s = all_are in let m : suc (suc q) * many ≤ blocks * many = mul-le-mul_right many l in omega arith)
            | inr g ↦ omega arith
          ]

      forth : suc (q * many + r) ≡ product_of (fast ++ slow) → (suc r ≡ many) × (topped slow (digits_after slow q) ≡ true)
      forth e =
          let s = all_are in
          let m : suc q * many ≤ blocks * many = mul-le-mul_right many hq in
          let lane : suc r ≡ many = omega arith in
          let w : 1 ≤ many = product_positive fast good in
          (lane, last_topped slow fine q hq (end e w))

      whole : suc q ≡ blocks → suc r ≡ many → suc (q * many + r) ≡ many * blocks
      whole b l = (let e : suc (q * many + r) ≡ many * suc q = omega arith in e) ∙ ap (λ x. many * x) b

      back : (suc r ≡ many) × (topped slow (digits_after slow q) ≡ true) → suc (q * many + r) ≡ product_of (fast ++ slow)
      back w =
          let s = all_are in
          let l = w.0 in
          let b : suc q ≡ blocks = topped_last slow fine q hq w.1 in
          whole b l ∙ sym s
