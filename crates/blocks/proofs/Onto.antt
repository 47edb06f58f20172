-- The order is a permutation: every position is some node's, and the positions of a tail are exactly the nodes of its levels.
-- Assumes nothing.
use mathlib.Core.Path.{◌≡◌, refl, subst}
use Prim.Native.Nat.{ℕ, zero, suc, pred, ◌≤◌, ◌<◌}
use native.Mathlib.Omega.{arith}
use mathlib.Core.Bool.{Bool, true, false}
use mathlib.Core.Logic.{◌⊎◌, inl, inr}
use lib.Dec.{ltb, eqb}
use borrow.Author.Tests.{ltb-true, ltb-false, eqb-true, eqb-false}
use Rattle.theorems.proofs.Laws.Tests.{split}
use Rattle.blocks.specs.Order.{start_of, pos_of}
use Rattle.blocks.proofs.Order.{pos_inside, pos_head, pos_one}

-- the numbers but a, pushed together
abbrev squeeze : ℕ → ℕ → ℕ
squeeze a x = elim (ltb a x) as (λ _. ℕ) [ true ↦ pred x | false ↦ x ]

squeeze_cases : (a x : ℕ) → ((a < x) × (suc (squeeze a x) ≡ x)) ⊎ ((x ≤ a) × (squeeze a x ≡ x))
squeeze_cases a x = go (ltb a x) refl
  where
    go : (b : Bool) → ltb a x ≡ b
        → ((a < x) × (suc (elim b as (λ _. ℕ) [ true ↦ pred x | false ↦ x ]) ≡ x)) ⊎ ((x ≤ a) × (elim b as (λ _. ℕ) [ true ↦ pred x | false ↦ x ] ≡ x))
    go true e = inl (let h = ltb-true a x e in (h, up x h))
      where
        up : (y : ℕ) → a < y → suc (pred y) ≡ y
        up zero l = absurd (omega arith)
        up (suc y) l = refl
    go false e = inr (ltb-false a x e, refl)

squeeze_below : (a x n : ℕ) → a < suc n → x < suc n → (x ≡ a → ⊥) → squeeze a x < n
squeeze_below a x n ha hx ne =
    elim (squeeze_cases a x) [
      | inl w ↦ (let e = w.1 in let l = w.0 in omega arith)
      | inr w ↦ (let e = w.1 in let l = w.0 in let s : x < a = strict l in omega arith)
    ]
  where
    strict : x ≤ a → x < a
    strict l = elim (split x a) [ inl g ↦ g | inr g ↦ absurd (ne (omega arith)) ]

squeeze_one : (a x y : ℕ) → (x ≡ a → ⊥) → (y ≡ a → ⊥) → squeeze a x ≡ squeeze a y → x ≡ y
squeeze_one a x y nx ny e =
    elim (squeeze_cases a x) [
      | inl u ↦
          (let p = u.1 in
          let l = u.0 in
          elim (squeeze_cases a y) [
            | inl w ↦ (let q = w.1 in omega arith)
            | inr w ↦ (let q = w.1 in let r = w.0 in absurd (ny (omega arith)))
          ])
      | inr u ↦
          (let p = u.1 in
          let l = u.0 in
          elim (squeeze_cases a y) [
            | inl w ↦ (let q = w.1 in let r = w.0 in absurd (nx (omega arith)))
            | inr w ↦ (let q = w.1 in omega arith)
          ])
    ]

-- there is no way to put n + 1 things in n places, each in its own
pigeon : (n : ℕ) (f : ℕ → ℕ) → ((k : ℕ) → k < suc n → f k < n) → ((j k : ℕ) → j < suc n → k < suc n → f j ≡ f k → j ≡ k) → ⊥
pigeon zero f below one = let z = below 0 (omega arith) in omega arith
pigeon (suc n) f below one =
    pigeon n (λ k. squeeze (f (suc n)) (f k))
    (λ k h. squeeze_below (f (suc n)) (f k) n (below (suc n) (omega arith)) (below k (omega arith))
    (λ e. let z = one k (suc n) (omega arith) (omega arith) e in omega arith))
    (λ j k hj hk e.
    one j k (omega arith) (omega arith)
    (squeeze_one (f (suc n)) (f j) (f k)
    (λ q. let z = one j (suc n) (omega arith) (omega arith) q in omega arith)
    (λ q. let z = one k (suc n) (omega arith) (omega arith) q in omega arith) e))

-- some number below c goes to m, or none does
found : (f : ℕ → ℕ) (m c : ℕ) → ((k : ℕ) × (k < c) × (f k ≡ m)) ⊎ ((k : ℕ) → k < c → f k ≡ m → ⊥)
found f m zero = inr (λ k h e. absurd (omega arith))
found f m (suc c) = go (found f m c) (eqb (f c) m) refl
  where
    go : ((k : ℕ) × (k < c) × (f k ≡ m)) ⊎ ((k : ℕ) → k < c → f k ≡ m → ⊥) → (b : Bool) → eqb (f c) m ≡ b
        → ((k : ℕ) × (k < suc c) × (f k ≡ m)) ⊎ ((k : ℕ) → k < suc c → f k ≡ m → ⊥)
    go (inl w) b e = inl (w.0, (let h = w.1 in omega arith), w.2)
    go (inr never) true e = inl (c, omega arith, eqb-true (f c) m e)
    go (inr never) false e =
        inr
        (λ k h q.
        elim (split k c) [
          | inl l ↦ never k l q
          | inr g ↦ eqb-false (f c) m e (subst (λ (x : ℕ). f x ≡ m) (let z : k ≡ c = omega arith in z) q)
        ])

onto : (n : ℕ) (f : ℕ → ℕ) → ((k : ℕ) → k < n → f k < n) → ((j k : ℕ) → j < n → k < n → f j ≡ f k → j ≡ k)
    → (m : ℕ) → m < n → (k : ℕ) × (k < n) × (f k ≡ m)
onto zero f below one m h = absurd (omega arith)
onto (suc n) f below one m h =
    elim (found f m (suc n)) [
      | inl w ↦ w
      | inr never ↦
          absurd
          (pigeon n (λ k. squeeze m (f k)) (λ k l. squeeze_below m (f k) n h (below k l) (never k l))
          (λ j k hj hk e. one j k hj hk (squeeze_one m (f j) (f k) (never j hj) (never k hk) e)))
    ]

module _ (level : ℕ → ℕ) (n : ℕ) where
  -- every position is a node's
  pub pos_onto : (m : ℕ) → m < n → (k : ℕ) × (k < n) × (pos_of level n k ≡ m)
  pos_onto = onto n (pos_of level n) (pos_inside level n) (pos_one level n)

  -- and a position of the tail of i is a node's of a level up to i
  pub tail_exact : (i m : ℕ) → start_of level n i ≤ m → m < n → (k : ℕ) × (k < n) × (pos_of level n k ≡ m) × (level k ≤ i)
  tail_exact i m l h =
      let w = pos_onto m h in
      (w.0, w.1, w.2, low w.0 w.1 w.2)
    where
      low : (k : ℕ) → k < n → pos_of level n k ≡ m → level k ≤ i
      low k hk e =
          elim (split i (level k)) [
            | inl g ↦ absurd (let a = pos_head level n i k hk g in omega arith)
            | inr g ↦ g
          ]
