-- Chains of links: `chained link n`, for n past all variables, is the least equivalence that has the links. Assumes nothing.
use mathlib.Core.Path.{◌≡◌, refl, ap₂, ◌∙◌, subst}
use Prim.Native.Nat.{ℕ, zero, suc, ◌<◌}
use native.Mathlib.Omega.{arith}
use mathlib.Core.Bool.{Bool, true, false, ◌&&◌, ◌||◌, and_comm}
use mathlib.Core.Logic.{inl, inr}
use lib.Dec.{eqb}
use borrow.Author.Tests.{eq-eqb, eqb-true, eqb-false}
use Rattle.definitions.specs.Ranges.{chained}
use Rattle.theorems.proofs.Laws.Tests.{or_cases, or_left, or_right, and_intro, and_left, and_right, eqb_swap}

module _ (link : ℕ → ℕ → Bool) where
  pub chained_refl : (k u : ℕ) → chained link k u u ≡ true
  chained_refl zero u = or_left (eqb u u) (link u u) (eq-eqb u u refl)
  chained_refl (suc k) u = or_left (chained link k u u) _ (chained_refl k u)

  pub chained_more : (k u v : ℕ) → chained link k u v ≡ true → chained link (suc k) u v ≡ true
  chained_more k u v e = or_left (chained link k u v) _ e

  -- whatever relation has the links, is reflexive and is transitive, has the chains
  pub chained_least : (R : ℕ → ℕ → Type 0) → ((u : ℕ) → R u u) → ((u v w : ℕ) → R u v → R v w → R u w)
      → ((u v : ℕ) → link u v ≡ true → R u v) → (k u v : ℕ) → chained link k u v ≡ true → R u v
  chained_least R r t l zero u v e =
      elim (or_cases (eqb u v) (link u v) e) [ inl p ↦ subst (R u) (eqb-true u v p) (r u) | inr p ↦ l u v p ]
  chained_least R r t l (suc k) u v e =
      elim (or_cases (chained link k u v) _ e) [
        | inl p ↦ chained_least R r t l k u v p
        | inr p ↦
            t u k v (chained_least R r t l k u k (and_left _ (chained link k k v) p))
            (chained_least R r t l k k v (and_right (chained link k u k) _ p))
      ]

  -- a chain that ends at k, or starts there, has inner variables below k
  to_k : (k u : ℕ) → chained link (suc k) u k ≡ true → chained link k u k ≡ true
  to_k k u e = elim (or_cases (chained link k u k) _ e) [ inl p ↦ p | inr p ↦ and_left _ (chained link k k k) p ]

  from_k : (k v : ℕ) → chained link (suc k) k v ≡ true → chained link k k v ≡ true
  from_k k v e = elim (or_cases (chained link k k v) _ e) [ inl p ↦ p | inr p ↦ and_right (chained link k k k) _ p ]

  via_k : (k u v : ℕ) → chained link k u k ≡ true → chained link k k v ≡ true → chained link (suc k) u v ≡ true
  via_k k u v p q = or_right (chained link k u v) _ (and_intro (chained link k u k) (chained link k k v) p q)

  trans_step : (k u v w : ℕ)
      → ((x y : ℕ) → chained link k x v ≡ true → chained link k v y ≡ true → chained link k x y ≡ true)
      → chained link (suc k) u v ≡ true → chained link (suc k) v w ≡ true → chained link (suc k) u w ≡ true
  trans_step k u v w rec p q =
      elim (or_cases (chained link k u v) _ p) [
        | inl a ↦
            elim (or_cases (chained link k v w) _ q) [
              | inl b ↦ chained_more k u w (rec u w a b)
              | inr b ↦ via_k k u w (rec u k a (and_left _ (chained link k k w) b)) (and_right (chained link k v k) _ b)
            ]
        | inr a ↦
            elim (or_cases (chained link k v w) _ q) [
              | inl b ↦ via_k k u w (and_left _ (chained link k k v) a) (rec k w (and_right (chained link k u k) _ a) b)
              | inr b ↦ via_k k u w (and_left _ (chained link k k v) a) (and_right (chained link k v k) _ b)
            ]
      ]

  pub chained_trans : (k u v w : ℕ) → v < k → chained link k u v ≡ true → chained link k v w ≡ true → chained link k u w ≡ true
  chained_trans zero u v w h p q = absurd (omega arith)
  chained_trans (suc k) u v w h p q = go (eqb v k) refl
      (λ x y h' a b. chained_trans k x v y h' a b)
    where
      go : (b : Bool) → eqb v k ≡ b
          → ((x y : ℕ) → v < k → chained link k x v ≡ true → chained link k v y ≡ true → chained link k x y ≡ true)
          → chained link (suc k) u w ≡ true
      go true e rec =
          let q' = eqb-true v k e in
          via_k k u w (to_k k u (subst (λ (x : ℕ). chained link (suc k) u x ≡ true) q' p))
          (from_k k w (subst (λ (x : ℕ). chained link (suc k) x w ≡ true) q' q))
      go false e rec =
          let ne = eqb-false v k e in
          trans_step k u v w (λ x y a b. rec x y (omega (arith, ne)) a b) p q

  pub chained_sym : ((u v : ℕ) → link u v ≡ link v u) → (k u v : ℕ) → chained link k u v ≡ chained link k v u
  chained_sym s zero u v = ap₂ ◌||◌ (eqb_swap u v) (s u v)
  chained_sym s (suc k) u v =
      ap₂ ◌||◌ (chained_sym s k u v)
      (and_comm (chained link k u k) (chained link k k v) ∙ ap₂ ◌&&◌ (chained_sym s k k v) (chained_sym s k u k))
