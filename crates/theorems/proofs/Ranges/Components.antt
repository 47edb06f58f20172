-- Components are exactly the classes of the equivalence that the links generate. Assumes nothing.
use mathlib.Core.Path.{◌≡◌, refl, ap, ap₂, ◌∙◌, subst}
use Prim.Native.Nat.{ℕ, zero, suc, ◌≤◌, ◌<◌}
use native.Mathlib.Omega.{arith}
use mathlib.Core.Bool.{Bool, true, ◌&&◌, ◌||◌, or_comm}
use mathlib.Core.Logic.{inl, inr, ◌↔◌}
use mathlib.Core.List.{List, [], ◌∷◌}
use lib.ListN.{length}
use lib.Dec.{eqb}
use borrow.Author.Tests.{eqb-true}
use Rattle.definitions.specs.Lists.{any}
use Rattle.definitions.specs.Problem.Node.{Node, node}
use Rattle.definitions.specs.Ranges.{leaf, links, linked, chained, joined}
use Rattle.theorems.proofs.Laws.Tests.{or_cases, or_left, or_right, and_left, and_right}
use Rattle.theorems.proofs.Ranges.Chains.{chained_refl, chained_sym, chained_trans}

-- the least equivalence on the variables below N that has the links
pub data Joined (link : ℕ → ℕ → Bool) (N : ℕ) : ℕ → ℕ → Type 0 where
  self : (u : ℕ) → u < N → Joined link N u u
  one_link : (u v : ℕ) → u < N → v < N → link u v ≡ true → Joined link N u v
  back : (u v : ℕ) → Joined link N u v → Joined link N v u
  on : (u v w : ℕ) → Joined link N u v → Joined link N v w → Joined link N u w

module _ (link : ℕ → ℕ → Bool) (N : ℕ) where
  joined_below : {u v : ℕ} → Joined link N u v → (u < N) × (v < N)
  joined_below (self u h) = (h, h)
  joined_below (one_link u v h l e) = (h, l)
  joined_below (back u v j) = let r = joined_below j in (r.1, r.0)
  joined_below (on u v w i j) = ((joined_below i).0, (joined_below j).1)

  pub link_chained : (k u v : ℕ) → link u v ≡ true → chained link k u v ≡ true
  link_chained zero u v e = or_right (eqb u v) (link u v) e
  link_chained (suc k) u v e = or_left (chained link k u v) _ (link_chained k u v e)

  -- a chain whose ends and inner variables are below N joins its ends
  chained_joined : (k : ℕ) → k ≤ N → (u v : ℕ) → u < N → v < N → chained link k u v ≡ true → Joined link N u v
  chained_joined zero h u v hu hv e =
      elim (or_cases (eqb u v) (link u v) e) [
        | inl p ↦ subst (Joined link N u) (eqb-true u v p) (self u hu)
        | inr p ↦ one_link u v hu hv p
      ]
  chained_joined (suc k) h u v hu hv e =
      let l : k ≤ N = omega arith in
      elim (or_cases (chained link k u v) _ e) [
        | inl p ↦ chained_joined k l u v hu hv p
        | inr p ↦
            on u k v (chained_joined k l u k hu h (and_left _ (chained link k k v) p))
            (chained_joined k l k v h hv (and_right (chained link k u k) _ p))
      ]

  joined_chained : ((u v : ℕ) → link u v ≡ link v u) → {u v : ℕ} → Joined link N u v → chained link N u v ≡ true
  joined_chained s (self u h) = chained_refl link N u
  joined_chained s (one_link u v h l e) = link_chained N u v e
  joined_chained s (back u v j) = chained_sym link s N v u ∙ joined_chained s j
  joined_chained s (on u v w i j) =
      chained_trans link N u v w (joined_below i).1 (joined_chained s i) (joined_chained s j)

pub component_exact : (link : ℕ → ℕ → Bool) → ((u v : ℕ) → link u v ≡ link v u) → (N u v : ℕ) → u < N → v < N
    → (chained link N u v ≡ true) ↔ Joined link N u v
component_exact link s N u v hu hv = (chained_joined link N N (omega arith) u v hu hv, joined_chained link N s)

pub any_same : (f g : Node → Bool) → ((n : Node) → f n ≡ g n) → (t : List Node) → any f t ≡ any g t
any_same f g h [] = refl
any_same f g h (n ∷ t) = ap₂ ◌||◌ (h n) (any_same f g h t)

pub any_at : (f : Node → Bool) (t : List Node) (k : ℕ) → k < length t → f (node t k) ≡ true → any f t ≡ true
any_at f [] k h e = absurd (omega arith)
any_at f (n ∷ t) zero h e = or_left (f n) (any f t) e
any_at f (n ∷ t) (suc k) h e = or_right (f n) (any f t) (any_at f t k (omega arith) e)

pub linked_sym : (t : List Node) (u v : ℕ) → linked t u v ≡ linked t v u
linked_sym t u v =
    any_same (links t u v) (links t v u)
    (λ n.
    ap (λ (b : Bool). eqb n.op 2 && b)
    (or_comm (leaf t n.a u && leaf t n.b v) (leaf t n.a v && leaf t n.b u))) t

-- the components of a table are those of its links
pub components : (t : List Node) (N u v : ℕ) → u < N → v < N → (joined t N u v ≡ true) ↔ Joined (linked t) N u v
components t N u v hu hv = component_exact (linked t) (linked_sym t) N u v hu hv
