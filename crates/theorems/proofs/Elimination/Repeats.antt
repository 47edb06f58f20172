-- Repeats: what `earliest` finds, and what it says where it finds nothing. Assumes nothing.
use mathlib.Core.Path.{◌≡◌, refl, sym, ◌∙◌, subst}
use Prim.Native.Nat.{ℕ, zero, suc, ◌<◌}
use native.Mathlib.Omega.{arith}
use mathlib.Core.Bool.{Bool, true, false, ◌&&◌, false≢true}
use mathlib.Core.List.{List, [], ◌∷◌}
use mathlib.Core.Option.{Option, none, some}
use lib.ListN.{length, get_or}
use lib.Dec.{eqb}
use borrow.Author.Tests.{eqb-true, eq-eqb}
use Rattle.definitions.specs.Problem.Node.{Node, node, same}
use Rattle.definitions.specs.Elimination.{earliest}
use Rattle.theorems.proofs.Laws.Tests.{and_left, and_right, some_same, none≢some}

-- nodes that are the same in all five fields are equal
pub same_node : (m n : Node) → same m n ≡ true → m ≡ n
same_node m n e =
    let e4 = and_left (eqb m.op n.op && eqb m.sym n.sym && eqb m.a n.a && eqb m.b n.b) (eqb m.c n.c) e in
    let e3 = and_left (eqb m.op n.op && eqb m.sym n.sym && eqb m.a n.a) (eqb m.b n.b) e4 in
    let e2 = and_left (eqb m.op n.op && eqb m.sym n.sym) (eqb m.a n.a) e3 in
    let o = eqb-true m.op n.op (and_left (eqb m.op n.op) (eqb m.sym n.sym) e2) in
    let s = eqb-true m.sym n.sym (and_right (eqb m.op n.op) (eqb m.sym n.sym) e2) in
    let a = eqb-true m.a n.a (and_right (eqb m.op n.op && eqb m.sym n.sym) (eqb m.a n.a) e3) in
    let b = eqb-true m.b n.b (and_right (eqb m.op n.op && eqb m.sym n.sym && eqb m.a n.a) (eqb m.b n.b) e4) in
    let c = eqb-true m.c n.c (and_right (eqb m.op n.op && eqb m.sym n.sym && eqb m.a n.a && eqb m.b n.b) (eqb m.c n.c) e) in
    λ i. record { op = o i; sym = s i; a = a i; b = b i; c = c i }

pub node_same : (m n : Node) → m ≡ n → same m n ≡ true
node_same m n e = subst (λ (x : Node). same m x ≡ true) e (self m)
  where
    self : (m : Node) → same m m ≡ true
    self m = simp (eq-eqb m.op m.op refl, eq-eqb m.sym m.sym refl, eq-eqb m.a m.a refl, eq-eqb m.b m.b refl, eq-eqb m.c m.c refl)

-- what `earliest` finds
pub record Found (n : Node) (ms : List Node) (is : List ℕ) (i : ℕ) : Type 0 where
  pub at : ℕ
  pub within : at < length ms
  pub equal : n ≡ node ms at
  pub image : i ≡ get_or is at 0

pub found : (n : Node) (ms : List Node) (is : List ℕ) (i : ℕ) → earliest n ms is ≡ some i → Found n ms is i
found n [] is i e = absurd (none≢some e)
found n (m ∷ ms) [] i e = absurd (none≢some e)
found n (m ∷ ms) (j ∷ js) i e = go (same n m) refl e (λ e'. found n ms js i e')
  where
    go : (b : Bool) → same n m ≡ b → ◌≡◌ {A = Option ℕ} (elim b [ true ↦ some j | false ↦ earliest n ms js ]) (some i)
        → (earliest n ms js ≡ some i → Found n ms js i) → Found n (m ∷ ms) (j ∷ js) i
    go true q e' rec = record { at = 0; within = omega arith; equal = same_node n m q; image = sym (some_same j i e') }
    go false q e' rec =
        let f = rec e' in
        let w = f.within in
        record { at = suc f.at; within = omega arith; equal = f.equal; image = f.image }

-- where it finds nothing, no earlier node is the same
pub not_found : (n : Node) (ms : List Node) (is : List ℕ) → length is ≡ length ms → earliest n ms is ≡ none → (k : ℕ) → k < length ms → n ≡ node ms k → ⊥
not_found n [] is l e k h q = omega arith
not_found n (m ∷ ms) [] l e k h q = omega arith
not_found n (m ∷ ms) (j ∷ js) l e k h q = go (same n m) refl e k h q (λ k' h' q' e'. not_found n ms js (omega arith) e' k' h' q')
  where
    go : (b : Bool) → same n m ≡ b → ◌≡◌ {A = Option ℕ} (elim b [ true ↦ some j | false ↦ earliest n ms js ]) none
        → (k : ℕ) → k < length (m ∷ ms) → n ≡ node (m ∷ ms) k
        → ((k' : ℕ) → k' < length ms → n ≡ node ms k' → earliest n ms js ≡ none → ⊥) → ⊥
    go true p e' k h q rec = none≢some (sym e')
    go false p e' zero h q rec = false≢true (sym p ∙ node_same n m q)
    go false p e' (suc k) h q rec = rec k (omega arith) q e'
