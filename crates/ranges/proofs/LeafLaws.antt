-- The leaves of a node of a function-free table, by its op. Every term has a leaf, and leaves are variables of the table.
-- Assumes nothing.
use mathlib.Core.Path.{◌≡◌, refl, sym, ap, ap₂, ◌∙◌, subst}
use Prim.Native.Nat.{ℕ, zero, suc, ◌≤◌, ◌<◌}
use native.Mathlib.Omega.{arith}
use mathlib.Core.Bool.{true, false, ◌||◌, false≢true}
use mathlib.Core.Logic.{◌⊎◌, inl, inr}
use mathlib.Core.List.{List, [], ◌∷◌}
use mathlib.Core.Option.{Option, some}
use lib.ListN.{length, take}
use lib.Seq.{get_or-take, length-take-le}
use lib.Dec.{eqb}
use borrow.Author.Tests.{eq-eqb, eqb-true}
use Rattle.definitions.specs.Problem.Node.{Node, node, no_node, grown}
use Rattle.definitions.specs.Problem.Ops.{Op, apply, choose, equal, negate, both, either, test, verum, falsum, select, unknown, op_of, Sort, term, formula, sort_of, operand_sorts, fits, fields_of}
use Rattle.definitions.specs.Ranges.{Variables, no_variable, op_leaves, node_leaves, leaf}
use Rattle.theorems.proofs.Laws.Tests.{or_cases, or_left, split}
use Rattle.theorems.proofs.Laws.Ops.{Sorted, operands_sorted, sort_at}
use Rattle.theorems.proofs.Laws.Grown.{grown_at}
use Rattle.theorems.proofs.Tables.Free.{Free, names_of, free_named, free_fits}

formula≢term : formula ≡ term → ⊥
formula≢term e = let z : ◌≡◌ {A = ℕ} 0 1 = cc in omega arith

-- an op is a variable's, a term choice's, or a formula's and has no leaves
data Kind (o : Op) : Type 0 where
  variable : o ≡ apply → Kind o
  choice : o ≡ choose → Kind o
  other : sort_of o ≡ formula → ((ls : List Variables) (n : Node) (v : ℕ) → op_leaves ls o n v ≡ false) → Kind o

kind : (o : Op) → Kind o
kind apply = variable refl
kind choose = choice refl
kind equal = other refl (λ ls n v. refl)
kind negate = other refl (λ ls n v. refl)
kind both = other refl (λ ls n v. refl)
kind either = other refl (λ ls n v. refl)
kind test = other refl (λ ls n v. refl)
kind verum = other refl (λ ls n v. refl)
kind falsum = other refl (λ ls n v. refl)
kind select = other refl (λ ls n v. refl)
kind unknown = other refl (λ ls n v. refl)

-- what is known of the operands of node k: earlier nodes of these sorts
abbrev pub Known : List Node → ℕ → List Sort → List ℕ → Type 0
Known t k [] ks = Unit {0}
Known t k (s ∷ ss) [] = ⊥
Known t k (s ∷ ss) (i ∷ is) = (i < k) × (sort_at t i ≡ s) × Known t k ss is

known : (t : List Node) (k : ℕ) → k ≤ length t → (ss : List Sort) (is : List ℕ) → Sorted (take k t) ss is → Known t k ss is
known t k l [] is w = tt
known t k l (s ∷ ss) [] w = absurd w
known t k l (s ∷ ss) (i ∷ is) w =
    let h : i < k = (let x = w.0 in let y = length-take-le k t l in omega arith) in
    (h, ap (λ (q : Node). sort_of (op_of q.op)) (sym (get_or-take k t i no_node h)) ∙ w.1, known t k l ss is w.2)

-- a node has a leaf if it is a term, and variables below N alone
pub record Leafy (N : ℕ) (t : List Node) (k : ℕ) : Type 0 where
  pub some_leaf : sort_at t k ≡ term → (v : ℕ) × (leaf t k v ≡ true)
  pub low : (v : ℕ) → leaf t k v ≡ true → v < N

module _ (N P : ℕ) (t : List Node) (free : Free N P t) where
  abbrev ls : List Variables
  ls = grown node_leaves [] t

  module _ (k : ℕ) (h : k < length t) where
    abbrev n : Node
    n = node t k

    leaves : (o : Op) → op_of n.op ≡ o → (v : ℕ) → leaf t k v ≡ op_leaves (take k ls) o n v
    leaves o q v =
        ap (λ (f : Variables). f v) (grown_at node_leaves t k no_variable h)
        ∙ ap (λ (o : Op). op_leaves (take k ls) o n v) q

    operands : (o : Op) → op_of n.op ≡ o → (ss : List Sort) → operand_sorts o 0 ≡ some ss → Known t k ss (fields_of n)
    operands o q ss e =
        known t k (omega arith) ss (fields_of n)
        (operands_sorted (take k t) ss (fields_of n)
        (subst (λ (o : Option (List Sort)). fits (take k t) o (fields_of n) ≡ true)
        (ap (λ (o : Op). operand_sorts o 0) q ∙ e)
        (free_fits N P t free k h)))

    pub variable_low : op_of n.op ≡ apply → n.sym < N
    variable_low q =
        subst (λ (o : Op). n.sym < names_of N P o) q (free_named N P t free k h)

    pub variable_leaf : op_of n.op ≡ apply → (v : ℕ) → leaf t k v ≡ eqb n.sym v
    variable_leaf q v = leaves apply q v

    pub choice_operands : op_of n.op ≡ choose → Known t k (formula ∷ term ∷ term ∷ []) (fields_of n)
    choice_operands q = operands choose q (formula ∷ term ∷ term ∷ []) refl

    pub choice_leaf : op_of n.op ≡ choose → (v : ℕ) → leaf t k v ≡ leaf t n.b v || leaf t n.c v
    choice_leaf q v =
        let o = choice_operands q in
        leaves choose q v
        ∙ ap₂ (λ (f g : Variables). f v || g v) (get_or-take k ls n.b no_variable o.2.0)
        (get_or-take k ls n.c no_variable o.2.2.0)

    no_leaf : ((ls : List Variables) (m : Node) (v : ℕ) → op_leaves ls (op_of n.op) m v ≡ false) → (v : ℕ) → leaf t k v ≡ false
    no_leaf f v = leaves (op_of n.op) refl v ∙ f (take k ls) n v

    pub other_leaf : (op_of n.op ≡ apply → ⊥) → (op_of n.op ≡ choose → ⊥) → (v : ℕ) → leaf t k v ≡ false
    other_leaf p q v =
        elim (kind (op_of n.op)) [ variable e ↦ absurd (p e) | choice e ↦ absurd (q e) | other s f ↦ no_leaf f v ]

    pub equation_operands : op_of n.op ≡ equal → Known t k (term ∷ term ∷ []) (fields_of n)
    equation_operands q = operands equal q (term ∷ term ∷ []) refl

  leafy_here : (k : ℕ) → k < length t → ((i : ℕ) → i < k → Leafy N t i) → Leafy N t k
  leafy_here k h before = go (kind (op_of n.op))
    where
      n : Node
      n = node t k

      go : Kind (op_of n.op) → Leafy N t k
      go (variable e) =
          record {
            some_leaf = λ _. (n.sym, variable_leaf k h e n.sym ∙ eq-eqb n.sym n.sym refl);
            low =
                λ v q.
                subst (λ (u : ℕ). u < N) (eqb-true n.sym v (sym (variable_leaf k h e v) ∙ q)) (variable_low k h e);
          }
      go (choice e) =
          let o = choice_operands k h e in
          let left = before n.b o.2.0 in
          let right = before n.c o.2.2.0 in
          record {
            some_leaf =
                λ _.
                let l = left.some_leaf o.2.1 in
                (l.0, choice_leaf k h e l.0 ∙ or_left (leaf t n.b l.0) (leaf t n.c l.0) l.1);
            low =
                λ v q.
                elim (or_cases (leaf t n.b v) (leaf t n.c v) (sym (choice_leaf k h e v) ∙ q)) [
                  | inl x ↦ left.low v x
                  | inr x ↦ right.low v x
                ];
          }
      go (other s f) =
          record {
            some_leaf = λ e. absurd (formula≢term (sym s ∙ e));
            low = λ v q. absurd (false≢true (sym (no_leaf k h f v) ∙ q));
          }

  leafy_below : (m : ℕ) → m ≤ length t → (k : ℕ) → k < m → Leafy N t k
  leafy_below zero h k l = absurd (omega arith)
  leafy_below (suc m) h k l = go (split k m) (leafy_below m (omega arith))
    where
      go : (k < m) ⊎ (m ≤ k) → ((j : ℕ) → j < m → Leafy N t j) → Leafy N t k
      go (inl below) rec = rec k below
      go (inr above) rec = subst (Leafy N t) (let q : m ≡ k = omega arith in q) (leafy_here m h rec)

  pub leafy : (k : ℕ) → k < length t → Leafy N t k
  leafy k h = leafy_below (length t) (omega arith) k h
