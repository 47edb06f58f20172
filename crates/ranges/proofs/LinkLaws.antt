-- The links of the first k nodes of a table in bytes. Node k adds the links between its leaves if it is an equation, and else
-- none, so that the classes merged at each equation are those of all the links before. Assumes nothing.
use mathlib.Core.Path.{◌≡◌, refl, sym, ap, ap₂, ◌∙◌}
use Prim.Native.Nat.{ℕ, zero, suc, ◌+◌, ◌≤◌, ◌<◌}
use native.Mathlib.Omega.{arith}
use native.Mathlib.Numerals.{add-one}
use mathlib.Core.Bool.{Bool, true, false, ◌&&◌, ◌||◌, or_assoc, or-false}
use mathlib.Core.Logic.{inl, inr}
use mathlib.Core.List.{List, [], ◌∷◌, ◌++◌}
use lib.ListN.{length, take}
use lib.Seq.{take-suc, take-length}
use lib.Bits.{bit_or}
use lib.Dec.{eqb}
use borrow.Author.Tests.{eq-eqb, ne_eqb}
use Rattle.definitions.specs.Lists.{any}
use Rattle.definitions.specs.Problem.Node.{Node, node, no_node}
use Rattle.definitions.specs.Problem.Ops.{equal, op_of, term, fields_of}
use Rattle.definitions.specs.Ranges.{leaf, links, linked}
use Rattle.theorems.proofs.Laws.Tests.{or_cases}
use Rattle.ranges.specs.Sets.{in_set, LeafSet, ClassesAre, Apart, Merged}
use Rattle.ranges.specs.Table.{TableIn, table_in}
use Rattle.ranges.specs.declared.Shape.{Shape}
use Rattle.ranges.proofs.SetLaws.{in_or}
use Rattle.ranges.proofs.LeafLaws.{Known, Leafy, leafy}
use Rattle.ranges.proofs.TableLaws.{length_table, equation_in}
use Rattle.ranges.proofs.ClassLaws.{Partition, partition_apart, partition_same, partition_merge, classes_are}

-- an equation's op is number 2
two : (op : ℕ) → op_of op ≡ equal → op ≡ 2
two zero e = cc
two (suc zero) e = cc
two (suc (suc zero)) e = refl
two (suc (suc (suc zero))) e = cc
two (suc (suc (suc (suc zero)))) e = cc
two (suc (suc (suc (suc (suc zero))))) e = cc
two (suc (suc (suc (suc (suc (suc zero)))))) e = cc
two (suc (suc (suc (suc (suc (suc (suc zero))))))) e = cc
two (suc (suc (suc (suc (suc (suc (suc (suc zero)))))))) e = cc
two (suc (suc (suc (suc (suc (suc (suc (suc (suc zero))))))))) e = cc
two (suc (suc (suc (suc (suc (suc (suc (suc (suc (suc op)))))))))) e = cc

any_snoc : (f : Node → Bool) (t : List Node) (n : Node) → any f (t ++ (n ∷ [])) ≡ any f t || f n
any_snoc f [] n = or-false (f n)
any_snoc f (m ∷ t) n = ap (λ (b : Bool). f m || b) (any_snoc f t n) ∙ sym (or_assoc (f m) (any f t) (f n))

-- an equation among the first k nodes links u and v
abbrev pub linked_before : List Node → ℕ → ℕ → ℕ → Bool
linked_before t k u v = any (links t u v) (take k t)

linked_next : (t : List Node) (k u v : ℕ) → k < length t
    → linked_before t (k + 1) u v ≡ linked_before t k u v || links t u v (node t k)
linked_next t k u v h =
    ap (any (links t u v)) (ap (λ (i : ℕ). take i t) (add-one k) ∙ take-suc t k no_node h)
    ∙ any_snoc (links t u v) (take k t) (node t k)

-- the sets are the classes that the links of the first k nodes join
abbrev pub ClassesBefore : List Node → ℕ → ℕ → List ℕ → Type 0
ClassesBefore t N k sets = Partition (linked_before t k) N sets

pub classes_none : (t : List Node) (N : ℕ) → N ≤ 24 → (sets : List ℕ) → Apart sets → ClassesBefore t N 0 sets
classes_none t N = partition_apart (linked_before t 0) (λ u v. refl) N

pub classes_all : (t : List Node) (N : ℕ) → N ≤ 24 → (sets : List ℕ) → ClassesBefore t N (length t) sets → ClassesAre t N sets
classes_all t N few sets p =
    classes_are t N few sets
    (partition_same (linked_before t (length t)) (linked t) (λ u v. ap (any (links t u v)) (sym (take-length t))) N sets p)

module _
    {s : List ℕ}
    {shape : Shape}
    (w : TableIn s shape)
    (k : ℕ)
    (h : k < shape.nodes)
    (sets : List ℕ)
    (p : ClassesBefore (table_in s shape.nodes) shape.variables k sets) where
  abbrev N : ℕ
  N = shape.variables

  abbrev t : List Node
  t = table_in s shape.nodes

  abbrev n : Node
  n = node t k

  -- what node k adds, by whether it is an equation
  adds : (b : Bool) → eqb n.op 2 ≡ b → (u v : ℕ)
      → linked_before t (k + 1) u v
      ≡ linked_before t k u v || (b && (leaf t n.a u && leaf t n.b v || leaf t n.a v && leaf t n.b u))
  adds b q u v =
      let l = length_table s shape.nodes in
      linked_next t k u v (omega arith)
      ∙ ap (λ (c : Bool). linked_before t k u v || (c && (leaf t n.a u && leaf t n.b v || leaf t n.a v && leaf t n.b u))) q

  pub classes_kept : (op_of n.op ≡ equal → ⊥) → ClassesBefore t N (k + 1) sets
  classes_kept q =
      partition_same (linked_before t k) (linked_before t (k + 1))
      (λ u v. adds false (ne_eqb n.op 2 (λ e. q (ap op_of e))) u v ∙ or-false (linked_before t k u v)) N sets p

  pub classes_merged : op_of n.op ≡ equal → (x y : ℕ) → LeafSet t n.a x → LeafSet t n.b y → (merged : List ℕ)
      → Merged sets (bit_or x y) merged → ClassesBefore t N (k + 1) merged
  classes_merged q x y f g merged m =
      partition_merge (linked_before t k) (linked_before t (k + 1)) N w.few_variables sets merged (bit_or x y) p m (leaf t n.a)
      (leaf t n.b) ends (adds true (eq-eqb n.op 2 (two n.op q))) low l.0 r.0 l.1 r.1
    where
      o : Known t k (term ∷ term ∷ []) (fields_of n)
      o = equation_in w k h q

      left : Leafy N t n.a
      left = leafy N shape.truths t w.free n.a (let i = o.0 in let j = length_table s shape.nodes in omega arith)

      right : Leafy N t n.b
      right = leafy N shape.truths t w.free n.b (let i = o.2.0 in let j = length_table s shape.nodes in omega arith)

      l : (v : ℕ) × (leaf t n.a v ≡ true)
      l = left.some_leaf o.1

      r : (v : ℕ) × (leaf t n.b v ≡ true)
      r = right.some_leaf o.2.1

      ends : (u : ℕ) → in_set (bit_or x y) u ≡ leaf t n.a u || leaf t n.b u
      ends u = in_or x y u ∙ ap₂ ◌||◌ (f u) (g u)

      low : (u : ℕ) → in_set (bit_or x y) u ≡ true → u < N
      low u e =
          elim (or_cases (leaf t n.a u) (leaf t n.b u) (sym (ends u) ∙ e)) [
            | inl i ↦ left.low u i
            | inr i ↦ right.low u i
          ]
