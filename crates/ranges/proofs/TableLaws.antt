-- The nodes of a table in bytes: node k stands at byte 8 * k. What each op has there, and its leaves as a set. Assumes nothing.
use mathlib.Core.Path.{◌≡◌, sym, ap, ap₂, ◌∙◌}
use Prim.Native.Nat.{ℕ, ◌+◌, ◌*◌, ◌^◌, ◌<◌}
use native.Mathlib.Omega.{arith}
use mathlib.Core.Bool.{◌||◌}
use mathlib.Core.List.{List, [], ◌∷◌}
use lib.ListN.{length}
use lib.Bits.{bit_or}
use Rattle.definitions.specs.Problem.Node.{Node, node, node_at}
use Rattle.theorems.proofs.Accepted.{length_nodes_at}
use Rattle.problem.proofs.NodeLaws.{node_nodes_at}
use Rattle.definitions.specs.Problem.Ops.{apply, choose, equal, op_of, term, formula, fields_of}
use Rattle.ranges.specs.Sets.{LeafSet}
use Rattle.ranges.specs.Table.{TableIn, table_in}
use Rattle.ranges.specs.declared.Shape.{Shape}
use Rattle.ranges.proofs.SetLaws.{in_none, in_one, in_or}
use Rattle.ranges.proofs.LeafLaws.{
  Known,
  variable_low,
  variable_leaf,
  choice_operands,
  choice_leaf,
  other_leaf,
  equation_operands,
}

pub length_table : (s : List ℕ) (nodes : ℕ) → length (table_in s nodes) ≡ nodes
length_table s nodes = length_nodes_at s 0 nodes

pub node_in : (s : List ℕ) (nodes k : ℕ) → k < nodes → node (table_in s nodes) k ≡ node_at s (8 * k)
node_in s nodes k h = node_nodes_at s 0 nodes k h ∙ ap (node_at s) (let e : 0 + 8 * k ≡ 8 * k = omega arith in e)

module _ {s : List ℕ} {shape : Shape} (w : TableIn s shape) (k : ℕ) (h : k < shape.nodes) where
  abbrev N : ℕ
  N = shape.variables

  abbrev P : ℕ
  P = shape.truths

  abbrev t : List Node
  t = table_in s shape.nodes

  abbrev n : Node
  n = node t k

  within : k < length t
  within = let l = length_table s shape.nodes in omega arith

  pub variable_in : op_of n.op ≡ apply → n.sym < N
  variable_in = variable_low N P t w.free k within

  pub variable_set : op_of n.op ≡ apply → LeafSet t k (2 ^ n.sym)
  variable_set q v = in_one n.sym v ∙ sym (variable_leaf N P t w.free k within q v)

  pub choice_in : op_of n.op ≡ choose → Known t k (formula ∷ term ∷ term ∷ []) (fields_of n)
  choice_in = choice_operands N P t w.free k within

  pub choice_set : op_of n.op ≡ choose → (x y : ℕ) → LeafSet t n.b x → LeafSet t n.c y → LeafSet t k (bit_or x y)
  choice_set q x y f g v =
      in_or x y v ∙ ap₂ ◌||◌ (f v) (g v) ∙ sym (choice_leaf N P t w.free k within q v)

  pub other_set : (op_of n.op ≡ apply → ⊥) → (op_of n.op ≡ choose → ⊥) → LeafSet t k 0
  other_set p q v = in_none v ∙ sym (other_leaf N P t w.free k within p q v)

  pub equation_in : op_of n.op ≡ equal → Known t k (term ∷ term ∷ []) (fields_of n)
  equation_in = equation_operands N P t w.free k within
