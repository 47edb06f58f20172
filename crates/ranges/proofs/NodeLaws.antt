-- What a node that is read, and its op, tell of the node in the table. Assumes nothing.
use Rattle.std.proofs.Common.{◌≡◌, refl, sym, ap, ◌∙◌}
use Rattle.definitions.specs.Problem.Node as table
use Rattle.definitions.specs.Problem.Ops as ops
use Rattle.problem.specs.Nodes.{node_read}
use Rattle.problem.specs.Ops.{op_read}
use Rattle.problem.specs.declared.put.Node.{Node}
use Rattle.problem.specs.declared.ops.Op.{Op}
use Rattle.problem.specs.declared.ops.Op.TheVariants.{
  Apply,
  Choose,
  Equal,
  Negate,
  Both,
  Either,
  Test,
  Verum,
  Falsum,
  Select,
  Unknown,
}

op_written : ops.Op → Op
op_written ops.apply = Apply
op_written ops.choose = Choose
op_written ops.equal = Equal
op_written ops.negate = Negate
op_written ops.both = Both
op_written ops.either = Either
op_written ops.test = Test
op_written ops.verum = Verum
op_written ops.falsum = Falsum
op_written ops.select = Select
op_written ops.unknown = Unknown

written_read : (o : Op) → op_written (op_read o) ≡ o
unfolding op_written
written_read Apply = refl
written_read Choose = refl
written_read Equal = refl
written_read Negate = refl
written_read Both = refl
written_read Either = refl
written_read Test = refl
written_read Verum = refl
written_read Falsum = refl
written_read Select = refl
written_read Unknown = refl

module _ {n : table.Node} {r : Node} (is : node_read r ≡ n) where
  pub symbol_is : r.symbol ≡ n.sym
  symbol_is = ap (λ (m : table.Node). m.sym) is

  pub a_is : r.a ≡ n.a
  a_is = ap (λ (m : table.Node). m.a) is

  pub b_is : r.b ≡ n.b
  b_is = ap (λ (m : table.Node). m.b) is

  pub c_is : r.c ≡ n.c
  c_is = ap (λ (m : table.Node). m.c) is

  module _ {o : Op} (read : op_read o ≡ ops.op_of r.op) (p : Op) where
    pub op_is : o ≡ p → ops.op_of n.op ≡ op_read p
    op_is e = sym (read ∙ ap (λ (m : table.Node). ops.op_of m.op) is) ∙ ap op_read e

    pub op_is_not : (o ≡ p → ⊥) → ops.op_of n.op ≡ op_read p → ⊥
    op_is_not f e =
        f (sym (written_read o) ∙ ap op_written (read ∙ ap (λ (m : table.Node). ops.op_of m.op) is ∙ e) ∙ written_read p)
