use Rattle.std.proofs.Common.{◌≡◌, ℕ, List, ◌+◌, ◌<◌, length, take, get_or, set, ap, sym, ◌∙◌, subst, arith, length-set, length-take-le}
use Rattle.std.proofs.Math.Seq.{take_all}
use Rattle.definitions.specs.Problem.Check.{node_count}
use Rattle.theorems.proofs.Accepted.{Layout}
use Rattle.asked.specs.Reached.{operands_at, Marked}
use Rattle.asked.proofs.Operands.{in_use_few, operands_are, operand_earlier}
use Rattle.asked.proofs.Marking.{mark_one}
use Rattle.asked.proofs.reach.mark_operands.Goals as goal

pub slice_bounds-operand-items-end : goal.slice_bounds-operand-items-end
slice_bounds-operand-items-end c =
    omega (arith, ap length c.operands.ensures, in_use_few c.requires.0 c.args.k c.requires.1 c.node-node.ensures c.in_use.ensures)

pub slice_bounds-operand-items-end-2 : goal.slice_bounds-operand-items-end-2
slice_bounds-operand-items-end-2 c =
    sym (length-take-le _ _ (omega (arith, ap length c.operands.ensures, in_use_few c.requires.0 c.args.k c.requires.1 c.node-node.ensures c.in_use.ensures)))

-- operand j, as it is read, is an earlier node
module _ {s : List ℕ} (l : Layout s) {k : ℕ} (h : k < node_count s) {fields : List ℕ} (are : fields ≡ operands_at s k)
    {j o : ℕ} (in_use : j < length (operands_at s k)) (is : o ≡ get_or fields j 0) where
  read : o ≡ get_or (operands_at s k) j 0
  read = is ∙ ap (λ xs. get_or xs j 0) are

  small : o < 256
  small = omega (arith, operand_earlier l k h j in_use, l.few_nodes, h, read)

  marked : (before marks : List ℕ) → length marks ≡ 256 → Marked (take j (operands_at s k)) before marks
      → Marked (take (j + 1) (operands_at s k)) before (set marks o 1)
  marked before marks long v =
      subst (λ i. Marked (take (j + 1) (operands_at s k)) before (set marks i 1)) (sym read)
      (mark_one (operands_at s k) before marks j in_use (omega (arith, operand_earlier l k h j in_use, l.few_nodes, h, long)) v)

pub bounds-marks-from : goal.bounds-marks-from
bounds-marks-from c =
    let are = operands_are c.args.problem.now c.args.k c.node-node.ensures c.in_use.ensures c.operands.ensures in
    small c.requires.0 c.requires.1 are (omega (arith, ap length are, c.loop-operand-test.true)) c.from.ensures

pub loop-operand-preserved : goal.loop-operand-preserved
loop-operand-preserved c =
    let are = operands_are c.args.problem.now c.args.k c.node-node.ensures c.in_use.ensures c.operands.ensures in (
      marked c.requires.0 c.requires.1 are (omega (arith, ap length are, c.loop-operand-test.true)) c.from.ensures
          c.args.marks.now c.loop-operand.marks c.loop-operand.invariant.1 c.loop-operand.invariant.0,
      length-set c.loop-operand.marks _ 1 ∙ c.loop-operand.invariant.1,
    )

pub returns : goal.returns
returns c =
    let ops = operands_at c.args.problem.now c.args.k in
    let are = operands_are c.args.problem.now c.args.k c.node-node.ensures c.in_use.ensures c.operands.ensures in
    let all : take c.loop-operand.operand-index ops ≡ ops = take_all _ ops (omega (arith, ap length are, c.loop-operand-test.false)) in
    subst (λ these. Marked these c.args.marks.now c.loop-operand.marks) all c.loop-operand.invariant.0
