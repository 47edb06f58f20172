use Rattle.std.proofs.Common.{◌≡◌, ℕ, ◌∙◌, ap, subst, sym, rules, arith, length, get_or}
use denote.Enum.Bare.{same_true, sameb}
use mathlib.Core.Bool.{false≢true}
use Rattle.definitions.specs.Problem.Node.{node}
use Rattle.problem.specs.contracts.ops.Op.{the_type}
use Rattle.problem.specs.declared.ops.Op.{Op}
use Rattle.problem.specs.declared.ops.Op.TheVariants.{Equal}
use Rattle.ranges.specs.Sets.{LeafSet}
use Rattle.ranges.specs.Table.{table_in}
use Rattle.ranges.proofs.NodeLaws.{a_is, b_is, op_is, op_is_not}
use Rattle.ranges.proofs.TableLaws.{length_table, equation_in}
use Rattle.ranges.proofs.LinkLaws.{ClassesBefore, classes_none, classes_all, classes_kept, classes_merged}
use Rattle.ranges.proofs.components.classes.Goals as goal
use Rattle.ranges.proofs.components.classes.Goals.{then-eq, else-eq}

pub loop-k-init : goal.loop-k-init
loop-k-init c =
    let a = c.args.table in
    (classes_none (table_in a.bytes.now a.shape.nodes) a.shape.variables a.well_formed.few_variables c.alone-sets.result c.alone-sets.ensures, search rules)

pub loop-k-preserved : goal.loop-k-preserved
loop-k-preserved c =
    let leaves = c.args.leaves.now in
    let l = c.loop-k in
    let t = table_in c.args.table.bytes.now c.args.table.shape.nodes in
    let m = node t l.k in
    let w = c.args.table.well_formed in
    let h = c.loop-k-test.true in
    let n = c.node-node.ensures in
    elim c.if-eq.branch [
      | then-eq b ↦
          let q = op_is n c.from.ensures Equal (same_true the_type (search rules) _ _ (sym b.if-eq.ensures)) in
          let o = equation_in w l.k h q in
          rw b.sets-is (
            classes_merged w l.k h l.sets l.invariant.0 q _ _
                (subst (λ (i : ℕ). LeafSet t m.a (get_or leaves i 0)) (sym (b.from-then-eq.ensures ∙ a_is n)) (c.requires.leaves_are m.a (omega (arith, o.0))))
                (subst (λ (i : ℕ). LeafSet t m.b (get_or leaves i 0)) (sym (b.from-then-eq-2.ensures ∙ b_is n)) (c.requires.leaves_are m.b (omega (arith, o.2.0))))
                b.merge.new.sets b.merge.ensures,
            search rules,
          )
      | else-eq b ↦
          rw b.sets-is (
            classes_kept w l.k h l.sets l.invariant.0
                (op_is_not n c.from.ensures Equal (λ e. false≢true (b.if-eq.ensures ∙ ap (λ (o : Op). sameb the_type o Equal) e))),
            l.invariant.1,
          )
    ]

pub returns : goal.returns
returns c =
    let l = c.loop-k in
    let a = c.args.table in
    let t = table_in a.bytes.now a.shape.nodes in
    let e : l.k ≡ length t = omega (arith, length_table a.bytes.now a.shape.nodes) in (
      classes_all t a.shape.variables a.well_formed.few_variables l.sets
          (subst (λ (i : ℕ). ClassesBefore t a.shape.variables i l.sets) e l.invariant.0),
      l.invariant.1,
    )
