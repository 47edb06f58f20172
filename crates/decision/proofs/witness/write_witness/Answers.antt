use Rattle.std.proofs.Common.{length, refl, ap, arith, length-drop, ◌+◌, ◌*◌}
use Rattle.problem.proofs.Putting.{tail_whole}
use Rattle.decision.proofs.WitnessLaws.{rows_few, rows_many, writing_none, writing_more, writing_done}
use Rattle.decision.proofs.witness.write_witness.Goals as goal

pub loop-i-init : goal.loop-i-init
loop-i-init c =
    writing_none (rows_many c.args.problem.now c.requires.0 c.args.laid.now c.requires.1) (rows_few c.requires.0 c.requires.1) c.put.ensures

pub put-requires-in-loop-i : goal.put-requires-in-loop-i
put-requires-in-loop-i c =
    let at = 6 + 5 * c.loop-i.i in
    let z = c.loop-i.invariant in
    omega (arith, z.few, c.requires.3, c.loop-i.auto.witness, ap length (tail_whole c.loop-i.witness at (omega (arith, z.few, c.requires.3, c.loop-i.auto.witness))), length-drop at c.loop-i.witness)

pub loop-i-preserved : goal.loop-i-preserved
loop-i-preserved c =
    writing_more c.loop-i.invariant c.loop-i-test.true c.row.ensures c.put-in-loop-i.ensures refl

pub returns : goal.returns
returns c = writing_done c.loop-i.invariant (omega arith)
