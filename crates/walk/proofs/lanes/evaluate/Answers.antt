-- One position more is solved.
use Rattle.std.proofs.Common.{arith}
use Rattle.walk.proofs.Solving.{tail_more}
use Rattle.walk.proofs.lanes.evaluate.Goals as goal

pub loop-branch-preserved : goal.loop-branch-preserved
loop-branch-preserved c =
    let v = c.loop-branch.invariant in
    let e = v.at_is in
    record {
      at_is = omega arith;
      solved = tail_more _ _ _ _ _ _ _ _ c.requires.0 c.loop-branch-test.true e c.solve.ensures c.requires.4 v.solved;
    }
