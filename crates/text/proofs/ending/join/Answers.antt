-- One root more is joined.
use Rattle.std.proofs.Common.{arith}
use Rattle.text.proofs.EndLaws.{joins_one}
use Rattle.text.proofs.ending.join.Goals as goal

pub loop-i-preserved : goal.loop-i-preserved
loop-i-preserved c = joins_one c.args.roots.now c.loop-i.i (omega arith) c.loop-i-test.true c.loop-i.invariant c.pair-joined.ensures
