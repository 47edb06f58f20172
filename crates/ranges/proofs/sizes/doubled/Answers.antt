use Rattle.std.proofs.Common.{arith}
use lib.ListN.{get_or-replicate}
use Rattle.ranges.proofs.SizeLaws.{multiplied_next, multiplied_big, twos, length_twos, positive_twos}
use Rattle.ranges.proofs.sizes.doubled.Goals as goal

pub returns-in_err-all : goal.returns-in_err-all
returns-in_err-all c =
    let l = c.loop in
    let n = c.args.truths in
    rw c.from_residual.ensures (
    multiplied_big (twos n) _ l.counter l.all l.invariant 2 (omega (arith, length_twos n)) (get_or-replicate n l.counter 2 0 (omega arith))
    (positive_twos n) c.in_err-all.ensures
    )

pub loop-preserved : goal.loop-preserved
loop-preserved c =
    let l = c.loop in
    let n = c.args.truths in
    multiplied_next (twos n) _ l.counter l.all l.invariant 2 (omega (arith, length_twos n)) (get_or-replicate n l.counter 2 0 (omega arith))
    c.in_ok-all.all c.in_ok-all.ensures
