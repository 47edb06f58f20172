-- One slow digit more is laid.
use Rattle.std.proofs.Common.{◌+◌, ◌*◌, ◌≤◌, arith}
use native.Mathlib.Nat.{mul-le-mul_left}
use Rattle.walk.proofs.Slow.{slow_more}
use Rattle.walk.proofs.cells.lay_slow.Goals as goal

pub fill-requires : goal.fill-requires
fill-requires c =
    let m : 16 * c.args.parts.chunks * (3 + (c.args.parts.fast + c.loop-j.j)) ≤ 16 * c.args.parts.chunks * 42 = mul-le-mul_left (16 * c.args.parts.chunks) (omega arith) in
    (omega arith, omega arith, omega arith)

pub loop-j-preserved : goal.loop-j-preserved
loop-j-preserved c = slow_more _ _ _ _ _ _ _ _ c.loop-j.invariant _ c.least.ensures c.fill.ensures
