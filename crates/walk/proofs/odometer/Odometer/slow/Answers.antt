-- The sizes are those after the fast ones.
use Rattle.std.proofs.Common.{arith}
use Rattle.walk.proofs.Slowing.{taking_part, slow_turns, slow_is}
use Rattle.walk.proofs.odometer.Odometer.slow.Goals as goal

pub invariant_of-result : goal.invariant_of-result
invariant_of-result c =
    let a = c.args.self.now.turning.few in
    let b = c.args.self.now.turning.sizes_long in
    record {
      turning =
          slow_turns c.args.self.now c.args.fast c.requires _
          (taking_part c.args.fast c.args.self.now.sizes _ _ (omega arith) (omega arith) c.copy_from_slice.ensures.after);
    }

pub returns : goal.returns
returns c =
    let a = c.args.self.now.turning.few in
    let b = c.args.self.now.turning.sizes_long in
    slow_is c.args.self.now c.args.fast c.requires _
    (taking_part c.args.fast c.args.self.now.sizes _ _ (omega arith) (omega arith) c.copy_from_slice.ensures.after) _
