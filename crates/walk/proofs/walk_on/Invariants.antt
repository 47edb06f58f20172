-- The walk stands at a block.
use Rattle.std.proofs.Common.{ℕ, ◌≡◌, ◌-◌, length}
use Rattle.walk.specs.Keeping.{Walking}
use Rattle.walk.proofs.walk_on.Given as goal

abbrev pub invariant-loop-tried : goal.invariant-loop-tried
invariant-loop-tried l =
    record {
      block : ℕ;
      walking : Walking l.plan l.positions l.budget l.cells l.odometer l.tried l.from block;
      room : length l.cells ≡ length l.initial.cells;
    }

abbrev pub decreases-loop-tried : goal.decreases-loop-tried
decreases-loop-tried l = l.budget - l.tried
