-- The first lanes are taken.
use Rattle.std.proofs.Common.{◌≡◌, ℕ, ◌+◌, ◌<◌, length, get_or}
use Rattle.walk.specs.Cells.{chosen}
use Rattle.walk.proofs.lanes.pick.Given as goal

abbrev pub invariant-loop-l : goal.invariant-loop-l
invariant-loop-l l =
    record {
      long : length l.lanes ≡ 16;
      taken : (k : ℕ) → k < l.l
          → get_or l.lanes k 0 ≡ chosen (get_or l.cells (l.left + k) 0) (get_or l.cells (l.right + k) 0) (get_or l.cells (l.same + k) 0) (get_or l.cells (l.apart + k) 0);
    }
