-- The positions before the branch's are solved.
use Rattle.std.proofs.Common.{◌≡◌, ◌*◌, ◌+◌}
use Rattle.walk.proofs.Solving.{Solving}
use Rattle.walk.proofs.lanes.evaluate.Given as goal

abbrev pub invariant-loop-branch : goal.invariant-loop-branch
invariant-loop-branch l =
    record {
      at_is : l.at ≡ l.lanes * (42 + (l.from + l.branch-index));
      solved : Solving l.lanes l.branches l.from (l.from + l.branch-index) l.initial.cells l.cells;
    }
