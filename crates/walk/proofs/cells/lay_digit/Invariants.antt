-- Whole runs are laid, and the digit is the next run's.
use Rattle.std.proofs.Common.{◌-◌}
use Rattle.walk.proofs.Runs.{Running}
use Rattle.walk.proofs.cells.lay_digit.Given as goal

abbrev pub invariant-loop-lane : goal.invariant-loop-lane
invariant-loop-lane l = Running l.at l.lanes l.run l.size l.least l.initial.cells l.cells l.digit l.lane

abbrev pub decreases-loop-lane : goal.decreases-loop-lane
decreases-loop-lane l = l.lanes - l.lane
