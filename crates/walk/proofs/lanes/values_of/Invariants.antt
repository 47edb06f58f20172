-- The values of the first nodes are copied.
use Rattle.std.proofs.Common.{◌*◌}
use Rattle.walk.specs.Cells.{LaneCopied}
use Rattle.walk.specs.Reading.{positions_in}
use Rattle.walk.proofs.lanes.values_of.Given as goal

abbrev pub invariant-loop-k : goal.invariant-loop-k
invariant-loop-k l = LaneCopied (16 * l.chunks) (positions_in l.positions) l.cells l.lane l.k l.values
