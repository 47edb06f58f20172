-- The branches of the first nodes are stored.
use Rattle.std.proofs.Common.{◌*◌}
use Rattle.walk.specs.Cells.{Decoded}
use Rattle.walk.specs.Reading.{positions_in}
use Rattle.walk.proofs.branches.decode.Given as goal

abbrev pub invariant-loop-k : goal.invariant-loop-k
invariant-loop-k l = Decoded (16 * l.chunks) (positions_in l.positions) l.table.bytes.now l.table.shape l.branches l.k
