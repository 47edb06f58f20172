-- The first chunks are taken.
use Rattle.std.proofs.Common.{◌*◌}
use Rattle.walk.specs.Cells.{Chosen}
use Rattle.walk.proofs.lanes.solve.Given as goal

abbrev pub invariant-loop-h : goal.invariant-loop-h
invariant-loop-h l = Chosen (16 * l.h) l.at l.fn.branch l.initial.cells l.cells
