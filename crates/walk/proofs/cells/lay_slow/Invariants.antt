-- The first slow digits are laid.
use Rattle.std.proofs.Common.{◌*◌}
use Rattle.walk.specs.Cells.{SlowLaid}
use Rattle.walk.proofs.cells.lay_slow.Given as goal

abbrev pub invariant-loop-j : goal.invariant-loop-j
invariant-loop-j l = SlowLaid (16 * l.parts.chunks) l.variables l.parts.fast l.digits l.j l.initial.cells l.cells
