-- So many of the roots are joined. Assumes nothing.
use Rattle.std.proofs.Common.{take}
use Rattle.terms.specs.Laying.{Performs}
use Rattle.terms.specs.Scripts.{joined_roots}
use Rattle.text.proofs.ending.join.Given as goal

abbrev pub invariant-loop-i : goal.invariant-loop-i
invariant-loop-i l = Performs (joined_roots (take l.i l.roots)) l.fn.table l.joined l.table
