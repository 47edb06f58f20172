-- The digits before i have gone back to 0, and the others stand.
use Rattle.walk.proofs.Carrying.{Carrying}
use Rattle.walk.proofs.odometer.Odometer.next.Given as goal

abbrev pub invariant-loop-i : goal.invariant-loop-i
invariant-loop-i l = record { carrying : Carrying l.fn.self l.i l.digits }
