use Rattle.elimination.proofs.Choosing.{Choosing}
use Rattle.elimination.proofs.laid.Laid.lay_choices.Given as goal

abbrev pub invariant-loop-i : goal.invariant-loop-i
invariant-loop-i l = Choosing l.problem l.k l.initial.work l.initial.at l.work l.at l.i
