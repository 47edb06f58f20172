-- The first digits have as many assignments as there are lanes so far, and those are not too many.
use Rattle.walk.proofs.Splitting.{Splitting}
use Rattle.walk.proofs.split.split.Given as goal

abbrev pub invariant-loop-fast : goal.invariant-loop-fast
invariant-loop-fast l = Splitting l.all.sizes l.all.count l.most l.fast l.lanes
