use Rattle.std.proofs.Common.{◌<◌}
use Rattle.asked.proofs.Renumbering.{Laying}
use Rattle.asked.proofs.trim.lay_reached.Given as goal

abbrev pub invariant-loop-k : goal.invariant-loop-k
invariant-loop-k l = Laying l.problem l.root l.fn.nodes l.nodes l.numbers l.count l.k × (l.root < 256)
