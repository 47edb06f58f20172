use Rattle.decision.proofs.WitnessLaws.{Writing}
use Rattle.decision.proofs.witness.write_witness.Given as goal

abbrev pub invariant-loop-i : goal.invariant-loop-i
invariant-loop-i l = Writing l.problem l.values l.fn.witness l.laid.count l.witness l.i
