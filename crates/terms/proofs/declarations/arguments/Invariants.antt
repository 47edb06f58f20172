-- The arguments are counted as far as this offset.
use Rattle.terms.proofs.DeclarationLaws.{Counting}
use Rattle.terms.proofs.declarations.arguments.Given as goal

abbrev pub invariant-loop-arity : goal.invariant-loop-arity
invariant-loop-arity l = Counting l.text l.from l.at l.arity
