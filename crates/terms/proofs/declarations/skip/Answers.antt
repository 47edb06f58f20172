-- Nothing stands behind the end.
use Rattle.terms.proofs.DeclarationLaws.{skip_end}
use Rattle.terms.proofs.declarations.skip.Goals as goal

pub returns-in-End : goal.returns-in-End
returns-in-End c = skip_end c.args.text.now c.args.at c.next-token.result c.next-token.ensures c.in-End.is
