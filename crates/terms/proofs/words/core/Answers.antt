-- The table is the list of the definition.
use Rattle.definitions.specs.Text.Grammar.{CORE}
use Rattle.terms.proofs.SameLaws.{placed}
use Rattle.terms.proofs.words.core.Goals as goal

pub returns : goal.returns
returns c = placed c.args.name.now CORE c.place_in.result c.place_in.ensures
