-- The table is the list of the definition.
use Rattle.std.proofs.Common.{◌∙◌}
use Rattle.definitions.specs.Text.Tokens.{RESERVED}
use Rattle.terms.proofs.SameLaws.{among}
use Rattle.terms.proofs.words.reserved.Goals as goal

pub returns : goal.returns
returns c = c.is_some.ensures ∙ among c.args.name.now RESERVED c.place_in.result c.place_in.ensures
