-- The tokens are the definition's.
use Rattle.std.proofs.Common.{arith}
use Rattle.definitions.specs.Text.Reader.{start, naming}
use Rattle.terms.proofs.ReachLaws.{reached_start}
use Rattle.terms.proofs.prologue.header.Goals as goal

pub returns : goal.returns
returns c = (c.exact_all.ensures.says start naming (omega arith) (reached_start c.args.text.now), c.exact_all.ensures.inside)
