-- One after the other, as far as each will do.
use Rattle.std.proofs.Common.{arith}
use Rattle.definitions.specs.Text.Tokens.{opening}
use Rattle.definitions.specs.Text.Reader.{exact, commanding}
use Rattle.terms.specs.Commands.{Begun}
use Rattle.terms.proofs.LexemeLaws.{passed_on}
use Rattle.terms.proofs.NameSteps.{sort_read}
use Rattle.terms.proofs.prologue.prologue.Goals as goal

pub returns-in_err-closed : goal.returns-in_err-closed
returns-in_err-closed c =
    let name = c.in_ok-sort.sort.name.now in
    passed_on (Begun c.args.text.now) _ _ c.from_residual-in_err-closed.ensures.1
    (c.in_err-closed.ensures.says (sort_read name) (exact opening commanding) (omega arith) c.in_ok-sort.ensures.0)

pub returns : goal.returns
returns c =
    let name = c.in_ok-sort.sort.name.now in (
      c.in_ok-closed.ensures.says (sort_read name) (exact opening commanding) (omega arith) c.in_ok-sort.ensures.0,
      c.in_ok-closed.ensures.inside,
    )
