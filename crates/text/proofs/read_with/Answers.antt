-- By the commands, and by the end. Assumes nothing.
use Rattle.std.proofs.lemmas.Result.{err_from_is_err_and}
use Rattle.text.proofs.FirstLaws.{refused_promised}
use Rattle.text.proofs.read_with.Goals as goal

pub returns-in_err-read_commands : goal.returns-in_err-read_commands
returns-in_err-read_commands c =
    let p = err_from_is_err_and c.from_residual.result c.from_residual.ensures.1 in
    rw (p.1, p.2) (refused_promised c.args.text.now c.args.problem.now c.in_err-read_commands.field-0.0 c.requires.room c.in_err-read_commands.ensures)
