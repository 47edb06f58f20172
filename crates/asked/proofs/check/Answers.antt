use Rattle.std.proofs.lemmas.Result.{err_from_is_err_and}
use Rattle.asked.proofs.Asking.{check_refused, check_counted}
use Rattle.asked.proofs.check.Goals as goal

pub returns-in_err-problem : goal.returns-in_err-problem
returns-in_err-problem c =
    let p = err_from_is_err_and c.from_residual.result c.from_residual.ensures.1 in
    rw (p.1, p.2) (check_refused c.args.bytes.now c.args.root c.in_err-problem.field-0.0 c.in_err-problem.ensures)

pub returns : goal.returns
returns c = check_counted c.in_ok-problem.ensures.0 c.counts.ensures
