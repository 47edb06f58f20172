-- By the closing bracket, and by what follows it. Assumes nothing.
use Rattle.std.proofs.Common.{Ok, Err}
use Rattle.std.proofs.lemmas.Result.{err_from_is_err_and}
use Rattle.text.proofs.CheckLaws.{check_closes, nothing_follows, something_follows}
use Rattle.text.proofs.checking.read_end.Goals as goal

pub returns-in_err-closed : goal.returns-in_err-closed
returns-in_err-closed c =
    let p = err_from_is_err_and c.from_residual.result c.from_residual.ensures.1 in
    λ sn cs r. rw (p.1, p.2) (check_closes c.args.text.now sn cs c.args.at (Err c.in_err-closed.field-0.0) c.in_err-closed.ensures.0 r)

pub returns-in-End : goal.returns-in-End
returns-in-End c =
    λ sn cs r.
    let there = check_closes c.args.text.now sn cs c.args.at (Ok c.in_ok-closed.closed) c.in_ok-closed.ensures.0 r in
    nothing_follows c.args.text.now sn cs c.in_ok-closed.closed there c.next-token.result c.next-token.ensures c.in-End.is

pub returns-in_default : goal.returns-in_default
returns-in_default c =
    λ sn cs r.
    let there = check_closes c.args.text.now sn cs c.args.at (Ok c.in_ok-closed.closed) c.in_ok-closed.ensures.0 r in
    something_follows c.args.text.now sn cs c.in_ok-closed.closed there c.next-token.result c.next-token.ensures c.in_default.not-End
