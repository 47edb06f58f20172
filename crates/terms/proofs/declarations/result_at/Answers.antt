-- By the token that is due.
use Rattle.std.proofs.Common.{sym}
use Rattle.terms.proofs.DeclarationLaws.{result_sort, result_other}
use Rattle.terms.proofs.declarations.result_at.Goals as goal

pub returns-in-Ok : goal.returns-in-Ok
returns-in-Ok c =
    let a = c.args in
    sym (result_sort a.text.now a.at a.sort.now c.in-Ok.field-0 c.in-Ok.ensures.0)

pub returns-in-Err : goal.returns-in-Err
returns-in-Err c =
    let a = c.args in
    sym (result_other a.text.now a.at a.sort.now c.in-Err.field-0 c.in-Err.ensures.0)
