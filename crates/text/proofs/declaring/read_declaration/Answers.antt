-- By what the function's declaration says. Assumes nothing.
use Rattle.std.proofs.lemmas.Result.{err_from_is_err_and}
use Rattle.text.proofs.ShelfLaws.{one_more_lem}
use Rattle.text.proofs.declaring.read_declaration.Goals as goal

pub returns-in_err-function : goal.returns-in_err-function
returns-in_err-function c i =
    let p = err_from_is_err_and c.from_residual.result c.from_residual.ensures.1 in
    rw (p.1, p.2) (c.in_err-function.ensures.says c.args.script.now.declared.sort.now i.commands i.so.symbols_so i.reached)

pub returns : goal.returns
returns c i =
    let f = c.in_ok-function.ensures in
    let s = f.sound in
    one_more_lem i s.0 s.1 s.2 (f.says c.args.script.now.declared.sort.now i.commands i.so.symbols_so i.reached) c.shelve.ensures
