-- By the command that begins there. Assumes nothing.
use Rattle.std.proofs.Common.{subst}
use Rattle.std.proofs.lemmas.Result.{err_from_is_err_and}
use Rattle.terms.specs.Reading.{Reached}
use Rattle.text.specs.Commands.{behind}
use Rattle.text.specs.declared.commands.Command.{Command}
use Rattle.text.proofs.whole.read_commands.Goals as goal

pub returns-in_err-begun : goal.returns-in_err-begun
returns-in_err-begun c =
    let p = err_from_is_err_and c.from_residual.result c.from_residual.ensures.1 in
    let i = c.loop-begun.invariant in
    rw (p.1, p.2) (c.in_err-begun.ensures.says c.loop-begun.script.declared.sort.now i.commands i.so.symbols_so.reached)

pub returns-in_err-read_end-in-Check : goal.returns-in_err-read_end-in-Check
returns-in_err-read_end-in-Check c =
    let p = err_from_is_err_and c.from_residual-in_err-read_end-in-Check.result c.from_residual-in_err-read_end-in-Check.ensures.1 in
    let i = c.loop-begun.invariant in
    let sn = c.loop-begun.script.declared.sort.now in
    let there = subst (λ (k : Command). Reached c.args.text.now (behind sn i.commands k) c.in_ok-begun.begun.at) c.in-Check.is (c.in_ok-begun.ensures.says sn i.commands i.so.symbols_so.reached) in
    rw (p.1, p.2) (c.in_err-read_end-in-Check.ensures sn i.commands there)

pub returns-in-Check : goal.returns-in-Check
returns-in-Check c =
    let i = c.loop-begun.invariant in
    let sn = c.loop-begun.script.declared.sort.now in
    let there = subst (λ (k : Command). Reached c.args.text.now (behind sn i.commands k) c.in_ok-begun.begun.at) c.in-Check.is (c.in_ok-begun.ensures.says sn i.commands i.so.symbols_so.reached) in
    record { scripted = i; whole = c.in_ok-read_end-in-Check.ensures sn i.commands there }
