-- By 23, and by the prologue. Assumes nothing.
use Rattle.std.proofs.lemmas.Result.{err_from_is_err_and}
use Rattle.definitions.specs.declared.Refusal.{Refusal}
use Rattle.text.proofs.FirstLaws.{refused_promised, short_promised}
use Rattle.text.proofs.read.Goals as goal

pub returns-then-problem-lt2088 : goal.returns-then-problem-lt2088
returns-then-problem-lt2088 c = short_promised c.args.text.now c.args.problem.now c.if-problem-lt2088.true

pub returns-in_err-named : goal.returns-in_err-named
returns-in_err-named c =
    let p = err_from_is_err_and c.from_residual.result c.from_residual.ensures.1 in
    rw (p.1, p.2) (refused_promised c.args.text.now c.args.problem.now (Refusal.WrongToken c.in_err-named.field-0.0.0) c.if-problem-lt2088.false c.in_err-named.ensures)
