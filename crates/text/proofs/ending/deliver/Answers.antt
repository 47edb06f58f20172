-- By the limits. Assumes nothing.
use Rattle.std.proofs.Common.{sym, ◌∙◌, subst}
use Rattle.std.proofs.lemmas.Result.{err_from_is_err_and}
use Rattle.terms.specs.Laying.{FewCounted}
use Rattle.text.proofs.EndLaws.{refused_delivered, fine_delivered}
use Rattle.text.proofs.ending.deliver.Goals as goal

pub returns-in_err-counts : goal.returns-in_err-counts
returns-in_err-counts c =
    let p = err_from_is_err_and c.from_residual-in_err-counts.result c.from_residual-in_err-counts.ensures.1 in
    rw (p.1, p.2)
    (refused_delivered c.args.symbols.now c.args.table.now c.put_problem.new.whole _ c.put_problem.ensures
    (sym c.in_ok-nodes.ensures.ok_part ∙ c.count.ensures.counts)
    (subst FewCounted c.in_ok-nodes.ensures.ok_part c.count.ensures.few)
    c.args.problem.now
    c.in_err-counts.field-0.0
    c.in_err-counts.ensures)

pub returns : goal.returns
returns c =
    fine_delivered c.args.symbols.now c.args.table.now c.put_problem.new.whole _ c.put_problem.ensures (sym c.in_ok-nodes.ensures.ok_part ∙ c.count.ensures.counts)
    (subst FewCounted c.in_ok-nodes.ensures.ok_part c.count.ensures.few)
    c.args.problem.now
    c.put.new.tail
    c.in_ok-counts.field-0
    c.in_ok-counts.ensures
    c.put.ensures
