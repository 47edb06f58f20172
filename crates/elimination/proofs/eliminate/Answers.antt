use Rattle.std.proofs.Common.{ap, ◌∙◌, ◌-◌, get_or}
use Rattle.std.proofs.lemmas.Result.{err_from_is_err_and}
use Rattle.definitions.specs.Problem.Check.{node_count}
use Rattle.elimination.proofs.Promising.{refused_by, not_refused, is_accepted, refused_root, refused_limit, refused_short, taken, refusal_promised, table_promised, nodes_laid_lem, table_laid, root_laid}
use Rattle.elimination.proofs.eliminate.Goals as goal

pub returns-in_err-problem : goal.returns-in_err-problem
returns-in_err-problem c =
    let p = err_from_is_err_and c.from_residual.result c.from_residual.ensures.1 in
    rw (p.1, p.2) (refusal_promised c.args.bytes.now c.args.root c.args.work.now (refused_root _ _ _ _ c.in_err-problem.ensures))

pub returns-in_err-counts : goal.returns-in_err-counts
returns-in_err-counts c =
    let p = err_from_is_err_and c.from_residual-in_err-counts.result c.from_residual-in_err-counts.ensures.1 in
    rw (p.1, p.2)
    (refusal_promised c.args.bytes.now c.args.root c.args.work.now
    (refused_limit c.in_ok-problem.ensures.0 _ _ (refused_by c.in_err-counts.ensures)))

pub returns-then-work-lt21056 : goal.returns-then-work-lt21056
returns-then-work-lt21056 c =
    refusal_promised c.args.bytes.now c.args.root c.args.work.now
    (refused_short c.in_ok-problem.ensures.0 _ (not_refused c.in_ok-counts.ensures) c.if-work-lt21056.true)

pub lay_table-requires : goal.lay_table-requires
lay_table-requires c = (is_accepted c.in_ok-counts.ensures c.in_ok-problem.ensures.1, c.if-work-lt21056.false)

pub returns : goal.returns
returns c =
    let a = c.in_ok-problem.problem in
    let ok = is_accepted c.in_ok-counts.ensures c.in_ok-problem.ensures.1 in
    let all = c.lay_table.ensures in
    let many = c.problem.invariant.nodes_are ∙ ap node_count c.problem.view_is in
    table_promised c.in_ok-problem.ensures.0 c.args.work.now
    (taken c.in_ok-problem.ensures.0 _ (not_refused c.in_ok-counts.ensures) c.if-work-lt21056.false)
    (nodes_laid_lem a ok all)
    (c.from.ensures ∙ ap (λ n. get_or c.lay_table.new.all.images (n - 1) 0) many ∙ root_laid a ok all)
    (table_laid a ok all)
