-- The refusals of eliminate, the tops and the product, or that the product is too big.
use Rattle.std.proofs.Common.{sym, subst, arith}
use Rattle.std.proofs.lemmas.Result.{err_from_is_err_and}
use Rattle.definitions.specs.Ranges.{product}
use Rattle.definitions.specs.declared.Refusal.{Refusal}
use Rattle.elimination.proofs.Promising.{refused_by, not_refused, is_accepted, predicates_answered, refused_root, refused_limit, refused_short, taken, table_laid}
use Rattle.ranges.specs.Table.{TableIn}
use Rattle.ranges.specs.Spans.{ProductIs}
use Rattle.ranges.proofs.Measuring.{table_stands, tops_measured, product_measured, ranges_refused, ranges_big, ranges_given, product_told, no_product_told}
use Rattle.ranges.proofs.ranges.Goals as goal

pub returns-in_err-problem : goal.returns-in_err-problem
returns-in_err-problem c =
    let p = err_from_is_err_and c.from_residual.result c.from_residual.ensures.1 in
    rw (p.1, p.2) (ranges_refused _ _ _ _ (refused_root _ _ _ _ c.in_err-problem.ensures))

pub returns-in_err-truths : goal.returns-in_err-truths
returns-in_err-truths c =
    let p = err_from_is_err_and c.from_residual-in_err-truths.result c.from_residual-in_err-truths.ensures.1 in
    rw (p.1, p.2) (ranges_refused _ _ _ _ (refused_limit c.in_ok-problem.ensures.0 _ _ (refused_by c.in_err-truths.ensures)))

pub returns-then-work-lt21056 : goal.returns-then-work-lt21056
returns-then-work-lt21056 c =
    ranges_refused _ _ _ _ (refused_short c.in_ok-problem.ensures.0 _ (not_refused c.in_ok-truths.ensures) c.if-work-lt21056.true)

pub lay_table-requires : goal.lay_table-requires
lay_table-requires c = (is_accepted c.in_ok-truths.ensures c.in_ok-problem.ensures.1, c.if-work-lt21056.false)

pub invariant_of-measure : goal.invariant_of-measure
invariant_of-measure c =
    let ok = is_accepted c.in_ok-truths.ensures c.in_ok-problem.ensures.1 in
    record {
      well_formed =
          subst (TableIn c.lay_table.new.work) (sym c.from.ensures)
          (table_stands c.in_ok-problem.problem ok c.lay_table.ensures (let same = c.lay_table.auto.work in omega arith));
    }

pub returns-in_err-product : goal.returns-in_err-product
returns-in_err-product c =
    let a = c.in_ok-problem.problem in
    let all = c.lay_table.ensures in
    let ok = is_accepted c.in_ok-truths.ensures c.in_ok-problem.ensures.1 in
    let within = not_refused c.in_ok-truths.ensures in
    let spans = rw c.from.ensures at c.measure-spans.ensures in
    let p = err_from_is_err_and c.from_residual-in_err-product.result c.from_residual-in_err-product.ensures.1 in
    let told = no_product_told c.measure-spans.result.product Refusal.BigProduct c.ok_or.result _ c.ok_or.ensures.value c.in_err-product.was in
    rw (p.1, p.2, told.1) (
    ranges_big c.in_ok-problem.ensures.0 c.args.work.now (taken c.in_ok-problem.ensures.0 _ within c.if-work-lt21056.false) (table_laid a ok all)
    (subst (ProductIs (product a)) told.0 (product_measured a ok all spans))
    )

pub returns : goal.returns
returns c =
    let a = c.in_ok-problem.problem in
    let all = c.lay_table.ensures in
    let ok = is_accepted c.in_ok-truths.ensures c.in_ok-problem.ensures.1 in
    let within = not_refused c.in_ok-truths.ensures in
    let spans = rw c.from.ensures at c.measure-spans.ensures in
    let told = product_told c.measure-spans.result.product Refusal.BigProduct c.ok_or.result _ c.ok_or.ensures.value c.in_ok-product.was in
    let is = subst (ProductIs (product a)) told (product_measured a ok all spans) in
    ranges_given c.in_ok-problem.ensures.0 c.args.work.now (taken c.in_ok-problem.ensures.0 _ within c.if-work-lt21056.false) (table_laid a ok all) _ _ _
    (tops_measured a ok all spans) (predicates_answered c.in_ok-truths.ensures) is.0 is.1
