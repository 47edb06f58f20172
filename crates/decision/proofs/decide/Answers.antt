-- The refusals of eliminate, a witness buffer that is too short, a product that is too big; and what the search answers.
use Rattle.std.proofs.Common.{sym, subst, arith}
use Rattle.std.proofs.lemmas.Result.{err_from_is_err_and}
use Rattle.definitions.specs.Ranges.{product}
use Rattle.definitions.specs.declared.Refusal.{Refusal}
use Rattle.elimination.proofs.Promising.{refused_by, not_refused, is_accepted, refused_root, refused_limit, refused_short, taken, table_laid}
use Rattle.ranges.specs.Table.{TableIn}
use Rattle.ranges.specs.Spans.{ProductIs}
use Rattle.ranges.proofs.Measuring.{table_stands, tops_measured, product_measured, product_told, no_product_told}
use Rattle.decision.proofs.Deciding.{refused_early, refused_witness, buffers_taken, decide_refused, decide_big, decide_searched}
use Rattle.decision.proofs.decide.Goals as goal

pub returns-in_err-problem : goal.returns-in_err-problem
returns-in_err-problem c =
    let p = err_from_is_err_and c.from_residual.result c.from_residual.ensures.1 in
    rw (p.1, p.2) (decide_refused _ _ _ _ _ _ (refused_early _ _ _ _ _ (refused_root _ _ _ _ c.in_err-problem.ensures)))

pub returns-in_err-counts : goal.returns-in_err-counts
returns-in_err-counts c =
    let p = err_from_is_err_and c.from_residual-in_err-counts.result c.from_residual-in_err-counts.ensures.1 in
    rw (p.1, p.2)
    (decide_refused _ _ _ _ _ _
    (refused_early _ _ _ _ _ (refused_limit c.in_ok-problem.ensures.0 _ _ (refused_by c.in_err-counts.ensures))))

pub returns-then-work-lt21056 : goal.returns-then-work-lt21056
returns-then-work-lt21056 c =
    decide_refused _ _ _ _ _ _
    (refused_early _ _ _ _ _ (refused_short c.in_ok-problem.ensures.0 _ (not_refused c.in_ok-counts.ensures) c.if-work-lt21056.true))

pub returns-then-witness-lt206 : goal.returns-then-witness-lt206
returns-then-witness-lt206 c =
    decide_refused _ _ _ _ _ _
    (refused_witness _ _ _ _ (taken c.in_ok-problem.ensures.0 _ (not_refused c.in_ok-counts.ensures) c.if-work-lt21056.false)
    c.if-witness-lt206.true)

pub lay_table-requires : goal.lay_table-requires
lay_table-requires c = (is_accepted c.in_ok-counts.ensures c.in_ok-problem.ensures.1, c.if-work-lt21056.false)

pub invariant_of-table : goal.invariant_of-table
invariant_of-table c =
    let ok = is_accepted c.in_ok-counts.ensures c.in_ok-problem.ensures.1 in
    record {
      well_formed =
          subst (TableIn c.lay_table.new.work) (sym c.from.ensures)
          (table_stands c.in_ok-problem.problem ok c.lay_table.ensures (let same = c.lay_table.auto.work in omega arith));
    }

pub returns-in_err-product : goal.returns-in_err-product
returns-in_err-product c =
    let a = c.in_ok-problem.problem in
    let all = c.lay_table.ensures in
    let ok = is_accepted c.in_ok-counts.ensures c.in_ok-problem.ensures.1 in
    let fits = taken c.in_ok-problem.ensures.0 _ (not_refused c.in_ok-counts.ensures) c.if-work-lt21056.false in
    let spans = rw c.from.ensures at c.measure-product.ensures in
    let p = err_from_is_err_and c.from_residual-in_err-product.result c.from_residual-in_err-product.ensures.1 in
    let told = no_product_told c.measure-product.result.product Refusal.BigProduct c.ok_or.result _ c.ok_or.ensures.value c.in_err-product.was in
    rw (p.1, p.2, told.1)
    (decide_big c.args.budget c.in_ok-problem.ensures.0 c.args.work.now c.args.witness.now
    (buffers_taken _ _ _ _ fits c.if-witness-lt206.false) (table_laid a ok all)
    (subst (ProductIs (product a)) told.0 (product_measured a ok all spans)))

pub search-requires : goal.search-requires
search-requires c =
    let a = c.in_ok-problem.problem in
    let all = c.lay_table.ensures in
    let ok = is_accepted c.in_ok-counts.ensures c.in_ok-problem.ensures.1 in
    let spans = rw c.from.ensures at c.measure-product.ensures in
    let told = product_told c.measure-product.result.product Refusal.BigProduct c.ok_or.result _ c.ok_or.ensures.value c.in_ok-product.was in
    let is = subst (ProductIs (product a)) told (product_measured a ok all spans) in (
      record {
        accepted = ok;
        work = c.args.work.now;
        laid = all;
        shape_is = c.from.ensures;
        tops_are = tops_measured a ok all spans;
        places_are = is.0;
      },
      c.if-witness-lt206.false,
    )

pub returns : goal.returns
returns c =
    let a = c.in_ok-problem.problem in
    let all = c.lay_table.ensures in
    let ok = is_accepted c.in_ok-counts.ensures c.in_ok-problem.ensures.1 in
    let fits = taken c.in_ok-problem.ensures.0 _ (not_refused c.in_ok-counts.ensures) c.if-work-lt21056.false in
    let spans = rw c.from.ensures at c.measure-product.ensures in
    let told = product_told c.measure-product.result.product Refusal.BigProduct c.ok_or.result _ c.ok_or.ensures.value c.in_ok-product.was in
    let is = subst (ProductIs (product a)) told (product_measured a ok all spans) in
    decide_searched c.args.budget c.in_ok-problem.ensures.0 c.args.work.now c.args.witness.now
    (buffers_taken _ _ _ _ fits c.if-witness-lt206.false) (table_laid a ok all) is.1 c.search.ensures
