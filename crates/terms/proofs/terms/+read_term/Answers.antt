-- By what stands at the first token, and by what follows in the list of arguments. Assumes nothing.
use Rattle.std.proofs.Common.{arith}
use Rattle.std.proofs.lemmas.Result.{err_from_is_err_and}
use Rattle.terms.proofs.ReadLaws.{reads_bare, reads_deep, reads_no_head, arguments_start, reads_wrong, reads_whole, reads_inner, arguments_more, less_left}
use Rattle.terms.proofs.terms.+read_term.Goals as goal

pub returns-in_default : goal.returns-in_default
returns-in_default t c = let a = c.args in reads_bare a.signature.text.now a.signature.shelf.now a.signature.declared a.token a.sort a.levels a.table.now c.in_default.not-Opening c.bare_term.ensures

pub returns-then-levels-eq0 : goal.returns-then-levels-eq0
returns-then-levels-eq0 t c = let a = c.args in reads_deep a.signature.text.now a.signature.shelf.now a.signature.declared a.token a.sort a.levels a.table.now c.in-Opening.is _ c.if-levels-eq0.true

pub returns-in_default-head_at : goal.returns-in_default-head_at
returns-in_default-head_at t c =
    let a = c.args in
    reads_no_head a.signature.text.now a.signature.shelf.now a.signature.declared a.token a.sort a.levels a.table.now c.in-Opening.is c.if-levels-eq0.false c.next-named.ensures _ c.in_default-head_at.ensures

pub loop-wanted-init : goal.loop-wanted-init
loop-wanted-init t c =
    let a = c.args in
    arguments_start a.signature.text.now a.signature.shelf.now a.signature.declared a.token a.sort a.levels a.table.now c.in-Opening.is c.if-levels-eq0.false c.next-named.ensures
    c.in-Some.ensures c.new-listing.ensures c.next-following.ensures

pub returns-in_err-wanted : goal.returns-in_err-wanted
returns-in_err-wanted t c =
    let p = err_from_is_err_and c.from_residual.result c.from_residual.ensures.1 in
    let a = c.args in
    rw (p.1, p.2)
    (reads_wrong a.signature.text.now a.signature.shelf.now a.signature.declared a.token a.sort a.levels a.table.now c.loop-wanted.invariant c.seen.ensures _ c.in_err-wanted.ensures)

pub read_term-requires : goal.read_term-requires
read_term-requires t c =
    let so = c.loop-wanted.invariant in (
      omega (arith, c.decreases),
      (so.lexed.inside, omega arith),
    )

pub returns-in_err-argument : goal.returns-in_err-argument
returns-in_err-argument t c =
    let p = err_from_is_err_and c.from_residual-in_err-argument.result c.from_residual-in_err-argument.ensures.1 in
    let a = c.args in
    rw (p.1, p.2)
    (reads_inner a.signature.text.now a.signature.shelf.now a.signature.declared a.token a.sort a.levels a.table.now c.loop-wanted.invariant c.seen.ensures (rw c.in-Some-2.is at c.in_ok-wanted.ensures)
    c.prepare.ensures.lays _ c.in_err-argument.ensures)

pub loop-wanted-smaller : goal.loop-wanted-smaller
loop-wanted-smaller t c =
    let a = c.args in
    less_left a.signature.text.now a.signature.shelf.now a.signature.declared a.token a.sort a.levels a.table.now c.loop-wanted.invariant c.seen.ensures (rw c.in-Some-2.is at c.in_ok-wanted.ensures)
    c.prepare.ensures.lays c.in_ok-argument.ensures c.next-following-in-Some-2.ensures

pub loop-wanted-preserved : goal.loop-wanted-preserved
loop-wanted-preserved t c =
    let a = c.args in
    arguments_more a.signature.text.now a.signature.shelf.now a.signature.declared a.token a.sort a.levels a.table.now c.loop-wanted.invariant c.seen.ensures (rw c.in-Some-2.is at c.in_ok-wanted.ensures)
    c.prepare.ensures.lays c.in_ok-argument.ensures c.add.ensures.lays c.prepare.ensures.counts c.add.ensures.counts c.next-following-in-Some-2.ensures

pub returns : goal.returns
returns t c =
    let a = c.args in
    reads_whole a.signature.text.now a.signature.shelf.now a.signature.declared a.token a.sort a.levels a.table.now c.loop-wanted.invariant c.seen.ensures (rw c.in_default-2.is at c.in_ok-wanted.ensures) c.finish.ensures
