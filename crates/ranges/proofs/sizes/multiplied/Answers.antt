use Rattle.std.proofs.Common.{sym, arith, ◌∙◌}
use Rattle.definitions.specs.Ranges.{sizes}
use Rattle.ranges.proofs.SizeLaws.{multiplied_next, multiplied_big, sizes_more, sizes_at, sizes_positive}
use Rattle.ranges.proofs.sizes.multiplied.Goals as goal

pub returns-in_err-all : goal.returns-in_err-all
returns-in_err-all c =
    let ts = c.args.tops.now in
    let l = c.loop-top in
    let i = l.top-index in
    rw c.from_residual.ensures (
    multiplied_big (sizes ts c.args.truths) _ i l.all l.invariant c.from.result (sizes_more ts c.args.truths i (omega arith))
    (sizes_at ts c.args.truths i (omega arith) ∙ sym c.from.ensures) (sizes_positive ts c.args.truths c.requires) c.in_err-all.ensures
    )

pub loop-top-preserved : goal.loop-top-preserved
loop-top-preserved c =
    let ts = c.args.tops.now in
    let l = c.loop-top in
    let i = l.top-index in
    multiplied_next (sizes ts c.args.truths) _ i l.all l.invariant c.from.result (sizes_more ts c.args.truths i (omega arith))
    (sizes_at ts c.args.truths i (omega arith) ∙ sym c.from.ensures) c.in_ok-all.all c.in_ok-all.ensures
