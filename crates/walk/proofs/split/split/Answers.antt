-- One digit more is fast.
use Rattle.std.proofs.Common.{◌*◌, ◌<◌, ap, ◌∙◌, arith, get_or-take}
use Rattle.walk.proofs.Splitting.{sizes_length, splits_more}
use Rattle.walk.proofs.split.split.Goals as goal

pub loop-fast-preserved : goal.loop-fast-preserved
loop-fast-preserved c =
    let l = sizes_length c.args.all.now _ _ _ c.loop-fast.invariant in
    let h : c.loop-fast.fast < c.args.all.now.count = omega arith in
    splits_more c.args.all.now _ _ _ c.loop-fast.invariant h _
    (ap (λ n. c.loop-fast.lanes * n) (c.from.ensures ∙ get_or-take c.args.all.now.count c.args.all.now.sizes c.loop-fast.fast 0 h)) c.if-most-more.false
