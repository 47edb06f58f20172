-- One chunk more is taken.
use Rattle.std.proofs.Common.{◌≡◌, ◌*◌, ◌+◌, length, arith, sym, subst, length-take, length-drop}
use Rattle.walk.specs.Cells.{Picked}
use Rattle.walk.proofs.Putting.{put_part}
use Rattle.walk.proofs.Solving.{chunk_more}
use Rattle.walk.proofs.lanes.solve.Goals as goal

pub loop-h-preserved : goal.loop-h-preserved
loop-h-preserved c =
    let p = c.requires in
    let e = c.copy_from_slice.ensures in
    let many : length c.copy_from_slice.new.self ≡ 16 = omega (arith, simp (length-take, length-drop) at e.len) in
    chunk_more c.args.at c.loop-h.h c.args.branch.now _ c.loop-h.cells c.copy_from_slice.new.self _ c.loop-h.invariant _ _ _ _ c.from-left.ensures
    c.from-right.ensures c.from-same.ensures c.from-apart.ensures
    (subst (Picked c.loop-h.cells _ _ _ _) (sym e.after) c.pick-lanes.ensures)
    (put_part c.loop-h.cells c.copy_from_slice.new.self (c.args.at + 16 * c.loop-h.h) _ 16 (omega arith) many (omega arith)) (omega arith) (omega arith) (omega arith)
    (omega arith)
