-- A node's lane stands among the cells.
use Rattle.std.proofs.Common.{◌*◌, arith}
use Rattle.walk.proofs.Solving.{place_fits}
use Rattle.walk.proofs.lanes.values_of.Goals as goal

pub bounds-cells-cell_of : goal.bounds-cells-cell_of
bounds-cells-cell_of c =
    let i = c.requires.0.inside c.loop-k.k c.loop-k-test.true in
    let u = place_fits (16 * c.args.chunks) _ _ _ c.cell_of.result c.cell_of.ensures i c.requires.3 in
    omega arith
