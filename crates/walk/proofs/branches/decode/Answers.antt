-- One branch more is stored, at numbers of two bytes.
use Rattle.std.proofs.Common.{◌*◌, ◌∙◌, ap, arith}
use Rattle.walk.specs.Cells.{scaled}
use Rattle.walk.proofs.Decoding.{decoded_more, offsets}
use Rattle.walk.proofs.branches.decode.Goals as goal

pub laid_out-requires : goal.laid_out-requires
laid_out-requires c =
    let p = c.requires in
    let s = offsets c.args.chunks c.args.positions.now c.args.table.well_formed p.0 p.1 p.2 c.loop-k.k (omega arith) c.branch_at-branch.result c.branch_at-branch.ensures in
    (omega arith, omega arith, omega arith, omega arith)

pub loop-k-preserved : goal.loop-k-preserved
loop-k-preserved c =
    let p = c.requires in
    let e = c.laid_out.ensures ∙ ap (scaled (16 * c.args.chunks)) c.branch_at-branch.ensures in
    rw c.from.ensures (decoded_more _ _ _ _ p.0 _ _ _ e c.loop-k-test.true (omega arith) c.loop-k.invariant)
