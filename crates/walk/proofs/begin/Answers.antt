-- The nodes are in order, and the cells have room.
use Rattle.std.proofs.Common.{◌*◌, ◌∙◌, arith}
use Rattle.walk.proofs.Arranging.{in_order}
use Rattle.walk.proofs.Calling.{one_fits, begins_with}
use Rattle.walk.proofs.Slow.{slow_part}
use Rattle.walk.proofs.begin.Goals as goal

pub decode-requires : goal.decode-requires
decode-requires c =
    let p = c.requires in
    let a = c.arrange-starts in
    let long = a.auto.positions in
    let room = c.args.plan.now.planned.parts_are.room in
    (in_order _ _ c.args.plan.now.table.well_formed _ _ _ _ a.ensures (omega arith), omega arith, omega arith, omega arith)

pub lay_lanes-requires : goal.lay_lanes-requires
lay_lanes-requires c =
    let p = c.args.plan.now.planned in
    (p.parts_are.parted, one_fits (16 * c.args.plan.now.parts.chunks) c.args.plan.now.table.shape.nodes c.args.plan.now.root _ p.root_in.below c.requires.2)

pub cell_of-root-requires : goal.cell_of-root-requires
cell_of-root-requires c =
    let p = c.requires in
    let a = c.arrange-starts in
    let long = a.auto.positions in
    let few = c.args.plan.now.table.well_formed.few_nodes in
    let o = in_order _ _ c.args.plan.now.table.well_formed _ _ _ _ a.ensures (omega arith) in
    let low = c.args.plan.now.planned.root_in.below in
    let here = o.inside c.args.plan.now.root (omega arith) in
    (omega arith, c.args.plan.now.planned.parts_are.parted.chunks_few)

pub returns : goal.returns
returns c =
    let p = c.requires in
    let slow = c.slow-slow.ensures in
    let few = c.slow-slow.result.turning.few in
    let long = c.slow-slow.result.turning.digits_long in
    begins_with _ _ _ _ _ _
    (record {
      arranged = c.arrange-starts.ensures;
      decoded = c.decode.ensures;
      positions_long = c.arrange-starts.auto.positions ∙ p.0;
      branches_long = c.decode.auto.branches ∙ p.1;
    })
    slow c.lay_lanes.ensures (slow_part _ _ _ _ _ _ _ (omega arith) c.lay_slow.ensures) c.cell_of-root.ensures
