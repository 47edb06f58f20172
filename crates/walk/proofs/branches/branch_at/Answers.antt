-- The operands of a choice are earlier nodes, whose positions are there to read.
use Rattle.walk.proofs.Branching.{choice_there, operand_there}
use Rattle.walk.proofs.branches.branch_at.Goals as goal

pub cell_at-requires : goal.cell_at-requires
cell_at-requires c =
    let t = c.args.table.well_formed in
    let p = c.requires in
    operand_there t p.1 p.2 c.args.k p.0 _ (choice_there t p.1 p.2 c.args.k p.0 _ c.node-node.ensures _ c.from.ensures c.in-Choose.is).0

pub cell_at-requires-in-Choose : goal.cell_at-requires-in-Choose
cell_at-requires-in-Choose c =
    let t = c.args.table.well_formed in
    let p = c.requires in
    operand_there t p.1 p.2 c.args.k p.0 _ (choice_there t p.1 p.2 c.args.k p.0 _ c.node-node.ensures _ c.from.ensures c.in-Choose.is).1

pub cell_at-requires-in-Choose-2 : goal.cell_at-requires-in-Choose-2
cell_at-requires-in-Choose-2 c =
    let t = c.args.table.well_formed in
    let p = c.requires in
    operand_there t p.1 p.2 c.args.k p.0 _ (choice_there t p.1 p.2 c.args.k p.0 _ c.node-node.ensures _ c.from.ensures c.in-Choose.is).2
