use Rattle.problem.specs.Nodes.{node_read}
use Rattle.asked.proofs.Renumbering.{read_small}
use Rattle.elimination.proofs.Operands.{images_are_read}
use Rattle.elimination.proofs.laid.Laid.images_of.Goals as goal

pub image-requires : goal.image-requires
image-requires c =
    read_small c.requires.0.layout c.args.q c.requires.1 (node_read c.node-node.result) c.node-node.ensures c.in_use-used.result c.in_use-used.ensures 0

pub image-requires-2 : goal.image-requires-2
image-requires-2 c =
    read_small c.requires.0.layout c.args.q c.requires.1 (node_read c.node-node.result) c.node-node.ensures c.in_use-used.result c.in_use-used.ensures 1

pub image-requires-3 : goal.image-requires-3
image-requires-3 c =
    read_small c.requires.0.layout c.args.q c.requires.1 (node_read c.node-node.result) c.node-node.ensures c.in_use-used.result c.in_use-used.ensures 2

pub returns : goal.returns
returns c =
    images_are_read c.requires.0 c.requires.1 c.node-node.ensures c.in_use-used.ensures c.args.self.now
    c.image.ensures c.image-2.ensures c.image-3.ensures
