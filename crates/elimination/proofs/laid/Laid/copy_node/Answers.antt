use Rattle.std.proofs.Common.{refl}
use Rattle.problem.specs.Nodes.{node_read}
use Rattle.elimination.proofs.Copying.{copy_noted, copy_lays}
use Rattle.elimination.proofs.laid.Laid.copy_node.Goals as goal

pub returns-clause-noted : goal.returns-clause-noted
returns-clause-noted c = copy_noted c.requires.0 c.requires.1

pub returns-clause-lays : goal.returns-clause-lays
returns-clause-lays c =
    copy_lays c.requires.0 c.requires.1 (node_read c.node.result) _ c.images_of.result _ c.node.ensures c.images_of.ensures refl c.lay.ensures
