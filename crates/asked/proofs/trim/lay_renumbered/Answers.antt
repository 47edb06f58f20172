use Rattle.std.proofs.Common.{◌+◌, subst}
use Rattle.definitions.specs.Lists.{snoc}
use Rattle.problem.specs.Lays.{Lays}
use Rattle.problem.specs.Nodes.{node_read}
use Rattle.asked.proofs.Renumbering.{read_small, node_renamed}
use Rattle.asked.proofs.trim.lay_renumbered.Goals as goal

pub renumbered-requires : goal.renumbered-requires
renumbered-requires c =
    read_small c.requires.0 c.args.k c.requires.1 (node_read c.node-node.result) c.node-node.ensures c.in_use-used.result c.in_use-used.ensures 0

pub renumbered-requires-2 : goal.renumbered-requires-2
renumbered-requires-2 c =
    read_small c.requires.0 c.args.k c.requires.1 (node_read c.node-node.result) c.node-node.ensures c.in_use-used.result c.in_use-used.ensures 1

pub renumbered-requires-3 : goal.renumbered-requires-3
renumbered-requires-3 c =
    read_small c.requires.0 c.args.k c.requires.1 (node_read c.node-node.result) c.node-node.ensures c.in_use-used.result c.in_use-used.ensures 2

pub returns : goal.returns
returns c =
    subst (λ n. Lays c.args.nodes.now c.lay.new.work c.args.count (c.args.count + 1) (λ t. snoc t n))
    (node_renamed c.requires.0 c.args.k c.requires.1 (node_read c.node-node.result) c.node-node.ensures c.in_use-used.result c.in_use-used.ensures c.args.numbers.now _ _ _
    c.renumbered.ensures c.renumbered-2.ensures c.renumbered-3.ensures)
    c.lay.ensures
