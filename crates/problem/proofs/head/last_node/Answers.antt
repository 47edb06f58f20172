use Rattle.std.proofs.Common.{arith}
use Rattle.problem.proofs.NodeLaws.{length_nodes_of}
use Rattle.problem.proofs.head.last_node.Goals as goal

pub returns : goal.returns
returns c long = omega (arith, length_nodes_of c.args.s.now, c.two_at.ensures.0, c.saturating_sub.ensures)
