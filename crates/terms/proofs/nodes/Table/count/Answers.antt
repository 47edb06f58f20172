-- As many nodes stand as are counted. Assumes nothing.
use Rattle.terms.proofs.NodeLaws.{counted_by}
use Rattle.terms.proofs.nodes.Table.count.Goals as goal

pub returns-clause-counts : goal.returns-clause-counts
returns-clause-counts c = counted_by c.self.inside.nodes _ c.self.view_is c.self.invariant.0 c.self.invariant.1
