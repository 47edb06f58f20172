-- One node after the other is put, as many as are counted. Assumes nothing.
use Rattle.terms.proofs.NodeLaws.{put_one, all_put}
use Rattle.terms.proofs.nodes.Table.put.Goals as goal

pub loop-k-preserved : goal.loop-k-preserved
loop-k-preserved c = put_one _ _ _ _ c.loop-k-test.true c.loop-k.invariant c.put_node.ensures

pub returns : goal.returns
returns c = all_put c.self.inside.nodes _ _ c.self.view_is c.unwrap_or-count.ensures c.loop-k-test.false c.loop-k.invariant
