use Rattle.ranges.specs.Sets.{LeavesAre}
use Rattle.ranges.specs.Table.{table_in}
use Rattle.ranges.proofs.leaves.leaf_sets.Given as goal

abbrev pub invariant-loop-k : goal.invariant-loop-k
invariant-loop-k l = LeavesAre (table_in l.table.bytes.now l.table.shape.nodes) l.k l.sets
