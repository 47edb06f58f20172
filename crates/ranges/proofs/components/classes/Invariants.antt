use Rattle.std.proofs.Common.{◌≡◌, length}
use Rattle.ranges.specs.Table.{table_in}
use Rattle.ranges.proofs.LinkLaws.{ClassesBefore}
use Rattle.ranges.proofs.components.classes.Given as goal

-- the classes that the links of the nodes before k join
abbrev pub invariant-loop-k : goal.invariant-loop-k
invariant-loop-k l = ClassesBefore (table_in l.table.bytes.now l.table.shape.nodes) l.table.shape.variables l.k l.sets × (length l.sets ≡ 24)
