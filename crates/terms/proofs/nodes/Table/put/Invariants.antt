-- The nodes that are put are the first so many. Assumes nothing.
use Rattle.std.proofs.Common.{◌≡◌, map, take}
use Rattle.definitions.specs.Problem.Node.{table_bytes}
use Rattle.definitions.specs.Operations.Buffers.{over}
use Rattle.problem.specs.Nodes.{node_read}
use Rattle.terms.proofs.nodes.Table.put.Given as goal

abbrev pub invariant-loop-k : goal.invariant-loop-k
invariant-loop-k l = l.tail ≡ over (table_bytes (map node_read (take l.k l.node-items))) l.fn.tail
