use Rattle.std.proofs.Common.{◌≡◌, ◌+◌, ◌≤◌, [], length}
use Rattle.definitions.specs.Problem.Check.{nodes_of, distinct}
use Rattle.problem.specs.Ops.{byte_of}
use Rattle.problem.proofs.Scans.{distinct_from}
use Rattle.problem.proofs.head.Problem.distinct.Given as goal

abbrev pub invariant-loop-k : goal.invariant-loop-k
invariant-loop-k l =
    (length (distinct (byte_of l.op) [] (nodes_of l.self)) ≡ l.count + distinct_from (byte_of l.op) (nodes_of l.self) l.k)
    × (l.count ≤ l.k)
