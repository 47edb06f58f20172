use Rattle.std.proofs.Common.{◌≡◌, take}
use Rattle.definitions.specs.Problem.Node.{node}
use Rattle.definitions.specs.Problem.Check.{nodes_of}
use Rattle.problem.specs.Stages.{first_same}
use Rattle.problem.proofs.Scans.{same_from}
use Rattle.problem.proofs.head.Problem.earliest.Given as goal

-- the first same node before node k is the first from node j on
abbrev pub invariant-loop-j : goal.invariant-loop-j
invariant-loop-j l =
    same_from (nodes_of l.self) l.k l.j ≡ first_same (node (nodes_of l.self) l.k) (take l.k (nodes_of l.self))
