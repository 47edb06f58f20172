-- The node that the code has as numbers, and what stands before a problem's nodes. Assumes nothing.
use Rattle.std.specs.Prelude.{ℕ, List, [], ◌∷◌, ◌++◌, length}
use Rattle.definitions.specs.Bytes.{EQP, two}
use Rattle.definitions.specs.Problem.Node as table
use Rattle.problem.specs.declared.put.Node.{Node}

abbrev pub node_read : Node → table.Node
node_read n = record { op = n.op; sym = n.symbol; a = n.a; b = n.b; c = n.c }

-- the mark, version 1, the two counts, the symbol bytes: problem_bytes up to its nodes, where these are so many
abbrev pub front_bytes : List ℕ → ℕ → List ℕ
front_bytes symbols count = EQP ++ two 1 ++ (length symbols ∷ []) ++ two count ++ symbols
