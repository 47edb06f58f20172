-- The bytes of the problem asked, piece by piece as they are laid (02, E2). Assumes nothing.
use Rattle.std.specs.Prelude.{ℕ, suc, List, map, get_or, take}
use Rattle.definitions.specs.Problem.Node.{Node, node}
use Rattle.definitions.specs.Problem.Check.{symbols_of, nodes_of}
use Rattle.definitions.specs.Problem.Asked.{trimmed}
use Rattle.problem.specs.Nodes.{front_bytes}
use Rattle.asked.specs.Reached.{operands_at}

-- the nodes of the problem asked
abbrev pub trim_of : List ℕ → ℕ → List Node
trim_of s root = trimmed (symbols_of s) (take (suc root) (nodes_of s))

-- all before the nodes, where these are so many
abbrev pub front : List ℕ → ℕ → List ℕ
front s count = front_bytes (symbols_of s) count

-- node k with these numbers for its operands in use
abbrev pub renamed : List ℕ → List ℕ → ℕ → Node
renamed numbers s k =
    let ks = map (λ o. get_or numbers o 0) (operands_at s k) in
    let n = node (nodes_of s) k in
    record { op = n.op; sym = n.sym; a = get_or ks 0 0; b = get_or ks 1 0; c = get_or ks 2 0 }
