-- What a root reaches, as marks: 1 where a node is reached and 0 where it is not (02, E2). Assumes nothing.
use Rattle.std.specs.Prelude.{◌≡◌, ℕ, suc, ◌<◌, cond, List, length, get_or, take, eqb}
use Rattle.definitions.specs.Lists.{any}
use Rattle.definitions.specs.Problem.Node.{node}
use Rattle.definitions.specs.Problem.Ops.{operands_of}
use Rattle.definitions.specs.Problem.Check.{symbols_of, nodes_of}
use Rattle.definitions.specs.Problem.Asked.{reached}

-- the operands in use of node k
abbrev pub operands_at : List ℕ → ℕ → List ℕ
operands_at s k = operands_of (symbols_of s) (node (nodes_of s) k)

-- what a root reaches
abbrev pub reached_of : List ℕ → ℕ → List ℕ
reached_of s root = reached (symbols_of s) (take (suc root) (nodes_of s))

-- these are marked, besides what was
abbrev pub Marked : List ℕ → List ℕ → List ℕ → Type 0
Marked these marks marks' = (j : ℕ) → j < 256 → get_or marks' j 0 ≡ cond (any (eqb j) these) 1 (get_or marks j 0)

-- these are marked, and no others
abbrev pub MarksAre : List ℕ → List ℕ → Type 0
MarksAre these marks = (j : ℕ) → j < 256 → get_or marks j 0 ≡ cond (any (eqb j) these) 1 0

-- what a root reaches is marked and counted
pub record Reaching (s : List ℕ) (root : ℕ) (marks : List ℕ) (count : ℕ) : Type 0 where
  pub marked : MarksAre (reached_of s root) marks
  pub counted : count ≡ length (reached_of s root)
