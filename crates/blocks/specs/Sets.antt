-- For each node the set of digits that it depends on (02, E7): its own for a variable and a truth variable, else the union of its
-- operands'. Assumes nothing.
use Rattle.std.specs.Prelude.{ℕ, ◌+◌, Bool, false, ◌||◌, List, [], get_or, eqb}
use Rattle.definitions.specs.Lists.{any}
use Rattle.definitions.specs.Problem.Node.{Node, grown}
use Rattle.definitions.specs.Problem.Ops.{Op, apply, choose, equal, negate, both, either, test, verum, falsum, select, unknown, op_of, operands_of}

-- the sets, node by node
abbrev pub set_at : List (ℕ → Bool) → ℕ → ℕ → Bool
set_at ss k v = get_or ss k (λ _. false) v

-- digit v is the node's own: the digits of N variables come first, and then those of the truth variables
abbrev pub owns : ℕ → Op → Node → ℕ → Bool
owns N apply n v = eqb v n.sym
owns N choose n v = false
owns N equal n v = false
owns N negate n v = false
owns N both n v = false
owns N either n v = false
owns N test n v = eqb v (N + n.sym)
owns N verum n v = false
owns N falsum n v = false
owns N select n v = false
owns N unknown n v = false

abbrev pub set_of : ℕ → List (ℕ → Bool) → Node → ℕ → Bool
set_of N ss n v = owns N (op_of n.op) n v || any (λ k. set_at ss k v) (operands_of [] n)

abbrev pub sets : ℕ → List Node → List (ℕ → Bool)
sets N t = grown (set_of N) [] t

-- digit v is in node k's set
abbrev pub depends : ℕ → List Node → ℕ → ℕ → Bool
depends N t k v = set_at (sets N t) k v
