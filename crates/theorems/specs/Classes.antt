-- Variables in given classes (01, 'Ranges and order'; source document 002, section 3.1, taken per class). Assumes nothing.
use Rattle.std.specs.Prelude.{◌≡◌, ℕ, ◌<◌, Bool, true, List, map}
use Rattle.definitions.specs.Lists.{below}
use Rattle.definitions.specs.Problem.Node.{Node}
use Rattle.definitions.specs.Ranges.{linked, rank}

-- the equations of a table of N variables link no pair outside the classes
abbrev pub LinksInside : List Node → ℕ → (ℕ → ℕ → Bool) → Type 0
LinksInside t N J = (u v : ℕ) → u < N → v < N → linked t u v ≡ true → J u v ≡ true

-- the top of a variable is its rank in its class; the tops of N variables
abbrev pub top_in : (ℕ → ℕ → Bool) → ℕ → ℕ
top_in J v = rank J v

abbrev pub tops_in : (ℕ → ℕ → Bool) → ℕ → List ℕ
tops_in J N = map (top_in J) (below N)
