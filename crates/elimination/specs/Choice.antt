-- The pieces of a choice's condition. Assumes nothing.
use Rattle.std.specs.Prelude.{ℕ, List, length}
use Rattle.definitions.specs.Lists.{snoc}
use Rattle.definitions.specs.Problem.Node.{Node, plain}
use Rattle.definitions.specs.Elimination.{last}

-- an argument more in a condition: its equation, and then the "and" of what stood before with it
abbrev pub one_more : ℕ → ℕ → List Node → List Node
one_more x y t = snoc (snoc t (plain 2 x y 0)) (plain 4 (last t) (length t) 0)
