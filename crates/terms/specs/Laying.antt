-- The table of nodes under construction; and what it is to lay nodes there, or to find that a problem may not have so many (02, E1:
-- "then 01's 4"). Assumes nothing.
use Rattle.std.specs.Prelude.{◌≡◌, ℕ, ◌≤◌, ◌<◌, Bool, true, false, List, [], map, length, take, Option, None, Some}
use Rattle.definitions.specs.Lists.{snoc}
use Rattle.definitions.specs.Problem.Node as table
use Rattle.definitions.specs.Text.Nodes.{Laid, laid}
use Rattle.problem.specs.Nodes.{node_read}
use Rattle.problem.specs.declared.put.Node.{Node}

-- the nodes that a buffer holds, by their count; none where there is no room for all
abbrev pub table_of : List Node → Option ℕ → Option (List table.Node)
table_of nodes None = None
table_of nodes (Some n) = Some (map node_read (take n nodes))

abbrev pub FewCounted : Option ℕ → Type 0
FewCounted None = Unit {0}
FewCounted (Some n) = n ≤ 256

-- there is no room for the nodes of a table; and those that stand there
abbrev pub over : Option (List table.Node) → Bool
over None = true
over (Some ns) = false

abbrev pub standing : Option (List table.Node) → List table.Node
standing None = []
standing (Some ns) = ns

-- a node behind the others
abbrev pub appended : table.Node → List table.Node → Laid
appended n t = laid (length t) (snoc t n)

-- what is done to the table: f, where the table has room for it; else it is told that it has none
pub record Performs (f : List table.Node → Laid) (t : Option (List table.Node)) (number : ℕ) (t' : Option (List table.Node)) : Type 0 where
  pub stays : over t ≡ true → over t' ≡ true
  pub done : over t ≡ false → over t' ≡ false → f (standing t) ≡ laid number (standing t')
  pub more : over t ≡ false → over t' ≡ true → 256 < length (f (standing t)).table
