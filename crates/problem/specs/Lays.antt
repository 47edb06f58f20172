-- What it is to lay nodes into a buffer, straight after those already laid. Assumes nothing.
use Rattle.std.specs.Prelude.{◌≡◌, ℕ, List, length}
use Rattle.definitions.specs.Problem.Node.{Node, table_bytes}
use Rattle.definitions.specs.Operations.Buffers.{over}

-- whatever table of so many nodes stands at the start of the buffer, the table that f makes of it stands there afterwards, and
-- the rest is as it was; and of a table of so many nodes f makes one of so many
pub record Lays (before after : List ℕ) (count count' : ℕ) (f : List Node → List Node) : Type 0 where
  pub lays : (t : List Node) (w : List ℕ) → length t ≡ count → before ≡ over (table_bytes t) w → after ≡ over (table_bytes (f t)) w
  pub counts : (t : List Node) → length t ≡ count → length (f t) ≡ count'
