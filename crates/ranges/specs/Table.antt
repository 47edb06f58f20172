-- A function-free table in bytes, as the stages after elimination read it. Assumes nothing.
use Rattle.std.specs.Prelude.{ℕ, ◌*◌, ◌≤◌, List, length}
use Rattle.definitions.specs.Problem.Node.{Node, nodes_at}
use Rattle.theorems.proofs.Tables.Free.{Free}
use Rattle.elimination.specs.declared.laid.Laid.{Laid}
use Rattle.ranges.specs.declared.Shape.{Shape}

-- the nodes that stand at the start of some bytes
abbrev pub table_in : List ℕ → ℕ → List Node
table_in bytes nodes = nodes_at bytes 0 nodes

-- the counts of a table that is laid
abbrev pub shape_of : Laid → Shape
shape_of l = record { nodes = l.nodes; variables = l.functions; truths = l.predicates }

-- they are a well-formed table of so many variables and truth variables
pub record TableIn (bytes : List ℕ) (s : Shape) : Type 0 where
  pub free : Free s.variables s.truths (table_in bytes s.nodes)
  pub whole : 8 * s.nodes ≤ length bytes
  pub few_nodes : s.nodes ≤ 2632
  pub few_variables : s.variables ≤ 24
  pub few_truths : s.truths ≤ 16
