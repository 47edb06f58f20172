-- Nodes appended to a table (02, E2: "Appending nodes, with the symbols unchanged and the longer table still well formed"). Assumes
-- nothing.
use Rattle.std.specs.Prelude.{◌≡◌, ℕ, List, ◌++◌}
use Rattle.std.proofs.Math.Option.{none}
use Rattle.definitions.specs.Problem.Node.{Node}
use Rattle.definitions.specs.Problem.Check.{symbols_of, nodes_of, layout_refusal}

-- u is s with more nodes after its own, and both are well formed: none of 1 to 7 refuses them
pub record Appends (s u : List ℕ) : Type 0 where
  pub shorter : layout_refusal s ≡ none
  pub longer : layout_refusal u ≡ none
  pub symbols : symbols_of s ≡ symbols_of u
  pub more : List Node
  pub nodes : nodes_of u ≡ nodes_of s ++ more
