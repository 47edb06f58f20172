-- The fields of a table by its nodes. Assumes nothing.
use Rattle.std.specs.Prelude.{◌≡◌, refl, ℕ, List, [], ◌∷◌, map, length, take, Option, None, Some}
use Rattle.std.specs.Option.{option_map, unwrap_or}
use Rattle.std.proofs.Common.{ap, ◌∙◌}
use Rattle.std.proofs.lemmas.List.{length-map}
use Rattle.definitions.specs.Problem.Node as table
use Rattle.problem.specs.Nodes.{node_read}
use Rattle.problem.specs.declared.put.Node.{Node}
use Rattle.terms.specs.Laying.{table_of, standing, FewCounted}
use Rattle.terms.specs.Padded.{padded, Filled, length-used}

abbrev pub node_back : table.Node → Node
node_back n = record { op = n.op; symbol = n.sym; a = n.a; b = n.b; c = n.c }

abbrev pub nought : Node
nought = node_back table.no_node

-- zeros stand past the nodes; where there is no room for all of these, there is nothing else
abbrev pub ZerosPast : List Node → Option ℕ → Type 0
ZerosPast nodes count = Filled nought 256 nodes (unwrap_or count 0)

abbrev pub nodes_back : Option (List table.Node) → List Node
nodes_back t = padded nought 256 (map node_back (standing t))

read_back : (ns : List Node) → map node_back (map node_read ns) ≡ ns
read_back [] = refl
read_back (n ∷ ns) = ap (λ (ms : List Node). n ∷ ms) (read_back ns)

pub nodes_are : (nodes : List Node) (count : Option ℕ) → ZerosPast nodes count → nodes_back (table_of nodes count) ≡ nodes
nodes_are nodes None e = e
nodes_are nodes (Some n) e = ap (padded nought 256) (read_back (take n nodes)) ∙ e

pub count_is : (nodes : List Node) (count : Option ℕ) → FewCounted count → ZerosPast nodes count → option_map length (table_of nodes count) ≡ count
count_is nodes None h e = refl
count_is nodes (Some n) h e = ap Some (length-map (take n nodes) node_read ∙ length-used nought 256 nodes n h e)
