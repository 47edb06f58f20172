-- Where the nodes of a script come from (02, E1: "The nodes are those of the terms .., then what joins the asserts and the one negation,
-- last .. and there are no others"): when a node is that of a tree, and which trees there are. Assumes nothing.
use Rattle.std.specs.Prelude.{◌≡◌, ℕ, ◌<◌, ◌≤◌, List, [], length, take}
use Rattle.definitions.specs.Problem.Node.{Node, node}
use Rattle.definitions.specs.Text.Grammar.{Script, asserts_in}
use Rattle.definitions.specs.Text.Nodes.{Tree, absent, tree, operand, not_tree, joined, assert_trees}

-- node k of a table is that of a tree: it has the tree's op and symbol, and its operands' numbers are those of nodes of the tree's
-- operands; the number of an absent operand is 0
abbrev pub NodeOf : List Node → Tree → ℕ → Type 0
NodeOf t absent k = k ≡ 0
NodeOf t (tree op symbol a b c) k =
    (k < length t) × ((node t k).op ≡ op) × ((node t k).sym ≡ symbol)
    × NodeOf t a (node t k).a × NodeOf t b (node t k).b × NodeOf t c (node t k).c

-- a tree is part of another: it is that one, or part of an operand
pub data PartOf : Tree → Tree → Type 0 where
  itself : {op symbol : ℕ} {a b c : Tree} → PartOf (tree op symbol a b c) (tree op symbol a b c)
  in_first : {x a b c : Tree} {op symbol : ℕ} → PartOf x a → PartOf x (tree op symbol a b c)
  in_second : {x a b c : Tree} {op symbol : ℕ} → PartOf x b → PartOf x (tree op symbol a b c)
  in_third : {x a b c : Tree} {op symbol : ℕ} → PartOf x c → PartOf x (tree op symbol a b c)

-- the trees of a script whose asserts have these trees: the parts of each assert's tree, in pairs; what joins the first so many
-- asserts, two or more; "No assert counts as true"; the negation
pub data Origin (ts : List Tree) : Tree → Type 0 where
  of_term : {x : Tree} (i : ℕ) → i < length ts → PartOf x (operand ts i) → Origin ts x
  of_join : (n : ℕ) → 2 ≤ n → n ≤ length ts → Origin ts (joined (take n ts))
  of_none : ts ≡ [] → Origin ts (joined [])
  of_negation : Origin ts (not_tree (joined ts))

-- the trees of a script's asserts
abbrev pub trees_of_script : Script → List Tree
trees_of_script s = assert_trees (asserts_in s.commands)

-- "equal nodes stand once"
abbrev pub NoTwins : List Node → Type 0
NoTwins t = (i j : ℕ) → i < length t → j < length t → node t i ≡ node t j → i ≡ j
