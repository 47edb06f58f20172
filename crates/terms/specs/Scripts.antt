-- The asserts of a text, laid as they are read, and what joins them (02, E1). That this lays what the definition lays, and that a text
-- of which a part is too much is refused by 4 whatever follows, are laws (proofs/ScriptLaws). Assumes nothing.
use Rattle.std.specs.Prelude.{◌≡◌, ℕ, true, List, [], ◌∷◌, ◌++◌}
use Rattle.std.proofs.Math.Option.{some}
use Rattle.definitions.specs.Problem.Check.{refuse}
use Rattle.definitions.specs.Problem.Node.{Node, plain}
use Rattle.definitions.specs.Text.Grammar.{Command, Script, asserts_in, script_right}
use Rattle.definitions.specs.Text.Nodes.{Tree, Laid, laid, ask, lay, lay_all, assert_trees, limits_of_script}

-- the numbers of trees laid one after the other
abbrev pub roots_of : List Tree → List Node → List ℕ
roots_of [] t = []
roots_of (x ∷ xs) t = (lay x t).number ∷ roots_of xs (lay x t).table

-- what joins nodes that stand; "No assert counts as true"
abbrev pub joined_on : List ℕ → Laid → Laid
joined_on [] l = l
joined_on (r ∷ rs) l = joined_on rs (ask (plain 4 l.number r 0) l.table)

abbrev pub joined_roots : List ℕ → List Node → Laid
joined_roots [] t = ask (plain 7 0 0 0) t
joined_roots (r ∷ rs) t = joined_on rs (laid r t)

-- the trees of the asserts of some commands, the table of their nodes, and their numbers
abbrev pub trees_in : List Command → List Tree
trees_in cs = assert_trees (asserts_in cs)

abbrev pub table_after : List Command → List Node
table_after cs = lay_all (trees_in cs) []

abbrev pub roots_after : List Command → List ℕ
roots_after cs = roots_of (trees_in cs) []

-- whatever follows these commands, the script is refused by 4
abbrev pub TooMuch : List ℕ → List Command → Type 0
TooMuch sn cs = (ds : List Command) → let s : Script = record { sort_name = sn; commands = cs ++ ds } in script_right s ≡ true → limits_of_script s ≡ some (refuse 4 0)
