-- How far the commands of a text are read (02, E1). Assumes nothing.
use Rattle.std.specs.Prelude.{ℕ, ◌≤◌, List, [], ◌∷◌, length, Result, Ok, Err}
use Rattle.definitions.specs.Text.Tokens.{opening, closing, nought}
use Rattle.definitions.specs.Text.Reader.{each, commanding}
use Rattle.terms.specs.Reading.{Reached, WrongAt}
use Rattle.terms.specs.Symbols.{at_command}
use Rattle.terms.specs.declared.exact.WrongToken.{WrongToken}
use Rattle.terms.specs.declared.prologue.Named.{Named}

-- the sort's name is read, or it is refused
abbrev pub SortNamed : List ℕ → Result Named WrongToken → Type 0
SortNamed text (Ok n) =
    Reached text (record { sort_name = n.name.now; commands = []; stage = each (nought ∷ closing ∷ opening ∷ []) commanding }) n.at
    × (n.at ≤ length text)
SortNamed text (Err w) = WrongAt text w.0

-- the first command may come, or the text is refused
abbrev pub Begun : List ℕ → Result Named WrongToken → Type 0
Begun text (Ok n) = Reached text (at_command n.name.now []) n.at × (n.at ≤ length text)
Begun text (Err w) = WrongAt text w.0
