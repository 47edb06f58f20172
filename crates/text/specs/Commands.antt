-- Which command comes, and what that says of the text read so far (02, E1: "declare-fun .. and assert in any mix, check-sat last").
-- Assumes nothing.
use Rattle.std.specs.Prelude.{ℕ, ◌≤◌, ◌<◌, true, false, List, [], length, Option, None, Some, Result, Ok, Err}
use Rattle.definitions.specs.Text.Ascii.{ascii, same_bytes}
use Rattle.definitions.specs.Text.Tokens.{closing}
use Rattle.definitions.specs.Text.Grammar.{end, one_formula}
use Rattle.definitions.specs.Text.Grammar as grammar
use Rattle.definitions.specs.Text.Reader.{State, exact, finished}
use Rattle.terms.specs.Reading.{Reached, WrongAt}
use Rattle.terms.specs.Symbols.{at_command}
use Rattle.terms.specs.Functions.{in_declaring}
use Rattle.terms.specs.Terms.{in_list}
use Rattle.terms.specs.declared.exact.WrongToken.{WrongToken}
use Rattle.text.specs.declared.commands.Command.{Command}
use Rattle.text.specs.declared.commands.Begun.{Begun}

-- the command of a word
abbrev pub command_of : List ℕ → Option Command
command_of name =
    elim (same_bytes name (ascii "declare-fun")) [
      | true ↦ Some Command.Declare
      | false ↦
          elim (same_bytes name (ascii "assert")) [
            | true ↦ Some Command.Assert
            | false ↦ elim (same_bytes name (ascii "check-sat")) [ true ↦ Some Command.Check | false ↦ None ]
          ]
    ]

-- after check-sat
abbrev pub in_checking : List ℕ → List grammar.Command → State
in_checking sn cs = record { sort_name = sn; commands = cs; stage = exact closing finished }

-- after a command's word
abbrev pub behind : List ℕ → List grammar.Command → Command → State
behind sn cs Command.Declare = in_declaring sn cs
behind sn cs Command.Assert = in_list sn cs one_formula end []
behind sn cs Command.Check = in_checking sn cs

abbrev pub CommandIs : List ℕ → List ℕ → List grammar.Command → Result Begun WrongToken → Type 0
CommandIs text sn cs (Ok b) = Reached text (behind sn cs b.command) b.at
CommandIs text sn cs (Err w) = WrongAt text w.0

-- whatever is read, the offset behind the word lies further on, within the text
abbrev pub CommandSound : List ℕ → ℕ → Result Begun WrongToken → Type 0
CommandSound text from (Ok b) = (from < b.at) × (b.at ≤ length text)
CommandSound text from (Err w) = Unit {0}

pub record ReadsCommand (text : List ℕ) (from : ℕ) (r : Result Begun WrongToken) : Type 0 where
  pub sound : CommandSound text from r
  pub says : (sn : List ℕ) (cs : List grammar.Command) → Reached text (at_command sn cs) from → CommandIs text sn cs r
