-- What reading the end of a text says (02, E1: "check-sat last"). Assumes nothing.
use Rattle.std.specs.Prelude.{◌≡◌, ℕ, List, Result, Ok, Err}
use Rattle.definitions.specs.Operations.Answers.{given}
use Rattle.definitions.specs.Text.Grammar.{Command}
use Rattle.definitions.specs.Text.Reader.{script_read}
use Rattle.terms.specs.Reading.{Reached, WrongAt}
use Rattle.terms.specs.declared.exact.WrongToken.{WrongToken}
use Rattle.text.specs.Commands.{in_checking}

-- the text ends, or something stands there that will not do
abbrev pub EndedIs : List ℕ → List ℕ → List Command → Result Unit WrongToken → Type 0
EndedIs text sn cs (Ok _) = script_read text ≡ given (record { sort_name = sn; commands = cs })
EndedIs text sn cs (Err w) = WrongAt text w.0

abbrev pub ReadsEnd : List ℕ → ℕ → Result Unit WrongToken → Type 0
ReadsEnd text at r = (sn : List ℕ) (cs : List Command) → Reached text (in_checking sn cs) at → EndedIs text sn cs r
