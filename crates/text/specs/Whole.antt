-- What reading the commands of a text to its end says (02, E1). Assumes nothing.
use Rattle.std.specs.Prelude.{ℕ, List, Result, Ok, Err}
use Rattle.definitions.specs.declared.Refusal.{Refusal}
use Rattle.terms.specs.Terms.{RefusedBy}
use Rattle.terms.specs.declared.declared.Shelved.{Shelved}
use Rattle.text.specs.Scripted.{ReadOut}
use Rattle.text.specs.declared.scripts.Script.{Script}

abbrev pub WholeIs : List ℕ → List Shelved → Script → Result Unit Refusal → Type 0
WholeIs text shelf s (Ok _) = ReadOut text shelf s
WholeIs text shelf s (Err refusal) = RefusedBy text refusal
