-- The prologue is read, and the problem's buffer has room (02, E1). Assumes nothing.
use Rattle.std.specs.Prelude.{ℕ, ◌≤◌, List, [], length}
use Rattle.terms.specs.Reading.{Reached}
use Rattle.terms.specs.Symbols.{at_command}
use Rattle.terms.specs.declared.prologue.Named.{Named}

pub record Readable (text problem : List ℕ) (n : Named) : Type 0 where
  pub room : 2088 ≤ length problem
  pub reached : Reached text (at_command n.name.now []) n.at
  pub inside : n.at ≤ length text
