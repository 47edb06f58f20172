-- What reading a function's declaration says (02, E1: declare-fun). Assumes nothing.
use Rattle.std.specs.Prelude.{ℕ, ◌≤◌, ◌<◌, List, length, Result}
use Rattle.definitions.specs.declared.Refusal.{Refusal}
use Rattle.terms.specs.Symbols.{DeclaredSound}
use Rattle.terms.specs.Functions.{in_declaring}
use Rattle.terms.specs.declared.declared.Shelved.{Shelved}
use Rattle.text.specs.Scripted.{Inside, WentOn}
use Rattle.text.specs.declared.scripts.Script.{Script}

-- what is asked of every call
pub record DeclareAsked (text : List ℕ) (at : ℕ) (shelf : List Shelved) (s : Script) : Type 0 where
  pub declared_sound : DeclaredSound text shelf s.declared
  pub inside : at ≤ length text
  pub below : s.declared.count < at

-- behind declare-fun, where the text is read so far, it is read on or refused
abbrev pub Declares : List ℕ → ℕ → (shelf : List Shelved) → Script → Result Unit Refusal → (shelf' : List Shelved) → Script → Type 0
Declares text at shelf s r shelf' s' = Inside in_declaring text shelf s at → WentOn text s.declared.command shelf' s' r
