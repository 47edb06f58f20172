-- What reading an assert and keeping it does (02, E1). Assumes nothing.
use Rattle.std.specs.Prelude.{◌≡◌, ℕ, ◌≤◌, ◌<◌, List, [], length, None, Result}
use Rattle.definitions.specs.Lists.{snoc}
use Rattle.definitions.specs.Text.Grammar.{Command, end, one_formula}
use Rattle.definitions.specs.Text.Reader.{State}
use Rattle.definitions.specs.declared.Refusal.{Refusal}
use Rattle.terms.specs.Symbols.{DeclaredSound}
use Rattle.terms.specs.Terms.{in_list}
use Rattle.terms.specs.declared.declared.Declared.{Declared}
use Rattle.terms.specs.declared.declared.Shelved.{Shelved}
use Rattle.text.specs.Scripted.{Inside, WentOn}
use Rattle.text.specs.declared.scripts.Script.{Script}

-- the same symbols, with the next command at an offset
abbrev pub moved_to : Declared → ℕ → Declared
moved_to d at = record { count = d.count; command = at; sort = d.sort; inhabited = d.inhabited }

-- one assert more is kept; or there is no room for it
pub record Keeps (s : Script) (number at : ℕ) (s' : Script) : Type 0 where
  pub declared_is : s'.declared ≡ moved_to s.declared at
  pub symbols_same : s'.symbols ≡ s.symbols
  pub few : length s'.roots ≤ 256
  pub kept : length s.roots < 256 → (s'.roots ≡ snoc s.roots number) × (s'.table ≡ s.table)
  pub full : 256 ≤ length s.roots → s'.table ≡ None

-- after assert
abbrev pub in_asserting : List ℕ → List Command → State
in_asserting sn cs = in_list sn cs one_formula end []

-- what is asked of every call
pub record AssertAsked (text : List ℕ) (at : ℕ) (shelf : List Shelved) (s : Script) : Type 0 where
  pub declared_sound : DeclaredSound text shelf s.declared
  pub inside : at ≤ length text

-- behind assert, where the text is read so far, it is read on or refused
abbrev pub ReadsAssert : List ℕ → ℕ → List Shelved → Script → Result Unit Refusal → Script → Type 0
ReadsAssert text at shelf s r s' = Inside in_asserting text shelf s at → WentOn text s.declared.command shelf s' r
