-- A text that is read up to a command: what the script holds of it (02, E1). Assumes nothing.
use Rattle.std.specs.Prelude.{◌≡◌, ℕ, ◌≤◌, ◌<◌, true, false, List, [], length, Some, Result, Ok, Err}
use Rattle.definitions.specs.Operations.Answers.{given}
use Rattle.definitions.specs.Text.Grammar.{Command, symbols_in}
use Rattle.definitions.specs.Text.Reader.{State, script_read}
use Rattle.definitions.specs.Text.Nodes.{symbol_bytes}
use Rattle.definitions.specs.declared.Refusal.{Refusal}
use Rattle.terms.specs.Reading.{Reached}
use Rattle.terms.specs.Symbols.{Symbols, DeclaredSound}
use Rattle.terms.specs.Laying.{over, standing}
use Rattle.terms.specs.Scripts.{table_after, roots_after, TooMuch}
use Rattle.terms.specs.Terms.{RefusedBy}
use Rattle.terms.specs.declared.declared.Shelved.{Shelved}
use Rattle.terms.specs.declared.prologue.Named.{Named}
use Rattle.text.specs.declared.scripts.Script.{Script}

-- behind the prologue: nothing is declared, nothing is laid
abbrev pub first_script : Named → Script
first_script n =
    record {
      declared = record { count = 0; command = n.at; sort = n.name; inhabited = false };
      symbols = [];
      table = Some [];
      roots = [];
    }

-- whatever is read: offsets lie within the text, and each symbol took a byte of it
pub record ScriptSound (text : List ℕ) (shelf : List Shelved) (s : Script) : Type 0 where
  pub declared_sound : DeclaredSound text shelf s.declared
  pub count_few : s.declared.count ≤ s.declared.command

-- the commands cs are read, and the script holds their symbols, their nodes and their asserts' numbers, unless it is too much
pub record ScriptSo (text : List ℕ) (shelf : List Shelved) (s : Script) (cs : List Command) : Type 0 where
  pub symbols_so : Symbols text s.declared.sort.now cs shelf s.declared
  pub few_so : over s.table ≡ false → length s.symbols ≤ 32
  pub bytes_so : over s.table ≡ false → s.symbols ≡ symbol_bytes (symbols_in cs)
  pub table_so : over s.table ≡ false → standing s.table ≡ table_after cs
  pub roots_so : over s.table ≡ false → s.roots ≡ roots_after cs
  pub over_so : over s.table ≡ true → TooMuch s.declared.sort.now cs

-- the text is read up to the next command
pub record Scripted (text : List ℕ) (shelf : List Shelved) (s : Script) : Type 0 where
  pub sound : ScriptSound text shelf s
  pub commands : List Command
  pub so : ScriptSo text shelf s commands

-- and, inside a command, up to an offset in a state
pub record Inside (stage : List ℕ → List Command → State) (text : List ℕ) (shelf : List Shelved) (s : Script) (at : ℕ) : Type 0 where
  pub sound : ScriptSound text shelf s
  pub commands : List Command
  pub so : ScriptSo text shelf s commands
  pub reached : Reached text (stage s.declared.sort.now commands) at
  pub inside : at ≤ length text
  pub further : s.declared.command < at

-- the text is read out
pub record ReadOut (text : List ℕ) (shelf : List Shelved) (s : Script) : Type 0 where
  pub scripted : Scripted text shelf s
  pub whole : script_read text ≡ given (record { sort_name = s.declared.sort.now; commands = scripted.commands })

-- a command that begins at an offset is read, or the text is refused
abbrev pub WentOn : List ℕ → ℕ → List Shelved → Script → Result Unit Refusal → Type 0
WentOn text from shelf s (Ok _) = Scripted text shelf s × (from < s.declared.command)
WentOn text from shelf s (Err refusal) = RefusedBy text refusal
