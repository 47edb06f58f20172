-- One more declared symbol, where a function's declaration is read: on the shelf, and among the problem's symbols (02, E1: declare-fun).
-- Assumes nothing.
use Rattle.std.specs.Prelude.{◌≡◌, ℕ, ◌+◌, ◌≤◌, ◌<◌, ◌||◌, eqb, List, length, None}
use Rattle.definitions.specs.Lists.{snoc}
use Rattle.terms.specs.Symbols.{place_on}
use Rattle.terms.specs.declared.declared.Declared.{Declared}
use Rattle.terms.specs.declared.declared.Shelved.{Shelved}
use Rattle.terms.specs.declared.functions.Function.{Function}
use Rattle.text.specs.declared.scripts.Script.{Script}

-- what is asked of every call
pub record Shelvable (s : Script) (f : Function) : Type 0 where
  pub small : f.byte < 20
  pub below : s.declared.count < f.at

-- a place of the shelf is filled, if there is one
pub record Placed (shelf : List Shelved) (count : ℕ) (f : Function) (shelf' : List Shelved) : Type 0 where
  pub long : length shelf' ≡ length shelf
  pub kept : (j : ℕ) → j < count → place_on shelf' j ≡ place_on shelf j
  pub there : count < length shelf → place_on shelf' count ≡ record { name = f.name; byte = f.byte }

-- one symbol more is declared, and the next command begins behind it
abbrev pub declared_more : Declared → Function → Declared
declared_more d f = record { count = d.count + 1; command = f.at; sort = d.sort; inhabited = d.inhabited || eqb f.byte 0 }

-- one symbol more, if there are fewer than 32; else there is no room for it
pub record Shelves (shelf : List Shelved) (s : Script) (f : Function) (shelf' : List Shelved) (s' : Script) : Type 0 where
  pub placed : Placed shelf s.declared.count f shelf'
  pub declared_is : s'.declared ≡ declared_more s.declared f
  pub roots_same : s'.roots ≡ s.roots
  pub few : length s'.symbols ≤ 32
  pub more : length s.symbols < 32 → (s'.symbols ≡ snoc s.symbols f.byte) × (s'.table ≡ s.table)
  pub full : 32 ≤ length s.symbols → s'.table ≡ None
