-- The declared symbols as the code keeps them (02, E1). Assumes nothing.
use Rattle.std.specs.Prelude.{◌≡◌, ℕ, ◌≤◌, ◌<◌, Bool, true, false, List, [], length, get_or, Option, Some, None}
use Rattle.std.proofs.Math.Option.{none, some}
use Rattle.definitions.specs.Problem.Ops.{term}
use Rattle.definitions.specs.Text.Ascii.{same_bytes}
use Rattle.definitions.specs.Text.Tokens.{opening}
use Rattle.definitions.specs.Text.Grammar.{Symbol, symbol_at, symbols_in, Command, new_function}
use Rattle.definitions.specs.Text.Heads.{inhabited}
use Rattle.definitions.specs.Text.Reader.{State, exact, commanding}
use Rattle.definitions.specs.Text.Nodes.{byte_of}
use Rattle.terms.specs.Reading.{Reached}
use Rattle.terms.specs.Named.{resolve}
use Rattle.terms.specs.declared.declared.Declared.{Declared}
use Rattle.terms.specs.declared.declared.Known.{Known}
use Rattle.terms.specs.declared.declared.Shelved.{Shelved}

-- the byte of a symbol in the problem
abbrev pub symbol_byte : Symbol → ℕ
symbol_byte y = byte_of y.arity y.result

-- what a shelf says of symbol i: its name, and its byte
abbrev pub place_on : List Shelved → ℕ → Shelved
place_on shelf i = get_or shelf i (record { name = record { ref_ptr = (0, 0); now = [] }; byte = 0 })

abbrev pub name_on : List Shelved → ℕ → List ℕ
name_on shelf i = (place_on shelf i).name.now

abbrev pub byte_on : List Shelved → ℕ → ℕ
byte_on shelf i = (place_on shelf i).byte

-- a place on the shelf is in use
abbrev pub OnShelf : List Shelved → ℕ → ℕ → Type 0
OnShelf shelf count i = (i < count) × (i < length shelf)

-- bytes on the shelf are small
abbrev pub ShelfSound : List Shelved → ℕ → Type 0
ShelfSound shelf count = (i : ℕ) → OnShelf shelf count i → byte_on shelf i < 20

-- the shelf has the first of these symbols
pub record Shelves (sig : List Symbol) (shelf : List Shelved) (d : Declared) : Type 0 where
  pub counted : d.count ≡ length sig
  pub named : (i : ℕ) → OnShelf shelf d.count i → name_on shelf i ≡ (symbol_at sig i).name
  pub typed : (i : ℕ) → OnShelf shelf d.count i → byte_on shelf i ≡ symbol_byte (symbol_at sig i)
  pub inhabits : d.inhabited ≡ inhabited sig term

-- the commands cs are read, and the next one begins at an offset
abbrev pub at_command : List ℕ → List Command → State
at_command sn cs = record { sort_name = sn; commands = cs; stage = exact opening commanding }

-- the symbols of a text that is read so far
pub record Symbols (text : List ℕ) (sn : List ℕ) (cs : List Command) (shelf : List Shelved) (d : Declared) : Type 0 where
  pub sort_is_lem : sn ≡ d.sort.now
  pub shelved : Shelves (symbols_in cs) shelf d
  pub reached : Reached text (at_command sn cs) d.command

-- what holds whatever is read: bytes are small, and the next command's offset lies within the text
pub record DeclaredSound (text : List ℕ) (shelf : List Shelved) (d : Declared) : Type 0 where
  pub sound : ShelfSound shelf d.count
  pub command_inside : d.command ≤ length text

-- the symbol of a name
abbrev pub KnownIs : List Symbol → List ℕ → Option Known → Type 0
KnownIs sig name (Some k) = (resolve sig name ≡ some k.number) × (k.byte ≡ symbol_byte (symbol_at sig k.number))
KnownIs sig name None = resolve sig name ≡ none

-- the first place on the shelf that has a name
abbrev pub FoundOn : List Shelved → List ℕ → Option ℕ → Type 0
FoundOn shelf name (Some i) =
    (i < length shelf) × (same_bytes name (name_on shelf i) ≡ true) × ((j : ℕ) → j < i → same_bytes name (name_on shelf j) ≡ false)
FoundOn shelf name None = (j : ℕ) → j < length shelf → same_bytes name (name_on shelf j) ≡ false

-- the symbol of a name, whose byte is right if it takes at most three arguments
abbrev pub KnownIn : List Symbol → List ℕ → Option Known → Type 0
KnownIn sig name (Some k) =
    (resolve sig name ≡ some k.number) × (k.byte < 20)
    × ((symbol_at sig k.number).arity ≤ 3 → k.byte ≡ symbol_byte (symbol_at sig k.number))
KnownIn sig name None = resolve sig name ≡ none

abbrev pub KnownSmall : Option Known → Type 0
KnownSmall (Some k) = k.byte < 20
KnownSmall None = Unit {0}

-- the symbol of a name is found among those of a text that is read so far, and whatever is read its byte is small
pub record Finds (text : List ℕ) (shelf : List Shelved) (d : Declared) (name : List ℕ) (r : Option Known) : Type 0 where
  pub known : (sn : List ℕ) (cs : List Command) → Symbols text sn cs shelf d → KnownIs (symbols_in cs) name r
  pub small : KnownSmall r

-- a name may be declared
abbrev pub Frees : List ℕ → List Shelved → Declared → List ℕ → Bool → Type 0
Frees text shelf d name r = (sn : List ℕ) (cs : List Command) → Symbols text sn cs shelf d → r ≡ new_function (symbols_in cs) name

-- each symbol takes at most three arguments
abbrev pub Few : List Symbol → Type 0
Few sig = (k : ℕ) → (symbol_at sig k).arity ≤ 3
