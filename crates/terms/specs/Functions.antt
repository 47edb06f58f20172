-- What reading a declared function says (02, E1: declare-fun). Assumes nothing.
use Rattle.std.specs.Prelude.{◌≡◌, ℕ, ◌≤◌, ◌<◌, true, List, length, Result, Ok, Err}
use Rattle.definitions.specs.Lists.{snoc}
use Rattle.definitions.specs.Problem.Ops.{Sort}
use Rattle.definitions.specs.Text.Grammar.{Symbol, Command, declare, symbols_in, new_function}
use Rattle.definitions.specs.Text.Reader.{State, declaring}
use Rattle.definitions.specs.Text.Nodes.{byte_of}
use Rattle.terms.specs.Reading.{Reached, WrongAt}
use Rattle.terms.specs.Symbols.{symbol_byte, at_command, Symbols}
use Rattle.terms.specs.Ranks.{in_taking, in_giving}
use Rattle.terms.specs.declared.declared.Declared.{Declared}
use Rattle.terms.specs.declared.declared.Shelved.{Shelved}
use Rattle.terms.specs.declared.exact.WrongToken.{WrongToken}
use Rattle.terms.specs.declared.prologue.Named.{Named}
use Rattle.terms.specs.declared.functions.Ranked.{Ranked}
use Rattle.terms.specs.declared.functions.Function.{Function}

-- after declare-fun
abbrev pub in_declaring : List ℕ → List Command → State
in_declaring sn cs = record { sort_name = sn; commands = cs; stage = declaring }

-- a new name and the bracket after it are read, or it is refused
abbrev pub NameIs : List ℕ → List ℕ → List Command → Result Named WrongToken → Type 0
NameIs text sn cs (Ok n) =
    Reached text (in_taking sn cs n.name.now 0) n.at × (new_function (symbols_in cs) n.name.now ≡ true)
NameIs text sn cs (Err w) = WrongAt text w.0

abbrev pub NameSound : List ℕ → ℕ → Result Named WrongToken → Type 0
NameSound text from (Ok n) = (n.at ≤ length text) × (from ≤ n.at)
NameSound text from (Err w) = Unit {0}

pub record ReadsName (text : List ℕ) (shelf : List Shelved) (d : Declared) (at : ℕ) (r : Result Named WrongToken) : Type 0 where
  pub sound : NameSound text at r
  pub says : (sn : List ℕ) (cs : List Command) → Symbols text sn cs shelf d → Reached text (in_declaring sn cs) at → NameIs text sn cs r

-- a symbol of this name, arity and result
abbrev pub symbol_of : List ℕ → ℕ → Sort → Symbol
symbol_of name k s = record { name = name; arity = k; result = s }

-- the result is read, and the declaration's closing bracket
abbrev pub RankIs : List ℕ → List ℕ → List Command → List ℕ → ℕ → Result Ranked WrongToken → Type 0
RankIs text sn cs name k (Ok r) =
    (s : Sort) × (r.byte ≡ byte_of k s) × Reached text (at_command sn (snoc cs (declare (symbol_of name k s)))) r.at
RankIs text sn cs name k (Err w) = WrongAt text w.0

abbrev pub RankSound : List ℕ → ℕ → Result Ranked WrongToken → Type 0
RankSound text from (Ok r) = (r.byte < 20) × (r.at ≤ length text) × (from ≤ r.at)
RankSound text from (Err w) = Unit {0}

pub record ReadsRank (text : List ℕ) (at : ℕ) (sn : List ℕ) (k : ℕ) (r : Result Ranked WrongToken) : Type 0 where
  pub sound : RankSound text at r
  pub says : (cs : List Command) (name : List ℕ) → Reached text (in_giving sn cs name k) at → RankIs text sn cs name k r

-- a symbol is declared
pub record FunctionRead (text sn : List ℕ) (cs : List Command) (name : List ℕ) (byte at : ℕ) : Type 0 where
  pub declared : Symbol
  pub name_is : name ≡ declared.name
  pub byte_is : byte ≡ symbol_byte declared
  pub new : new_function (symbols_in cs) name ≡ true
  pub short : declared.arity ≤ 3
  pub reached : Reached text (at_command sn (snoc cs (declare declared))) at

abbrev pub FunctionIs : List ℕ → List ℕ → List Command → Result Function WrongToken → Type 0
FunctionIs text sn cs (Ok f) = FunctionRead text sn cs f.name.now f.byte f.at
FunctionIs text sn cs (Err w) = WrongAt text w.0

abbrev pub FunctionSound : List ℕ → ℕ → Result Function WrongToken → Type 0
FunctionSound text from (Ok f) = (f.byte < 20) × (f.at ≤ length text) × (from ≤ f.at)
FunctionSound text from (Err w) = Unit {0}

pub record ReadsFunction (text : List ℕ) (shelf : List Shelved) (d : Declared) (at : ℕ) (r : Result Function WrongToken) : Type 0 where
  pub sound : FunctionSound text at r
  pub says : (sn : List ℕ) (cs : List Command) → Symbols text sn cs shelf d → Reached text (in_declaring sn cs) at → FunctionIs text sn cs r
