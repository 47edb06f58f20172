-- What reading a symbol's rank says (02, E1: "result that sort or Bool, at most three arguments of the sort"). Assumes nothing.
use Rattle.std.specs.Prelude.{◌≡◌, ℕ, ◌≤◌, false, List, length, Result, Ok, Err, Option, Some, None}
use Rattle.std.proofs.Math.Option.{some}
use Rattle.definitions.specs.Text.Tokens.{symbol}
use Rattle.definitions.specs.Text.Grammar.{Command, BOOL}
use Rattle.definitions.specs.Text.Reader.{State, taking, giving, gave}
use Rattle.terms.specs.Lexing.{lexeme_read}
use Rattle.terms.specs.Reading.{Reached, WrongAt, is_token}
use Rattle.problem.specs.Wanted.{sort_read}
use Rattle.problem.specs.declared.ops.Sort.{Sort}
use Rattle.terms.specs.declared.tokens.Lexeme.{Lexeme}
use Rattle.terms.specs.declared.exact.WrongToken.{WrongToken}
use Rattle.terms.specs.declared.declarations.Counted.{Counted}
use Rattle.terms.specs.declared.ranks.Given.{Given}

-- the sort, Bool, or none of them
abbrev pub SortIs : Lexeme → List ℕ → Option Sort → Type 0
SortIs l sn (Some Sort.Term) = lexeme_read l ≡ some (symbol sn)
SortIs l sn (Some Sort.Formula) = (lexeme_read l ≡ some (symbol BOOL)) × (is_token (symbol sn) (lexeme_read l) ≡ false)
SortIs l sn None = (is_token (symbol sn) (lexeme_read l) ≡ false) × (is_token (symbol BOOL) (lexeme_read l) ≡ false)

-- a function of this name is declared with so many arguments so far; and its result may come
abbrev pub in_taking : List ℕ → List Command → List ℕ → ℕ → State
in_taking sn cs name k = record { sort_name = sn; commands = cs; stage = taking name k }

abbrev pub in_giving : List ℕ → List Command → List ℕ → ℕ → State
in_giving sn cs name k = record { sort_name = sn; commands = cs; stage = giving name k }

abbrev pub ArityIs : List ℕ → List ℕ → List Command → List ℕ → Result Counted WrongToken → Type 0
ArityIs text sn cs name (Ok c) = Reached text (in_giving sn cs name c.arity) c.next
ArityIs text sn cs name (Err w) = WrongAt text w.0

abbrev pub AritySound : List ℕ → ℕ → Result Counted WrongToken → Type 0
AritySound text from (Ok c) = (c.arity ≤ 3) × (c.next ≤ length text) × (from ≤ c.next)
AritySound text from (Err w) = Unit {0}

pub record ReadsArity (text : List ℕ) (from : ℕ) (sn : List ℕ) (r : Result Counted WrongToken) : Type 0 where
  pub sound : AritySound text from r
  pub says : (cs : List Command) (name : List ℕ) → Reached text (in_taking sn cs name 0) from → ArityIs text sn cs name r

abbrev pub ResultIs : List ℕ → List ℕ → List Command → List ℕ → ℕ → Result Given WrongToken → Type 0
ResultIs text sn cs name k (Ok g) = Reached text (gave (in_giving sn cs name k) name k (sort_read g.result)) g.at
ResultIs text sn cs name k (Err w) = WrongAt text w.0

abbrev pub ResultSound : List ℕ → ℕ → Result Given WrongToken → Type 0
ResultSound text from (Ok g) = (g.at ≤ length text) × (from ≤ g.at)
ResultSound text from (Err w) = Unit {0}

pub record ReadsResult (text : List ℕ) (at : ℕ) (sn : List ℕ) (r : Result Given WrongToken) : Type 0 where
  pub sound : ResultSound text at r
  pub says : (cs : List Command) (name : List ℕ) (k : ℕ) → Reached text (in_giving sn cs name k) at → ResultIs text sn cs name k r
