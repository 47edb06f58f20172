-- How far a text is read: the state of the one pass that the definition makes, after the tokens before an offset. Assumes nothing.
use Rattle.std.specs.Prelude.{◌≡◌, ℕ, ◌≤◌, Bool, false, List, ◌++◌, map, length, Result, Ok, Err}
use Rattle.std.proofs.Math.Option.{Option, none, some}
use Rattle.definitions.specs.Problem.Check.{refuse}
use Rattle.definitions.specs.Operations.Answers.{refused}
use Rattle.definitions.specs.Text.Tokens.{opening, closing, nought, symbol, word, Placed, tokens_of, same_token}
use Rattle.definitions.specs.Text.Tokens as tokens
use Rattle.definitions.specs.Text.Reader.{State, Stage, symbol_name, start, goes, each, level_of, read_from, script_read}
use Rattle.theorems.specs.Texts.{plain_tokens}
use Rattle.theorems.proofs.Text.Taken.Runs.{runs}
use Rattle.terms.specs.Lexing.{lexeme_read, tokens_at, Lexed}
use Rattle.terms.specs.declared.tokens.Token.{Token}
use Rattle.terms.specs.declared.exact.WrongToken.{WrongToken}
use Rattle.terms.specs.declared.exact.Due.{Due}

-- the tokens before an offset have led to this state, and the answer is what is read from there on
pub record Reached (text : List ℕ) (st : State) (at : ℕ) : Type 0 where
  pub before : List Placed
  pub split : tokens_of text ≡ before ++ tokens_at text at
  pub ran : runs start (plain_tokens before) ≡ some st
  pub answer : script_read text ≡ read_from st (length text) (tokens_at text at)

-- 14 at a place
abbrev pub WrongAt : List ℕ → ℕ → Type 0
WrongAt text place = script_read text ≡ refused (refuse 14 place)

abbrev pub is_token : tokens.Token → Option tokens.Token → Bool
is_token x none = false
is_token x (some y) = same_token x y

-- no symbol stands there
abbrev pub NoSymbol : Option tokens.Token → Type 0
NoSymbol none = Unit {0}
NoSymbol (some x) = symbol_name x ≡ none

-- this very token stands first from an offset on, and the next offset is behind it; or another does, or none, at a place
abbrev pub Exactly : List ℕ → ℕ → tokens.Token → Result ℕ WrongToken → Type 0
Exactly text at x (Ok next) = (t : Token) × Lexed text at t × (lexeme_read t.lexeme ≡ some x) × (t.next ≡ next)
Exactly text at x (Err w) = (t : Token) × Lexed text at t × (is_token x (lexeme_read t.lexeme) ≡ false) × (t.place ≡ w.0)

abbrev pub due_read : Due → tokens.Token
due_read Due.Opening = opening
due_read Due.Closing = closing
due_read Due.Nought = nought
due_read (Due.Word name) = word name.now
due_read (Due.Symbol name) = symbol name.now

-- the offset behind a token lies within the text; a state is reached there, or the text is refused
abbrev pub StepWithin : List ℕ → Result ℕ WrongToken → Type 0
StepWithin text (Ok at) = at ≤ length text
StepWithin text (Err w) = Unit {0}

abbrev pub ReachedBy : List ℕ → State → Result ℕ WrongToken → Type 0
ReachedBy text st (Ok at) = Reached text st at
ReachedBy text st (Err w) = WrongAt text w.0

-- tokens that must come are passed one after the other, or the text is refused at the first that does not come
pub record Passes (text : List ℕ) (from : ℕ) (dues : List Due) (r : Result ℕ WrongToken) : Type 0 where
  pub inside : StepWithin text r
  pub says : (st : State) (then : Stage) → level_of then ≤ 64 → Reached text (goes st (each (map due_read dues) then)) from
      → ReachedBy text (goes st then) r
