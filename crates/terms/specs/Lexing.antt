-- What the lexer's answers stand for: the tokens of a text from an offset on, by the first of them (02, E1). Assumes nothing.
use Rattle.std.specs.Prelude.{◌≡◌, ℕ, ◌+◌, ◌-◌, ◌≤◌, ◌<◌, true, false, List, [], ◌∷◌, length, get_or, take, drop, eqb, Some, None}
use Rattle.std.specs.Prelude as code
use Rattle.std.proofs.Math.Option.{Option, none, some}
use Rattle.definitions.specs.Text.Ascii.{same_bytes}
use Rattle.definitions.specs.Text.Tokens.{opening, closing, nought, wrong, symbol, word, Placed, token_at, tokens_from, blank, barred}
use Rattle.definitions.specs.Text.Tokens as tokens
use Rattle.terms.specs.declared.tokens.Lexeme.{Lexeme}
use Rattle.terms.specs.declared.tokens.Token.{Token}

-- the bytes of a text between two offsets
abbrev pub between : List ℕ → ℕ → ℕ → List ℕ
between text from to = take (to - from) (drop from text)

-- the token that a lexeme stands for; none at the end of the text
abbrev pub lexeme_read : Lexeme → Option tokens.Token
lexeme_read Lexeme.End = none
lexeme_read Lexeme.Opening = some opening
lexeme_read Lexeme.Closing = some closing
lexeme_read Lexeme.Nought = some nought
lexeme_read Lexeme.Wrong = some wrong
lexeme_read (Lexeme.Symbol name) = some (symbol name.now)
lexeme_read (Lexeme.Word name) = some (word name.now)

-- the tokens from an offset on
unfoldable pub tokens_at : List ℕ → ℕ → List Placed
tokens_at text at = tokens_from (length text) at (drop at text)

abbrev pub led : List ℕ → ℕ → ℕ → Option tokens.Token → List Placed
led text place next none = []
led text place next (some t) = record { token = t; place = place } ∷ tokens_at text next

-- the end is the text's end, and any other lexeme is passed
abbrev pub LexemeWithin : List ℕ → ℕ → Token → Lexeme → Type 0
LexemeWithin text at t Lexeme.End = t.place ≡ length text
LexemeWithin text at t Lexeme.Opening = at < t.next
LexemeWithin text at t Lexeme.Closing = at < t.next
LexemeWithin text at t Lexeme.Nought = at < t.next
LexemeWithin text at t Lexeme.Wrong = at < t.next
LexemeWithin text at t (Lexeme.Symbol name) = at < t.next
LexemeWithin text at t (Lexeme.Word name) = at < t.next

-- a word of digits: 0 alone is a token (L4); a byte by itself: a bracket, or no token (L7)
abbrev pub numeral_read : List ℕ → Lexeme
numeral_read name = elim (same_bytes name (48 ∷ [])) [ true ↦ Lexeme.Nought | false ↦ Lexeme.Wrong ]

abbrev pub bracket_read : ℕ → Lexeme
bracket_read b = elim (eqb b 40) [ true ↦ Lexeme.Opening | false ↦ elim (eqb b 41) [ true ↦ Lexeme.Closing | false ↦ Lexeme.Wrong ] ]

-- the definition's token at a byte that is no white space and starts no comment
abbrev pub token_there : List ℕ → ℕ → tokens.Lexeme
token_there text place = token_at (get_or text place 0) (drop (place + 1) text)

pub record TokenIs (text : List ℕ) (place : ℕ) (t : Token) : Type 0 where
  pub token_is : lexeme_read t.lexeme ≡ some (token_there text place).token
  pub next_is : t.next ≡ place + (token_there text place).width
  pub place_is : t.place ≡ place
  pub fits : LexemeWithin text place t t.lexeme
  pub inside : t.next ≤ length text

-- the token is the first from this offset on, and the others follow from its end on
pub record Lexed (text : List ℕ) (at : ℕ) (t : Token) : Type 0 where
  pub tokens_are : tokens_at text at ≡ led text t.place t.next (lexeme_read t.lexeme)
  pub fits : LexemeWithin text at t t.lexeme
  pub later : at ≤ t.next
  pub inside : t.next ≤ length text

-- a comment that runs at an offset is passed, and the gap goes on
pub record CommentTo (text : List ℕ) (from to : ℕ) : Type 0 where
  pub goes_on : from + blank true (drop from text) ≡ to + blank false (drop to text)
  pub onward : from ≤ to
  pub inside : to ≤ length text

-- a gap that began at an offset ends
pub record BlankTo (text : List ℕ) (from to : ℕ) : Type 0 where
  pub ends : to ≡ from + blank false (drop from text)
  pub inside : to ≤ length text

-- a run of bytes from an offset on; a name up to its closing bar
pub record RunsTo (text : List ℕ) (from : ℕ) (bytes : List ℕ) (to : ℕ) : Type 0 where
  pub bytes_are : bytes ≡ between text from to
  pub onward : from ≤ to
  pub inside : to ≤ length text

abbrev pub BarredTo : List ℕ → ℕ → code.Option ℕ → Type 0
BarredTo text from (Some to) = (barred (drop from text) ≡ some (between text from to)) × (from ≤ to) × (to < length text)
BarredTo text from None = barred (drop from text) ≡ none
