-- What a lexeme says that is not of one kind. Assumes nothing.
use mathlib.Core.Path.{◌≡◌, refl}
use mathlib.Core.Bool.{false}
use mathlib.Core.List.{List}
use mathlib.Core.Option.{some}
use Prim.Native.Nat.{ℕ}
use Rattle.std.specs.Borrow.{Bor}
use Rattle.definitions.specs.Text.Tokens.{opening, closing, nought, wrong, symbol, word}
use Rattle.definitions.specs.Text.Tokens as tokens
use Rattle.terms.specs.Lexing.{lexeme_read}
use Rattle.terms.specs.Reading.{is_token, NoSymbol}
use Rattle.terms.specs.declared.tokens.Lexeme.{Lexeme}

pub some_token : (l : Lexeme) → (l ≡ Lexeme.End → ⊥) → (x : tokens.Token) × (lexeme_read l ≡ some x)
some_token Lexeme.End h = absurd (h refl)
some_token Lexeme.Opening h = (opening, refl)
some_token Lexeme.Closing h = (closing, refl)
some_token Lexeme.Nought h = (nought, refl)
some_token Lexeme.Wrong h = (wrong, refl)
some_token (Lexeme.Symbol n) h = (symbol n.now, refl)
some_token (Lexeme.Word n) h = (word n.now, refl)

pub not_closing : (l : Lexeme) → (l ≡ Lexeme.Closing → ⊥) → is_token closing (lexeme_read l) ≡ false
not_closing Lexeme.End h = refl
not_closing Lexeme.Opening h = refl
not_closing Lexeme.Closing h = absurd (h refl)
not_closing Lexeme.Nought h = refl
not_closing Lexeme.Wrong h = refl
not_closing (Lexeme.Symbol n) h = refl
not_closing (Lexeme.Word n) h = refl

pub not_opening : (l : Lexeme) → (l ≡ Lexeme.Opening → ⊥) → is_token opening (lexeme_read l) ≡ false
not_opening Lexeme.End h = refl
not_opening Lexeme.Opening h = absurd (h refl)
not_opening Lexeme.Closing h = refl
not_opening Lexeme.Nought h = refl
not_opening Lexeme.Wrong h = refl
not_opening (Lexeme.Symbol n) h = refl
not_opening (Lexeme.Word n) h = refl

pub not_symbol : (l : Lexeme) → ((n : Bor (List ℕ)) → l ≡ Lexeme.Symbol n → ⊥) → NoSymbol (lexeme_read l)
not_symbol Lexeme.End h = tt
not_symbol Lexeme.Opening h = refl
not_symbol Lexeme.Closing h = refl
not_symbol Lexeme.Nought h = refl
not_symbol Lexeme.Wrong h = refl
not_symbol (Lexeme.Symbol n) h = absurd (h n refl)
not_symbol (Lexeme.Word n) h = refl
