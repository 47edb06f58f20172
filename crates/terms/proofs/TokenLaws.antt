-- The token at a byte, by what the byte is: a word, a name in bars, a bracket or none. Assumes nothing.
use mathlib.Core.Path.{◌≡◌, refl, sym, ap, ap₂, ◌∙◌, subst}
use Prim.Native.Nat.{ℕ, ◌+◌, ◌<◌}
use native.Mathlib.Omega.{arith}
use mathlib.Core.Bool.{Bool, true, false}
use mathlib.Core.List.{List, ◌∷◌}
use mathlib.Core.Option.{some}
use lib.ListN.{length, get_or, drop}
use lib.Dec.{eqb}
use borrow.Author.Tests.{ne_eqb}
use Rattle.definitions.specs.Text.Tokens.{opening, closing, nought, wrong, symbol, word, RESERVED, digit, word_byte, run, barred, lexeme, word_token, bar_token}
use Rattle.definitions.specs.Text.Tokens as tokens
use Rattle.terms.specs.Lexing.{between, lexeme_read, bracket_read, token_there, LexemeWithin, RunsTo, TokenIs}
use Rattle.terms.specs.declared.tokens.Lexeme.{Lexeme}
use Rattle.terms.specs.declared.tokens.Token.{Token}

abbrev one_byte : ℕ → tokens.Lexeme
one_byte b = elim (eqb b 40) [ true ↦ lexeme opening 1 | false ↦ elim (eqb b 41) [ true ↦ lexeme closing 1 | false ↦ lexeme wrong 1 ] ]

abbrev token_by : ℕ → List ℕ → Bool → Bool → tokens.Lexeme
token_by b bs w bar =
    elim w [
      | true ↦ let name = run (b ∷ bs) in lexeme (word_token b name) (length name)
      | false ↦ elim bar [ true ↦ bar_token (barred bs) | false ↦ one_byte b ]
    ]

abbrev token : Lexeme → ℕ → ℕ → Token
token l place next = record { lexeme = l; place = place; next = next }

module _ (text : List ℕ) (place : ℕ) (h : place < length text) where
  abbrev b : ℕ
  b = get_or text place 0

  abbrev bs : List ℕ
  bs = drop (place + 1) text

  by : {w bar : Bool} → word_byte b ≡ w → eqb b 124 ≡ bar → token_there text place ≡ token_by b bs w bar
  by e f = ap₂ {C = tokens.Lexeme} (token_by b bs) e f

  -- a word
  module _ (w : word_byte b ≡ true) (to : ℕ) (r : RunsTo text place (run (drop place text)) to) where
    abbrev name : List ℕ
    name = between text place to

  -- a bracket, or no token
  pub byte_is : {l : Lexeme} → word_byte b ≡ false → (b ≡ 124 → ⊥) → l ≡ bracket_read b → TokenIs text place (token l place (place + 1))
  byte_is {l} w f e =
      let there = by w (ne_eqb b 124 f) in
      let read = bracket (eqb b 40) (eqb b 41) in
      let width : (token_there text place).width ≡ 1 = ap (λ (x : tokens.Lexeme). x.width) there ∙ read.1 in
      record {
        token_is = ap lexeme_read e ∙ read.0 ∙ ap some (sym (ap (λ (x : tokens.Lexeme). x.token) there));
        next_is = omega arith;
        place_is = refl;
        fits = subst (λ (x : Lexeme). LexemeWithin text place (token l place (place + 1)) x) (sym e) read.2;
        inside = omega arith;
      }
    where
      bytes : Bool → Bool → tokens.Lexeme
      bytes p q = elim p [ true ↦ lexeme opening 1 | false ↦ elim q [ true ↦ lexeme closing 1 | false ↦ lexeme wrong 1 ] ]

      lexemes : Bool → Bool → Lexeme
      lexemes p q = elim p [ true ↦ Lexeme.Opening | false ↦ elim q [ true ↦ Lexeme.Closing | false ↦ Lexeme.Wrong ] ]

      bracket : (p q : Bool) → (lexeme_read (lexemes p q) ≡ some (bytes p q).token) × ((bytes p q).width ≡ 1)
          × LexemeWithin text place (token l place (place + 1)) (lexemes p q)
      bracket true q = (refl, refl, omega arith)
      bracket false true = (refl, refl, omega arith)
      bracket false false = (refl, refl, omega arith)
