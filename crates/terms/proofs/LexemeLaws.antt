-- What a token that is read says: where it ends, and which it is. Assumes nothing.
use mathlib.Core.Path.{◌≡◌, sym, ap, subst}
use Prim.Native.Nat.{ℕ, ◌≤◌, ◌<◌}
use mathlib.Core.Bool.{true, false≢true}
use mathlib.Core.List.{List}
use mathlib.Core.Option.{Option, none, some}
use lib.ListN.{length}
use Rattle.std.specs.Prelude.{Result, Ok, Err, IsErrAnd}
use Rattle.definitions.specs.Text.Tokens.{opening, closing, nought, wrong, symbol, word, kind_of, name_of, same_token}
use Rattle.definitions.specs.Text.Tokens as tokens
use Rattle.theorems.proofs.Laws.Tests.{none≢some}
use Rattle.theorems.proofs.Text.Taken.Runs.{same_token_lem}
use Rattle.terms.specs.Lexing.{lexeme_read, LexemeWithin}
use Rattle.terms.specs.Reading.{is_token, Exactly}
use Rattle.terms.specs.declared.tokens.Lexeme.{Lexeme}
use Rattle.terms.specs.declared.tokens.Token.{Token}
use Rattle.terms.specs.declared.exact.WrongToken.{WrongToken}

-- the end of the text is at its length
pub end_place : (text : List ℕ) (at : ℕ) (t : Token) (l : Lexeme) → LexemeWithin text at t l → lexeme_read l ≡ none → t.place ≡ length text
end_place text at t Lexeme.End w e = w
end_place text at t Lexeme.Opening w e = absurd (none≢some (sym e))
end_place text at t Lexeme.Closing w e = absurd (none≢some (sym e))
end_place text at t Lexeme.Nought w e = absurd (none≢some (sym e))
end_place text at t Lexeme.Wrong w e = absurd (none≢some (sym e))
end_place text at t (Lexeme.Symbol n) w e = absurd (none≢some (sym e))
end_place text at t (Lexeme.Word n) w e = absurd (none≢some (sym e))

-- a token that is there is passed
pub goes_on : (text : List ℕ) (at : ℕ) (t : Token) (l : Lexeme) {x : tokens.Token} → LexemeWithin text at t l → lexeme_read l ≡ some x → at < t.next
goes_on text at t Lexeme.End w e = absurd (none≢some e)
goes_on text at t Lexeme.Opening w e = w
goes_on text at t Lexeme.Closing w e = w
goes_on text at t Lexeme.Nought w e = w
goes_on text at t Lexeme.Wrong w e = w
goes_on text at t (Lexeme.Symbol n) w e = w
goes_on text at t (Lexeme.Word n) w e = w

-- a token that is the one due is that very token
pub token_is : (x : tokens.Token) (o : Option tokens.Token) → is_token x o ≡ true → o ≡ some x
token_is x none e = absurd (false≢true e)
token_is x (some y) e = ap some (sym (same_token_lem x y e))

-- a token that had to come is passed
pub exactly_later : (text : List ℕ) {at next : ℕ} (x : tokens.Token) → Exactly text at x (Ok next) → at ≤ next
exactly_later text {at} x (t, l, e, n) = subst (λ (k : ℕ). at ≤ k) n l.later

-- what a refusal that is passed on says
pub passed_on : {T : Type 0} (P : Result T WrongToken → Type 0) (r : Result T WrongToken) (w : WrongToken) → IsErrAnd r (λ e. e ≡ w) → P (Err w) → P r
passed_on P (Ok x) w h p = absurd h
passed_on P (Err e) w h p = subst (λ (z : WrongToken). P (Err z)) (sym h) p
