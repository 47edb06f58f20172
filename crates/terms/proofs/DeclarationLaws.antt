-- A declaration read again from a text: what the first tokens from an offset on say of it. Assumes nothing.
use mathlib.Core.Path.{◌≡◌, refl, sym, ap, ◌∙◌, subst}
use Prim.Native.Nat.{ℕ, ◌+◌, ◌≤◌}
use native.Mathlib.Omega.{arith}
use mathlib.Core.Bool.{Bool, true, false}
use mathlib.Core.List.{List, [], ◌∷◌}
use mathlib.Core.Option.{Option, none, some}
use lib.ListN.{length, drop, length-drop}
use Rattle.std.specs.Prelude.{Ok, Err}
use Rattle.definitions.specs.Problem.Ops.{Sort, term, formula}
use Rattle.definitions.specs.Text.Tokens.{symbol, same_token}
use Rattle.definitions.specs.Text.Tokens as tokens
use Rattle.theorems.specs.Texts.{plain_tokens}
use Rattle.theorems.proofs.Laws.Tests.{same_test}
use Rattle.theorems.proofs.Text.Taken.Runs.{same_token_lem, token_same}
use Rattle.terms.specs.Lexing.{lexeme_read, tokens_at, led, LexemeWithin, Lexed}
use Rattle.terms.specs.Reading.{is_token, Exactly}
use Rattle.terms.specs.Declarations.{arguments_in, after_arguments, result_in, declared_here, plain_at, first_name, SkipsTo}
use Rattle.terms.specs.declared.tokens.Lexeme.{Lexeme}
use Rattle.terms.specs.declared.tokens.Token.{Token}
use Rattle.terms.specs.declared.exact.WrongToken.{WrongToken}
use Rattle.terms.proofs.Streams.{no_tokens}

-- no token stands at the end
end_empty : (text : List ℕ) → plain_at text (length text) ≡ []
unfolding tokens_at
end_empty text = ap plain_tokens (no_tokens (length text) (length text) (drop (length text) text) (omega (arith, length-drop (length text) text)))

module _ (text : List ℕ) (at : ℕ) (t : Token) (l : Lexed text at t) where
  -- the tokens from here on, by the first lexeme
  abbrev pub by : Option tokens.Token → List tokens.Token
  by o = plain_tokens (led text t.place t.next o)

  pub tokens_by_lem : {o : Option tokens.Token} → lexeme_read t.lexeme ≡ o → plain_at text at ≡ by o
  tokens_by_lem e = ap plain_tokens l.tokens_are ∙ ap by e

  pub skip_end : t.lexeme ≡ Lexeme.End → SkipsTo text at t.place
  skip_end e =
      let p : t.place ≡ length text = subst (LexemeWithin text at t) e l.fits in
      record {
        behind = ap (plain_at text) p ∙ end_empty text ∙ sym (ap (drop 1) (tokens_by_lem (ap lexeme_read e)));
        inside = omega arith;
      }

-- the arguments are counted as far as this offset
pub record Counting (text : List ℕ) (from at arity : ℕ) : Type 0 where
  pub few : arity ≤ 3
  pub inside : at ≤ length text
  pub so_far : arguments_in (plain_at text from) ≡ arity + arguments_in (plain_at text at)
  pub same_end : after_arguments (plain_at text from) ≡ after_arguments (plain_at text at)

-- two tokens compare the same either way
pub same_swap : (x y : tokens.Token) → same_token x y ≡ same_token y x
same_swap x y =
    same_test (same_token x y) (same_token y x) (λ e. ap (same_token y) (same_token_lem x y e) ∙ token_same y)
    (λ e. ap (same_token x) (same_token_lem y x e) ∙ token_same x)

-- the result is told by the token that must come
module _ (text : List ℕ) (at : ℕ) (sn : List ℕ) where
  result_by : Bool → Sort
  result_by b = elim b [ true ↦ term | false ↦ formula ]

  pub result_sort : (next : ℕ) → Exactly text at (symbol sn) (Ok next) → result_in sn (plain_at text at) ≡ term
  unfolding result_by
  result_sort next (t, l, e, n) = ap (result_in sn) (tokens_by_lem text at t l e) ∙ ap result_by (token_same (symbol sn))

  pub result_other : (w : WrongToken) → Exactly text at (symbol sn) (Err w) → result_in sn (plain_at text at) ≡ formula
  unfolding result_by
  result_other place (t, l, e, p) = ap (result_in sn) (tokens_by_lem text at t l refl) ∙ go (lexeme_read t.lexeme) e
    where
      go : (o : Option tokens.Token) → is_token (symbol sn) o ≡ false → result_in sn (by text at t l o) ≡ formula
      go none q = refl
      go (some y) q = ap result_by (same_swap y (symbol sn) ∙ q)

-- the byte, by the parts of a declaration
module _ (sn : List ℕ) (ts : List tokens.Token) where
  pub name_here : (declared_here sn ts).name ≡ first_name ts
  name_here = go ts
    where
      go : (us : List tokens.Token) → (declared_here sn us).name ≡ first_name us
      go [] = refl
      go (u ∷ us) = refl
