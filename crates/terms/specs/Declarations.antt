-- The declared symbols, found in the tokens of a text again: each word declare-fun is followed by a symbol's name, its arguments in
-- brackets, and its result (02, E1). That these are the symbols of the commands is a law (proofs/DeclaredLaws). Assumes nothing.
use Rattle.std.specs.Prelude.{◌≡◌, ℕ, suc, ◌≤◌, ◌<◌, true, false, List, [], ◌∷◌, length, drop, Option, Some, None}
use Rattle.std.proofs.Math.Option.{none, some}
use Rattle.definitions.specs.Problem.Ops.{Sort, term, formula}
use Rattle.definitions.specs.Text.Ascii.{ascii}
use Rattle.definitions.specs.Text.Tokens.{Token, symbol, word, name_of, same_token}
use Rattle.definitions.specs.Text.Grammar.{Symbol, no_symbol}
use Rattle.definitions.specs.Text.Nodes.{byte_of}
use Rattle.definitions.specs.Text.Reader.{symbol_name}
use Rattle.theorems.specs.Texts.{plain_tokens}
use Rattle.terms.specs.Lexing.{tokens_at}
use Rattle.terms.specs.declared.tokens.Lexeme.{Lexeme}
use Rattle.terms.specs.declared.declarations.Counted.{Counted}

-- how many symbols stand first, and what stands after them and the token that ends them
abbrev pub arguments_in : List Token → ℕ
arguments_in [] = 0
arguments_in (t ∷ ts) = elim (symbol_name t) [ none ↦ 0 | some name ↦ suc (arguments_in ts) ]

abbrev pub after_arguments : List Token → List Token
after_arguments [] = []
after_arguments (t ∷ ts) = elim (symbol_name t) [ none ↦ ts | some name ↦ after_arguments ts ]

-- the result that the first token says
abbrev pub result_in : List ℕ → List Token → Sort
result_in sort_name [] = formula
result_in sort_name (t ∷ ts) = elim (same_token t (symbol sort_name)) [ true ↦ term | false ↦ formula ]

-- the symbol that is declared by the tokens after declare-fun
abbrev pub declared_here : List ℕ → List Token → Symbol
declared_here sort_name [] = no_symbol
declared_here sort_name (t ∷ ts) =
    let us = drop 1 ts in
    record { name = name_of t; arity = arguments_in us; result = result_in sort_name (after_arguments us) }

abbrev pub declared_in : List ℕ → List Token → List Symbol
declared_in sort_name [] = []
declared_in sort_name (t ∷ ts) =
    elim (same_token t (word (ascii "declare-fun"))) [
      | true ↦ declared_here sort_name ts ∷ declared_in sort_name ts
      | false ↦ declared_in sort_name ts
    ]

-- the tokens of a text from an offset on
abbrev pub plain_at : List ℕ → ℕ → List Token
plain_at text at = plain_tokens (tokens_at text at)

-- the name of the first token
abbrev pub first_name : List Token → List ℕ
first_name [] = []
first_name (t ∷ ts) = name_of t

-- the name of a lexeme; the empty one if it has none
abbrev pub name_in : Lexeme → List ℕ
name_in Lexeme.End = []
name_in Lexeme.Opening = []
name_in Lexeme.Closing = []
name_in Lexeme.Nought = []
name_in Lexeme.Wrong = []
name_in (Lexeme.Symbol name) = name.now
name_in (Lexeme.Word name) = name.now

-- the offset behind the first word declare-fun
abbrev pub DeclaresNext : List ℕ → ℕ → Option ℕ → Type 0
DeclaresNext text from (Some at) =
    (at ≤ length text)
    × ((sort_name : List ℕ) → declared_in sort_name (plain_at text from) ≡ declared_here sort_name (plain_at text at) ∷ declared_in sort_name (plain_at text at))
DeclaresNext text from None = (sort_name : List ℕ) → declared_in sort_name (plain_at text from) ≡ []

-- the offset behind the first token
pub record SkipsTo (text : List ℕ) (at to : ℕ) : Type 0 where
  pub behind : plain_at text to ≡ drop 1 (plain_at text at)
  pub inside : to ≤ length text

-- arguments are counted up to three, and the next offset is behind what ends them
pub record ArgumentsTo (text : List ℕ) (from : ℕ) (r : Counted) : Type 0 where
  pub few : r.arity ≤ 3
  pub inside : r.next ≤ length text
  pub counted : arguments_in (plain_at text from) ≤ 3 → r.arity ≡ arguments_in (plain_at text from)
  pub after : arguments_in (plain_at text from) ≤ 3 → plain_at text r.next ≡ after_arguments (plain_at text from)

-- the byte of the symbol that is declared by these tokens, if it takes at most three arguments
pub record ByteIs (sort_name : List ℕ) (ts : List Token) (byte : ℕ) : Type 0 where
  pub small : byte < 20
  pub is : (declared_here sort_name ts).arity ≤ 3 → byte ≡ byte_of (declared_here sort_name ts).arity (declared_here sort_name ts).result
