-- What follows in a list of arguments, and the head after a bracket (02, E1, 'Where 14 stands' of docs/TEXT.md). Assumes nothing.
use Rattle.std.specs.Prelude.{◌≡◌, ℕ, min, true, false, List, ◌⊎◌, Option, None, Some, Result, Ok, Err}
use Rattle.std.proofs.Math.Option.{none, some}
use Rattle.std.proofs.Math.Option as maths
use Rattle.definitions.specs.Text.Tokens.{closing}
use Rattle.definitions.specs.Text.Tokens as tokens
use Rattle.definitions.specs.Text.Grammar.{Symbol, Command, symbols_in, wanted_by, next, ready}
use Rattle.definitions.specs.Text.Grammar as grammar
use Rattle.definitions.specs.Text.Heads.{bracketed}
use Rattle.definitions.specs.Problem.Ops as ops
use Rattle.definitions.specs.declared.Refusal.{Refusal}
use Rattle.terms.specs.Lexing.{lexeme_read}
use Rattle.terms.specs.Reading.{is_token}
use Rattle.problem.specs.Wanted.{sort_read}
use Rattle.terms.specs.Symbols.{Symbols}
use Rattle.terms.specs.Heads.{head_read, ArityIs, HeadedSmall, left_after}
use Rattle.terms.specs.declared.declared.Declared.{Declared}
use Rattle.problem.specs.declared.ops.Sort.{Sort}
use Rattle.terms.specs.declared.declared.Shelved.{Shelved}
use Rattle.terms.specs.declared.tokens.Lexeme.{Lexeme}
use Rattle.terms.specs.declared.tokens.Token.{Token}
use Rattle.terms.specs.declared.heads.Head.{Head}

-- no token, or one that names no head
abbrev pub NoHead : List Symbol → ops.Sort → maths.Option tokens.Token → Type 0
NoHead sig s none = Unit {0}
NoHead sig s (some x) = bracketed sig s x ≡ none

-- a token names this head after a bracket
abbrev pub HeadIs : List Symbol → ops.Sort → maths.Option tokens.Token → Option Head → Type 0
HeadIs sig s o (Some h) = (x : tokens.Token) × (o ≡ some x) × (bracketed sig s x ≡ some (head_read h)) × ArityIs sig h
HeadIs sig s o None = NoHead sig s o

pub record HeadsAt (text : List ℕ) (shelf : List Shelved) (d : Declared) (l : Lexeme) (s : Sort) (r : Option Head) : Type 0 where
  pub small : HeadedSmall r
  pub head : (sn : List ℕ) (cs : List Command) → Symbols text sn cs shelf d → HeadIs (symbols_in cs) (sort_read s) (lexeme_read l) r

-- a token will not do where such arguments are wanted
abbrev pub NoNext : maths.Option tokens.Token → grammar.Wanted → Type 0
NoNext o w = (o ≡ none) ⊎ (((o ≡ some closing) × (ready w ≡ false)) ⊎ ((is_token closing o ≡ false) × (next w ≡ none)))

-- what a token says where such arguments are wanted: an argument, the list's end, or that it is refused
abbrev pub NextIs : Token → grammar.Wanted → Result (Option Sort) Refusal → Type 0
NextIs t w (Ok (Some s)) = (is_token closing (lexeme_read t.lexeme) ≡ false) × (next w ≡ some (sort_read s))
NextIs t w (Ok None) = (lexeme_read t.lexeme ≡ some closing) × (ready w ≡ true)
NextIs t w (Err refusal) = (refusal ≡ Refusal.WrongToken t.place) × NoNext (lexeme_read t.lexeme) w

-- whatever is read, an argument or the end is a token
abbrev pub NextSound : Lexeme → Result (Option Sort) Refusal → Type 0
NextSound l (Ok o) = (x : tokens.Token) × (lexeme_read l ≡ some x)
NextSound l (Err refusal) = Unit {0}

pub record Follows (head : Head) (seen : ℕ) (t : Token) (r : Result (Option Sort) Refusal) : Type 0 where
  pub sound : NextSound t.lexeme r
  pub says : (sig : List Symbol) → ArityIs sig head → (n : ℕ) → seen ≡ min n 3
      → NextIs t (left_after n (wanted_by sig (head_read head))) r
