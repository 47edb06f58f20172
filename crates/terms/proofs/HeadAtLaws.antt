-- The head after a bracket: only a symbol names one. Assumes nothing.
use mathlib.Core.Path.{◌≡◌, ap, subst, sym}
use Prim.Native.Nat.{ℕ}
use mathlib.Core.List.{List}
use mathlib.Core.Option.{Option, none, some}
use Rattle.std.specs.Prelude.{None, Some}
use Rattle.std.specs.Prelude as code
use Rattle.std.specs.Borrow.{Bor}
use Rattle.definitions.specs.Problem.Ops as ops
use Rattle.definitions.specs.Text.Tokens.{symbol}
use Rattle.definitions.specs.Text.Tokens as tokens
use Rattle.definitions.specs.Text.Grammar.{Symbol, symbols_in}
use Rattle.definitions.specs.Text.Heads.{bracketed}
use Rattle.terms.specs.Lexing.{lexeme_read}
use Rattle.terms.specs.Reading.{NoSymbol}
use Rattle.problem.specs.Wanted.{sort_read}
use Rattle.terms.specs.Heads.{HeadedIs, Heads}
use Rattle.terms.specs.Following.{NoHead, HeadIs, HeadsAt}
use Rattle.terms.specs.declared.declared.Declared.{Declared}
use Rattle.terms.specs.declared.declared.Shelved.{Shelved}
use Rattle.terms.specs.declared.heads.Head.{Head}
use Rattle.problem.specs.declared.ops.Sort.{Sort}
use Rattle.terms.specs.declared.tokens.Lexeme.{Lexeme}
use Rattle.terms.proofs.HeadLaws.{bracketed_none}

no_head : (sig : List Symbol) (s : ops.Sort) (o : Option tokens.Token) → NoSymbol o → NoHead sig s o
no_head sig s none f = tt
no_head sig s (some x) f = bracketed_none sig s x f

headed : (sig : List Symbol) (s : ops.Sort) (x : tokens.Token) (o : Option tokens.Token) → o ≡ some x → (r : code.Option Head) → HeadedIs sig (bracketed sig s x) r → HeadIs sig s o r
headed sig s x o e (Some h) i = (x, e, i.0, i.1)
headed sig s x o e None i = subst (NoHead sig s) (sym e) i

module _ (text : List ℕ) (shelf : List Shelved) (d : Declared) (s : Sort) where
  pub none_at : (l : Lexeme) → NoSymbol (lexeme_read l) → HeadsAt text shelf d l s None
  none_at l f = record { small = tt; head = λ sn cs symbols. no_head (symbols_in cs) (sort_read s) (lexeme_read l) f }

  pub named_there : (l : Lexeme) (name : Bor (List ℕ)) → l ≡ Lexeme.Symbol name → (r : code.Option Head)
      → Heads (λ sig. bracketed sig (sort_read s) (symbol name.now)) text shelf d r → HeadsAt text shelf d l s r
  named_there l name e r heads =
      record {
        small = heads.small;
        head = λ sn cs symbols.
            headed (symbols_in cs) (sort_read s) (symbol name.now) (lexeme_read l) (ap lexeme_read e) r (heads.head sn cs symbols);
      }
