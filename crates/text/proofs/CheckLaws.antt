-- Behind check-sat's bracket no token may come (02, E1: "check-sat last"). Assumes nothing.
use mathlib.Core.Path.{◌≡◌, refl, ap}
use Prim.Native.Nat.{ℕ}
use native.Mathlib.Omega.{arith}
use mathlib.Core.List.{List}
use mathlib.Core.Option.{none}
use Rattle.std.specs.Prelude.{Result}
use Rattle.definitions.specs.Operations.Answers.{given}
use Rattle.definitions.specs.Text.Tokens.{closing}
use Rattle.definitions.specs.Text.Tokens as tokens
use Rattle.definitions.specs.Text.Grammar.{Command}
use Rattle.definitions.specs.Text.Reader.{State, finished, step, script_read}
use Rattle.terms.specs.Lexing.{lexeme_read, Lexed}
use Rattle.terms.specs.Reading.{Reached, WrongAt, Exactly, ReachedBy}
use Rattle.terms.specs.declared.exact.WrongToken.{WrongToken}
use Rattle.terms.specs.declared.tokens.Token.{Token}
use Rattle.terms.specs.declared.tokens.Lexeme.{Lexeme}
use Rattle.terms.proofs.OtherLexemes.{some_token}
use Rattle.terms.proofs.ReachLaws.{stuck, finishes, exactly_on}
use Rattle.text.specs.Commands.{in_checking}

-- check-sat is read
abbrev pub in_finished : List ℕ → List Command → State
in_finished sn cs = record { sort_name = sn; commands = cs; stage = finished }

none_taken : (sn : List ℕ) (cs : List Command) (x : tokens.Token) → step (in_finished sn cs) x ≡ none
unfolding step
none_taken sn cs x = refl

module _ (text sn : List ℕ) (cs : List Command) (at : ℕ) where
  pub check_closes : (r : Result ℕ WrongToken) → Exactly text at closing r → Reached text (in_checking sn cs) at → ReachedBy text (in_finished sn cs) r
  check_closes r e reached = exactly_on text (in_checking sn cs) at closing finished r (omega arith) e reached

  module _ (r : Reached text (in_finished sn cs) at) (t : Token) (l : Lexed text at t) where
    pub nothing_follows : t.lexeme ≡ Lexeme.End → script_read text ≡ given (record { sort_name = sn; commands = cs })
    nothing_follows e = finishes text (in_finished sn cs) at r t l (ap lexeme_read e) refl

    pub something_follows : (t.lexeme ≡ Lexeme.End → ⊥) → WrongAt text t.place
    something_follows h = let (x, e) = some_token t.lexeme h in stuck text (in_finished sn cs) at r t l x e (none_taken sn cs x)
