-- The steps of the definition's pass at a command: the opening bracket, then the command's word (02, E1). Assumes nothing.
use mathlib.Core.Path.{◌≡◌, refl, sym, ap, ◌∙◌}
use Prim.Native.Nat.{ℕ}
use native.Mathlib.Omega.{arith}
use mathlib.Core.Bool.{Bool, true, false}
use mathlib.Core.List.{List, []}
use mathlib.Core.Option.{none, some}
use mathlib.Core.Option as maths
use lib.Dec.{eqb}
use lib.Pointwise.{pointwise}
use Rattle.std.specs.Prelude.{Option, None, Some, Result}
use Rattle.std.specs.Borrow.{Bor}
use Rattle.definitions.specs.Text.Ascii.{ascii, same_bytes}
use Rattle.definitions.specs.Text.Tokens.{opening, word, same_token}
use Rattle.definitions.specs.Text.Tokens as tokens
use Rattle.definitions.specs.Text.Grammar.{end, one_formula}
use Rattle.definitions.specs.Text.Grammar as grammar
use Rattle.definitions.specs.Text.Reader.{State, commanding, unless_not, step}
use Rattle.terms.specs.Lexing.{lexeme_read, Lexed}
use Rattle.terms.specs.Reading.{Reached, WrongAt, is_token, Exactly, ReachedBy}
use Rattle.terms.specs.Symbols.{at_command}
use Rattle.terms.specs.Functions.{in_declaring}
use Rattle.terms.specs.Terms.{in_list}
use Rattle.terms.specs.declared.exact.WrongToken.{WrongToken}
use Rattle.terms.specs.declared.tokens.Token.{Token}
use Rattle.terms.specs.declared.tokens.Lexeme.{Lexeme}
use Rattle.terms.proofs.ReachLaws.{stepped, moves, stuck, wrong_here, exactly_on}
use Rattle.terms.proofs.SameLaws.{equal_same}
use Rattle.terms.proofs.TermSteps.{same_swapped}
use Rattle.text.specs.Commands.{command_of, in_checking, behind}
use Rattle.text.specs.declared.commands.Command.{Command}

-- a command's bracket has opened
abbrev pub in_command : List ℕ → List grammar.Command → State
in_command sn cs = record { sort_name = sn; commands = cs; stage = commanding }

pub command_opens : (text sn : List ℕ) (cs : List grammar.Command) (at : ℕ) (r : Result ℕ WrongToken) → Exactly text at opening r
    → Reached text (at_command sn cs) at → ReachedBy text (in_command sn cs) r
command_opens text sn cs at r e reached = exactly_on text (at_command sn cs) at opening commanding r (omega arith) e reached

-- the state after a word, by which of the three it is
abbrev pub word_state : List ℕ → List grammar.Command → Bool → Bool → Bool → maths.Option State
word_state sn cs a b c =
    elim a [
      | true ↦ some (in_declaring sn cs)
      | false ↦ elim b [ true ↦ some (in_list sn cs one_formula end []) | false ↦ unless_not c (in_checking sn cs) ]
    ]

abbrev word_command : Bool → Bool → Bool → Option Command
word_command a b c =
    elim a [
      | true ↦ Some Command.Declare
      | false ↦ elim b [ true ↦ Some Command.Assert | false ↦ elim c [ true ↦ Some Command.Check | false ↦ None ] ]
    ]

pub none_of_them : (name : List ℕ) → pointwise eqb name (ascii "declare-fun") ≡ false → pointwise eqb name (ascii "assert") ≡ false
    → pointwise eqb name (ascii "check-sat") ≡ false → None ≡ command_of name
none_of_them name e f g =
    sym
    (ap
    (λ (z : Bool). word_command z (same_bytes name (ascii "assert")) (same_bytes name (ascii "check-sat")))
    (sym (equal_same name (ascii "declare-fun")) ∙ e)
    ∙ ap (λ (z : Bool). word_command false z (same_bytes name (ascii "check-sat"))) (sym (equal_same name (ascii "assert")) ∙ f)
    ∙ ap (λ (z : Bool). word_command false false z) (sym (equal_same name (ascii "check-sat")) ∙ g))

-- a lexeme that is no word
not_word : (l : Lexeme) → ((n : Bor (List ℕ)) → l ≡ Lexeme.Word n → ⊥) → (name : List ℕ) → is_token (word name) (lexeme_read l) ≡ false
not_word Lexeme.End h name = refl
not_word Lexeme.Opening h name = refl
not_word Lexeme.Closing h name = refl
not_word Lexeme.Nought h name = refl
not_word Lexeme.Wrong h name = refl
not_word (Lexeme.Symbol n) h name = refl
not_word (Lexeme.Word n) h name = absurd (h n refl)

module _ (text sn : List ℕ) (cs : List grammar.Command) (at : ℕ) (r : Reached text (in_command sn cs) at) (t : Token) (l : Lexed text at t) where
  -- the command of a word is read, or the word is wrong
  abbrev pub Chosen : Option Command → Type 0
  Chosen (Some c) = Reached text (behind sn cs c) t.next
  Chosen None = WrongAt text t.place

  word_by_lem : {a b c : Bool} (x : tokens.Token) → same_token x (word (ascii "declare-fun")) ≡ a → same_token x (word (ascii "assert")) ≡ b
      → same_token x (word (ascii "check-sat")) ≡ c → step (in_command sn cs) x ≡ word_state sn cs a b c
  unfolding step
  word_by_lem {a} {b} x e f g =
      ap (λ (z : Bool). word_state sn cs z (same_token x (word (ascii "assert"))) (same_token x (word (ascii "check-sat")))) e
      ∙ ap (λ (z : Bool). word_state sn cs a z (same_token x (word (ascii "check-sat")))) f
      ∙ ap (λ (z : Bool). word_state sn cs a b z) g

  pub word_read : (name : List ℕ) → lexeme_read t.lexeme ≡ some (word name) → Chosen (command_of name)
  word_read name e =
      go (same_bytes name (ascii "declare-fun")) (same_bytes name (ascii "assert")) (same_bytes name (ascii "check-sat")) (word_by_lem (word name) refl refl refl)
    where
      go : (a b c : Bool) → step (in_command sn cs) (word name) ≡ word_state sn cs a b c → Chosen (word_command a b c)
      go true b c s = moves text (in_command sn cs) at r t l (word name) (in_declaring sn cs) e s (omega arith)
      go false true c s = moves text (in_command sn cs) at r t l (word name) (in_list sn cs one_formula end []) e s (omega arith)
      go false false true s = moves text (in_command sn cs) at r t l (word name) (in_checking sn cs) e s (omega arith)
      go false false false s = stuck text (in_command sn cs) at r t l (word name) e s

  -- any other token is wrong
  pub no_command : ((n : Bor (List ℕ)) → t.lexeme ≡ Lexeme.Word n → ⊥) → WrongAt text t.place
  no_command h = wrong_here text (in_command sn cs) at r t l (go (lexeme_read t.lexeme) (not_word t.lexeme h)) refl
    where
      go : (o : maths.Option tokens.Token) → ((name : List ℕ) → is_token (word name) o ≡ false) → stepped (in_command sn cs) o ≡ none
      go none q = refl
      go (some x) q =
          let other : (name : List ℕ) → same_token x (word name) ≡ false = λ name. same_swapped x (word name) ∙ q name in
          word_by_lem x (other (ascii "declare-fun")) (other (ascii "assert")) (other (ascii "check-sat"))
