-- The steps of the definition's pass at a name: the sort's, and a function's (02, E1). Assumes nothing.
use mathlib.Core.Path.{◌≡◌, refl, ap}
use Prim.Native.Nat.{ℕ}
use native.Mathlib.Omega.{arith}
use mathlib.Core.Bool.{Bool, true, false}
use mathlib.Core.List.{List, [], ◌∷◌}
use mathlib.Core.Option.{Option, none, some}
use Rattle.definitions.specs.Text.Tokens.{opening, closing, nought, symbol}
use Rattle.definitions.specs.Text.Tokens as tokens
use Rattle.definitions.specs.Text.Grammar.{Command, symbols_in, new_function, new_sort}
use Rattle.definitions.specs.Text.Reader.{State, exact, naming, commanding, taking, start, goes, each, unless_not, named, new_named, step}
use Rattle.terms.specs.Lexing.{lexeme_read, Lexed}
use Rattle.terms.specs.Reading.{Reached, WrongAt, NoSymbol}
use Rattle.terms.specs.Functions.{in_declaring}
use Rattle.terms.specs.declared.tokens.Token.{Token}
use Rattle.terms.proofs.ReachLaws.{stepped, moves, stuck, wrong_here}

-- the sort's name is read
abbrev pub sort_read : List ℕ → State
sort_read name = record { sort_name = name; commands = []; stage = each (nought ∷ closing ∷ opening ∷ []) commanding }

module _ (text : List ℕ) (at : ℕ) (r : Reached text (goes start naming) at) (t : Token) (l : Lexed text at t) where
  sort_by : {b : Bool} (name : List ℕ) → new_sort name ≡ b → step (goes start naming) (symbol name) ≡ unless_not b (sort_read name)
  unfolding step
  sort_by name e = ap (λ (b : Bool). unless_not b (sort_read name)) e

  pub sort_named : (name : List ℕ) → lexeme_read t.lexeme ≡ some (symbol name) → new_sort name ≡ true → Reached text (sort_read name) t.next
  sort_named name e f = moves text (goes start naming) at r t l (symbol name) (sort_read name) e (sort_by name f) (omega arith)

  pub sort_taken : (name : List ℕ) → lexeme_read t.lexeme ≡ some (symbol name) → new_sort name ≡ false → WrongAt text t.place
  sort_taken name e f = stuck text (goes start naming) at r t l (symbol name) e (sort_by name f)

  pub no_sort_lem : NoSymbol (lexeme_read t.lexeme) → WrongAt text t.place
  unfolding step
  no_sort_lem f = wrong_here text (goes start naming) at r t l (go (lexeme_read t.lexeme) f) refl
    where
      go : (o : Option tokens.Token) → NoSymbol o → stepped (goes start naming) o ≡ none
      go none q = refl
      go (some x) q = ap (named (goes start naming)) q

-- a function's name is read
abbrev pub name_read : List ℕ → List Command → List ℕ → State
name_read sn cs name = record { sort_name = sn; commands = cs; stage = exact opening (taking name 0) }

module _ (text sn : List ℕ) (cs : List Command) (at : ℕ) (r : Reached text (in_declaring sn cs) at) (t : Token) (l : Lexed text at t) where
  name_by : {b : Bool} (name : List ℕ) → new_function (symbols_in cs) name ≡ b → step (in_declaring sn cs) (symbol name) ≡ unless_not b (name_read sn cs name)
  unfolding step
  name_by name e = ap (λ (b : Bool). unless_not b (name_read sn cs name)) e

  pub function_named : (name : List ℕ) → lexeme_read t.lexeme ≡ some (symbol name) → new_function (symbols_in cs) name ≡ true
      → Reached text (name_read sn cs name) t.next
  function_named name e f = moves text (in_declaring sn cs) at r t l (symbol name) (name_read sn cs name) e (name_by name f) (omega arith)

  pub function_taken : (name : List ℕ) → lexeme_read t.lexeme ≡ some (symbol name) → new_function (symbols_in cs) name ≡ false → WrongAt text t.place
  function_taken name e f = stuck text (in_declaring sn cs) at r t l (symbol name) e (name_by name f)

  pub no_function : NoSymbol (lexeme_read t.lexeme) → WrongAt text t.place
  unfolding step
  no_function f = wrong_here text (in_declaring sn cs) at r t l (go (lexeme_read t.lexeme) f) refl
    where
      go : (o : Option tokens.Token) → NoSymbol o → stepped (in_declaring sn cs) o ≡ none
      go none q = refl
      go (some x) q = ap (new_named (in_declaring sn cs)) q
