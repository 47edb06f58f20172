-- One pass over the tokens: the script of a text, or its first refusal 14 or 15 (02, E1). A state says what is read so far and
-- what may come; a token is taken if there is a state after it. Assumes nothing.
use Rattle.std.specs.Prelude.{ℕ, suc, List, [], ◌∷◌, Bool, true, false, ◌&&◌, length, ltb}
use Rattle.std.proofs.Math.Option.{Option, none, some}
use Rattle.definitions.specs.Lists.{snoc}
use Rattle.definitions.specs.Problem.Ops.{Sort, term, formula}
use Rattle.definitions.specs.Problem.Check.{refuse}
use Rattle.definitions.specs.Operations.Answers.{Answer, refused, given}
use Rattle.definitions.specs.Text.Ascii.{ascii}
use Rattle.definitions.specs.Text.Tokens.{Token, opening, closing, nought, wrong, symbol, word, Placed, tokens_of, same_token}
use Rattle.definitions.specs.Text.Grammar.{Symbol, Head, Terms, end, call, Command, declare, assert, Script, symbols_in, Wanted, wanted_by, next, left, ready, one_formula, new_function, new_sort, sort_written, HEADER}
use Rattle.definitions.specs.Text.Heads.{bare, bracketed}

-- a bracket that is open: its head, and the list in which it stands, as wanted and as read so far
pub record Opened : Type 0 where
  pub head : Head
  pub wanted : Wanted
  pub before : Terms

-- what may come: this very token, and then; the sort's name; a command; a function's name; its arguments after so many; its
-- result; a term or a closing bracket, in a list that is wanted and read so far, inside these open brackets, innermost first;
-- the head of a term of this sort whose bracket has just opened in such a list; nothing more
pub data Stage : Type 0 where
  exact : Token → Stage → Stage
  naming commanding declaring finished : Stage
  taking giving : List ℕ → ℕ → Stage
  inside : Wanted → Terms → List Opened → Stage
  heading : Sort → Wanted → Terms → List Opened → Stage

pub record State : Type 0 where
  pub sort_name : List ℕ
  pub commands : List Command
  pub stage : Stage

abbrev pub signature : State → List Symbol
signature st = symbols_in st.commands

-- these tokens, and then
abbrev pub each : List Token → Stage → Stage
each [] then = then
each (t ∷ ts) then = exact t (each ts then)

abbrev pub start : State
start = record { sort_name = []; commands = []; stage = each HEADER naming }

abbrev pub goes : State → Stage → State
goes st stage = record { sort_name = st.sort_name; commands = st.commands; stage = stage }

-- the state after one more command, its closing bracket read
abbrev pub added : State → Command → State
added st c = record { sort_name = st.sort_name; commands = snoc st.commands c; stage = exact opening commanding }

-- a row with one more term at its end
abbrev pub put : Terms → Head → Terms → Terms
put end h args = call h args end
put (call g inner rest) h args = call g inner (put rest h args)

-- a closing bracket ends the innermost list, if nothing is missing: that of the assert, or that of a term
abbrev pub closed : State → Wanted → Terms → List Opened → Option State
closed st w row outer =
    elim (ready w) [
      | true ↦
          elim outer [
            | [] ↦ some (added st (assert row))
            | o ∷ os ↦ some (goes st (inside (left o.wanted) (put o.before o.head row) os))
          ]
      | false ↦ none
    ]

-- a term that begins where one of this sort is wanted: a bare one, or a bracket
abbrev pub begun : State → Wanted → Terms → List Opened → Token → Option Sort → Option State
begun st w row outer t none = none
begun st w row outer t (some s) =
    elim (same_token t opening) [
      | true ↦ some (goes st (heading s w row outer))
      | false ↦
          elim (bare (signature st) s t) [
            | none ↦ none
            | some h ↦ some (goes st (inside (left w) (put row h end) outer))
          ]
    ]

-- the state where a test passes
abbrev pub unless_not : Bool → State → Option State
unless_not true st = some st
unless_not false st = none

-- the name of a symbol
abbrev pub symbol_name : Token → Option (List ℕ)
symbol_name opening = none
symbol_name closing = none
symbol_name nought = none
symbol_name wrong = none
symbol_name (symbol name) = some name
symbol_name (word name) = none

abbrev pub named : State → Option (List ℕ) → Option State
named st none = none
named st (some name) =
    unless_not (new_sort name)
    (record { sort_name = name; commands = st.commands; stage = each (nought ∷ closing ∷ opening ∷ []) commanding })

abbrev pub new_named : State → Option (List ℕ) → Option State
new_named st none = none
new_named st (some name) = unless_not (new_function (signature st) name) (goes st (exact opening (taking name 0)))

-- the commands
abbrev pub commanded : State → Token → Option State
commanded st t =
    elim (same_token t (word (ascii "declare-fun"))) [
      | true ↦ some (goes st declaring)
      | false ↦
          elim (same_token t (word (ascii "assert"))) [
            | true ↦ some (goes st (inside one_formula end []))
            | false ↦ unless_not (same_token t (word (ascii "check-sat"))) (goes st (exact closing finished))
          ]
    ]

-- the state after the result of a declaration
abbrev pub gave : State → List ℕ → ℕ → Sort → State
gave st name k s =
    record {
      sort_name = st.sort_name;
      commands = snoc st.commands (declare (record { name = name; arity = k; result = s }));
      stage = exact closing (exact opening commanding);
    }

abbrev pub step_at : State → Stage → Token → Option State
step_at st (exact x then) t = unless_not (same_token x t) (goes st then)
step_at st naming t = named st (symbol_name t)
step_at st commanding t = commanded st t
step_at st declaring t = new_named st (symbol_name t)
step_at st finished t = none
step_at st (taking name k) t =
    elim (same_token t closing) [
      | true ↦ some (goes st (giving name k))
      | false ↦ unless_not (ltb k 3 && same_token t (symbol st.sort_name)) (goes st (taking name (suc k)))
    ]
step_at st (giving name k) t =
    elim (same_token t (sort_written st.sort_name term)) [
      | true ↦ some (gave st name k term)
      | false ↦ unless_not (same_token t (sort_written st.sort_name formula)) (gave st name k formula)
    ]
step_at st (inside w row outer) t = elim (same_token t closing) [ true ↦ closed st w row outer | false ↦ begun st w row outer t (next w) ]
step_at st (heading s w row outer) t =
    elim (bracketed (signature st) s t) [
      | none ↦ none
      | some h ↦ some (goes st (inside (wanted_by (signature st) h) end (record { head = h; wanted = w; before = row } ∷ outer)))
    ]

-- the state after a token; none if no text of the subset goes on so
unfoldable pub step : State → Token → Option State
step st t = step_at st st.stage t

-- how deep a state is in brackets of its term: "a term's outer one being level 1"
abbrev pub level_of : Stage → ℕ
level_of (exact x then) = 0
level_of naming = 0
level_of commanding = 0
level_of declaring = 0
level_of finished = 0
level_of (taking name k) = 0
level_of (giving name k) = 0
level_of (inside w row outer) = length outer
level_of (heading s w row outer) = suc (length outer)

abbrev pub is_finished : Stage → Bool
is_finished (exact x then) = false
is_finished naming = false
is_finished commanding = false
is_finished declaring = false
is_finished finished = true
is_finished (taking name k) = false
is_finished (giving name k) = false
is_finished (inside w row outer) = false
is_finished (heading s w row outer) = false

abbrev pub script_of : State → Script
script_of st = record { sort_name = st.sort_name; commands = st.commands }

-- from a state on: 14 at the first token that is not taken, or at the end of the text; 15 at the bracket that opens level 65;
-- "the earlier one, 14 if equal"
abbrev pub read_from : State → ℕ → List Placed → Answer Script
read_from st last [] = elim (is_finished st.stage) [ true ↦ given (script_of st) | false ↦ refused (refuse 14 last) ]
read_from st last (p ∷ ps) =
    elim (step st p.token) [
      | none ↦ refused (refuse 14 p.place)
      | some st' ↦
          elim (ltb 64 (level_of st'.stage)) [ true ↦ refused (refuse 15 p.place) | false ↦ read_from st' last ps ]
    ]

unfoldable pub script_read : List ℕ → Answer Script
script_read s = read_from start (length s) (tokens_of s)
