-- Tokens of a text are taken exactly when a text of the subset, depth aside, can go on with them (02, E1). Assumes nothing.
use mathlib.Core.Path.{◌≡◌, sym, ap, ◌∙◌, subst}
use mathlib.Core.Bool.{true}
use mathlib.Core.List.{List, [], ◌∷◌, ◌++◌, append_assoc}
use mathlib.Core.Option.{Option, none, some}
use Rattle.definitions.specs.Lists.{snoc, all}
use Rattle.definitions.specs.Text.Tokens.{Token}
use Rattle.definitions.specs.Text.Grammar.{Subset}
use Rattle.definitions.specs.Text.Reader.{State, start, step, is_finished}
use Rattle.theorems.specs.Texts.{GoesOn}
use Rattle.theorems.proofs.Laws.Tests.{some_same, none≢some}
use Rattle.theorems.proofs.Laws.All.{all_append}
use Rattle.theorems.proofs.Text.Taken.Runs.{runs, runs_append, runs_prefix}
use Rattle.theorems.proofs.Text.Taken.Spelling.{spellable, spell, spells, spell_bytes}
use Rattle.theorems.proofs.Text.Taken.Lexed.{lexed}
use Rattle.theorems.proofs.Text.Taken.Kept.Sound.{read_subset}
use Rattle.theorems.proofs.Text.Taken.Finished.Able.{finishes}
use Rattle.theorems.proofs.Text.Taken.Written.Scripts.{ending, run_script}

-- tokens that are taken begin a text of the subset: they are read out, and all of it is spelled
pub taken_goes_on : (ts : List Token) (y : State) → runs start ts ≡ some y → all lexed ts ≡ true → GoesOn ts
taken_goes_on ts y e l =
    let f = finishes ts y e l in
    let rest = f.1.rest in
    let b = all_append spellable ts rest f.0 f.1.spelled in
    let same = spells (ts ++ rest) b in
    record {
      text = spell (ts ++ rest);
      bytes = spell_bytes (ts ++ rest) b;
      rest = rest;
      begins = same;
      whole =
          subst Subset (sym same)
          (read_subset (ts ++ rest) f.1.last (runs_append start y ts rest e ∙ f.1.run) f.1.done);
    }

-- where a text goes on, it goes on at every earlier token, so the token at which none does is the first
pub goes_on_before : (ts us : List Token) → GoesOn (ts ++ us) → GoesOn ts
goes_on_before ts us g =
    record { text = g.text; bytes = g.bytes; rest = us ++ g.rest; begins = g.begins ∙ append_assoc ts us g.rest; whole = g.whole }

-- a text of the subset is read out
pub whole_taken : (ts : List Token) (s : Subset ts) → runs start ts ≡ some (ending s.script)
whole_taken ts s = ap (runs start) (sym s.writes) ∙ run_script s.script s.right

-- and the tokens that begin one are taken
pub goes_on_taken : (ts : List Token) → GoesOn ts → (y : State) × (runs start ts ≡ some y)
goes_on_taken ts g =
    runs_prefix start (ending g.whole.script) ts g.rest
    (ap (runs start) (sym g.begins) ∙ whole_taken _ g.whole)

-- where no token is taken, none goes on
pub not_taken : (ts : List Token) (y : State) (t : Token) → runs start ts ≡ some y → step y t ≡ none → GoesOn (snoc ts t) → ⊥
not_taken ts y t e n g =
    let r = goes_on_taken (snoc ts t) g in
    none≢some (sym (ap next n) ∙ sym (runs_append start y ts (t ∷ []) e) ∙ r.1)
  where
    next : Option State → Option State
    next o = elim o [ none ↦ none | some s ↦ some s ]

pub whole_finished : (ts : List Token) (y : State) → runs start ts ≡ some y → Subset ts → is_finished y.stage ≡ true
whole_finished ts y e s = ap (λ (x : State). is_finished x.stage) (some_same y (ending s.script) (sym e ∙ whole_taken ts s))
