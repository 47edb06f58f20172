-- One token more of a text that is read so far: it is taken, and the state is the next; or it is not, and the text is refused there
-- (02, E1: 14, 15, "the earlier one, 14 if equal"). Assumes nothing.
use mathlib.Core.Path.{◌≡◌, refl, sym, ap, ◌∙◌, subst}
use Prim.Native.Nat.{ℕ, ◌+◌, ◌≤◌, ◌<◌}
use native.Mathlib.Numerals.{add-one}
use native.Mathlib.Omega.{arith}
use mathlib.Core.Bool.{Bool, true, false}
use mathlib.Core.List.{List, [], ◌∷◌, ◌++◌, map, append_assoc}
use mathlib.Core.Option.{Option, none, some}
use lib.ListN.{length, get_or, drop, drop_of_length-le}
use lib.Seq.{drop-cons}
use lib.Dec.{ltb}
use borrow.Author.Tests.{lt-ltb, le-ltb}
use Rattle.std.specs.Prelude.{Result, Ok, Err}
use Rattle.definitions.specs.Lists.{snoc}
use Rattle.definitions.specs.Problem.Check.{refuse}
use Rattle.definitions.specs.Operations.Answers.{Answer, refused, given}
use Rattle.definitions.specs.Text.Tokens.{Placed, tokens_of, same_token}
use Rattle.definitions.specs.Text.Tokens as tokens
use Rattle.definitions.specs.Text.Grammar.{Script}
use Rattle.definitions.specs.Text.Reader.{State, Stage, exact, start, goes, each, unless_not, step, level_of, is_finished, script_of, read_from, script_read}
use Rattle.theorems.specs.Texts.{plain_tokens}
use Rattle.theorems.proofs.Text.Taken.Runs.{runs, runs_step, runs_append, token_same}
use Rattle.theorems.proofs.Text.Taken.Told.{plain_append}
use Rattle.terms.specs.Lexing.{lexeme_read, tokens_at, led, Lexed}
use Rattle.terms.specs.Reading.{Reached, WrongAt, is_token, Exactly, ReachedBy, due_read}
use Rattle.terms.specs.declared.tokens.Token.{Token}
use Rattle.terms.specs.declared.exact.WrongToken.{WrongToken}
use Rattle.terms.specs.declared.exact.Due.{Due}
use Rattle.terms.proofs.LexemeLaws.{end_place}

-- before anything is read
pub reached_start : (text : List ℕ) → Reached text start 0
unfolding tokens_of tokens_at script_read
reached_start text = record { before = []; split = refl; ran = refl; answer = refl }

-- the next state, if there is a token and it is taken
abbrev pub stepped : State → Option tokens.Token → Option State
stepped st none = none
stepped st (some x) = step st x

module _ (text : List ℕ) (st : State) (at : ℕ) (r : Reached text st at) (t : Token) (l : Lexed text at t) where
  -- what is read from here on, by the first token
  abbrev read_by : Option tokens.Token → Answer Script
  read_by o = read_from st (length text) (led text t.place t.next o)

  answer_by : {o : Option tokens.Token} → lexeme_read t.lexeme ≡ o → script_read text ≡ read_by o
  answer_by e = r.answer ∙ ap (read_from st (length text)) l.tokens_are ∙ ap read_by e

  abbrev read_on : Option State → Answer Script
  read_on o =
      elim o [
        | none ↦ refused (refuse 14 t.place)
        | some st' ↦ elim (ltb 64 (level_of st'.stage)) [ true ↦ refused (refuse 15 t.place) | false ↦ read_from st' (length text) (tokens_at text t.next) ]
      ]

  on_by : {o : Option State} (x : tokens.Token) → lexeme_read t.lexeme ≡ some x → step st x ≡ o → script_read text ≡ read_on o
  on_by x e s = answer_by e ∙ ap read_on s

  pub moves : (x : tokens.Token) (st' : State) → lexeme_read t.lexeme ≡ some x → step st x ≡ some st' → level_of st'.stage ≤ 64
      → Reached text st' t.next
  moves x st' e s h =
      let p : Placed = record { token = x; place = t.place } in
      record {
        before = snoc r.before p;
        split =
            r.split
            ∙ ap (λ (ps : List Placed). r.before ++ ps) (l.tokens_are ∙ ap (led text t.place t.next) e)
            ∙ sym (append_assoc r.before (p ∷ []) (tokens_at text t.next));
        ran =
            ap (runs start) (plain_append r.before (p ∷ []))
            ∙ runs_append start st (plain_tokens r.before) (x ∷ []) r.ran
            ∙ runs_step st st' x [] s;
        answer =
            on_by x e s
            ∙ ap (λ (b : Bool). elim b [ true ↦ refused (refuse 15 t.place) | false ↦ read_from st' (length text) (tokens_at text t.next) ])
            (le-ltb 64 (level_of st'.stage) h);
      }

  -- 14
  pub stuck : (x : tokens.Token) → lexeme_read t.lexeme ≡ some x → step st x ≡ none → WrongAt text t.place
  stuck x e s = on_by x e s

  pub ends : t.place ≡ length text → lexeme_read t.lexeme ≡ none → is_finished st.stage ≡ false → WrongAt text t.place
  ends p e f =
      answer_by e
      ∙ ap (λ (b : Bool). elim b as (λ _. Answer Script) [ true ↦ given (script_of st) | false ↦ refused (refuse 14 (length text)) ]) f
      ∙ ap (λ (k : ℕ). refused (refuse 14 k)) (sym p)

  -- 15
  pub deep : (x : tokens.Token) (st' : State) → lexeme_read t.lexeme ≡ some x → step st x ≡ some st' → 64 < level_of st'.stage
      → script_read text ≡ refused (refuse 15 t.place)
  deep x st' e s h =
      on_by x e s
      ∙ ap (λ (b : Bool). elim b [ true ↦ refused (refuse 15 t.place) | false ↦ read_from st' (length text) (tokens_at text t.next) ])
      (lt-ltb 64 (level_of st'.stage) h)

  -- the text is read out
  pub finishes : lexeme_read t.lexeme ≡ none → is_finished st.stage ≡ true → script_read text ≡ given (script_of st)
  finishes e f =
      answer_by e ∙ ap (λ (b : Bool). elim b as (λ _. Answer Script) [ true ↦ given (script_of st) | false ↦ refused (refuse 14 (length text)) ]) f

-- whatever stands there is wrong: the end of the text, or a token that is not taken
pub wrong_here : (text : List ℕ) (st : State) (at : ℕ) → Reached text st at → (t : Token) → Lexed text at t
    → stepped st (lexeme_read t.lexeme) ≡ none → is_finished st.stage ≡ false → WrongAt text t.place
wrong_here text st at r t l s f = go (lexeme_read t.lexeme) refl s
  where
    go : (o : Option tokens.Token) → lexeme_read t.lexeme ≡ o → stepped st o ≡ none → WrongAt text t.place
    go none e q = ends text st at r t l (end_place text at t t.lexeme l.fits e) e f
    go (some x) e q = stuck text st at r t l x e q

-- a token that must come
module _ (text : List ℕ) (st : State) (at : ℕ) (x : tokens.Token) (then : Stage) (r : Reached text (goes st (exact x then)) at) where
  exact_by : {b : Bool} (y : tokens.Token) → same_token x y ≡ b → step (goes st (exact x then)) y ≡ unless_not b (goes st then)
  unfolding step
  exact_by y e = ap (λ (b : Bool). unless_not b (goes st then)) e

  pub exact_moves : (next : ℕ) → level_of then ≤ 64 → Exactly text at x (Ok next) → Reached text (goes st then) next
  exact_moves next h (t, l, e, n) =
      subst (Reached text (goes st then)) n (moves text (goes st (exact x then)) at r t l x (goes st then) e (exact_by x (token_same x)) h)

  pub exact_wrong : (w : WrongToken) → Exactly text at x (Err w) → WrongAt text w.0
  exact_wrong w (t, l, e, p) =
      subst (WrongAt text) p (wrong_here text (goes st (exact x then)) at r t l (go (lexeme_read t.lexeme) e) refl)
    where
      go : (o : Option tokens.Token) → is_token x o ≡ false → stepped (goes st (exact x then)) o ≡ none
      go none q = refl
      go (some y) q = exact_by y q

-- both at once
pub exactly_on : (text : List ℕ) (st : State) (at : ℕ) (x : tokens.Token) (then : Stage) (r : Result ℕ WrongToken) → level_of then ≤ 64
    → Exactly text at x r → Reached text (goes st (exact x then)) at → ReachedBy text (goes st then) r
exactly_on text st at x then (Ok next) h e reached = exact_moves text st at x then reached next h e
exactly_on text st at x then (Err w) h e reached = exact_wrong text st at x then reached w e

-- tokens that must come, from the k-th on
pub dues_next : (dues : List Due) (k : ℕ) → k < length dues
    → map due_read (drop k dues) ≡ due_read (get_or dues k Due.Opening) ∷ map due_read (drop (k + 1) dues)
dues_next dues k h =
    ap (map due_read) (drop-cons dues k Due.Opening h ∙ ap (λ (n : ℕ). get_or dues k Due.Opening ∷ drop n dues) (sym (add-one k)))

pub dues_end : (dues : List Due) (k : ℕ) → length dues ≤ k → map due_read (drop k dues) ≡ []
dues_end dues k h = ap (map due_read) (drop_of_length-le dues {i = k} h)

pub level_each : (ts : List tokens.Token) (then : Stage) → level_of then ≤ 64 → level_of (each ts then) ≤ 64
level_each [] then h = h
level_each (t ∷ ts) then h = omega arith
