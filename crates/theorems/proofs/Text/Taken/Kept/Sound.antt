-- Each token that is taken keeps what a state says of the tokens that led to it, so a text that is read out is of the subset:
-- its tokens write the script that is read, and the script is right (02, E1). Assumes nothing.
use mathlib.Core.Path.{◌≡◌, refl, sym, ap, ◌∙◌, subst}
use Prim.Native.Nat.{ℕ}
use mathlib.Core.Bool.{Bool, true, false, not, ◌&&◌, false≢true}
use mathlib.Core.List.{List, [], ◌∷◌, ◌++◌, append_assoc, append-nil}
use mathlib.Core.Option.{Option, none, some}
use borrow.Author.Tests.{not-true}
use Rattle.definitions.specs.Lists.{snoc, all}
use Rattle.definitions.specs.Problem.Ops.{Sort, term, formula, same_sort}
use Rattle.theorems.proofs.Laws.Tests.{and_left, and_right, and_intro, none≢some}
use Rattle.definitions.specs.Text.Tokens.{Token, opening, closing, same_token}
use Rattle.definitions.specs.Text.Grammar.{Symbol, Head, Terms, end, Command, assert, symbols_in, Wanted, wanted_by, sort_of_head, next, left, ready, is_wanted, head_right, one_formula, new_sort, commands_right, script_right, head_token, terms_written, written, Subset}
use Rattle.definitions.specs.Text.Reader.{Opened, Stage, exact, naming, commanding, declaring, finished, taking, giving, inside, heading, State, start, goes, added, put, closed, begun, step_at, step, is_finished, script_of}
use Rattle.definitions.specs.Text.Heads.{heads, inhabited, names, bare, bracketed}
use Rattle.theorems.proofs.Text.Taken.Runs.{same_token_lem, runs, first_passes}
use Rattle.theorems.proofs.Text.Taken.Kept.Invariant.{remaining, row_whole, written_put, right_snoc, base, base_snoc, open_written, ASSERT, Inv, stack_put, in_brackets}
use Rattle.theorems.proofs.Text.Taken.Kept.Commands.{InvS, arrive, onto, keep_exact, keep_naming, keep_commanding, keep_declaring, keep_taking, keep_giving}

sort_same : (s r : Sort) → same_sort r s ≡ true → same_sort s r ≡ true
sort_same term term e = refl
sort_same term formula e = e
sort_same formula term e = e
sort_same formula formula e = refl

module _ (st y : State) (t : Token) (ts : List Token) where
  abbrev sn : List ℕ
  sn = st.sort_name

  abbrev cs : List Command
  cs = st.commands

  abbrev sig : List Symbol
  sig = symbols_in cs

  -- the tokens of what is open
  abbrev opened : Terms → List Opened → List Token
  opened row outer = open_written sig outer ++ terms_written sig row

  -- what `names` says
  wanted_of_lem : (s : Sort) (w : Wanted) (h : Head) → next w ≡ some s → same_sort (sort_of_head h) s ≡ true → is_wanted (next w) (sort_of_head h) ≡ true
  wanted_of_lem s w h p q = rw p (sort_same s (sort_of_head h) q)

  pub record Named (s : Sort) (h : Head) : Type 0 where
    pub right : head_right sig h ≡ true
    pub token : t ≡ head_token sig h
    pub sort : same_sort (sort_of_head h) s ≡ true

  named_of : (s : Sort) (h : Head) → names sig s t h ≡ true → Named s h
  named_of s h e =
      let A = head_right sig h in
      let B = same_token t (head_token sig h) in
      let C = same_sort (sort_of_head h) s in
      let ab = and_left (A && B) C e in
      record { right = and_left A B ab; token = same_token_lem t (head_token sig h) (and_right A B ab); sort = and_right (A && B) C e }

  keep_begun : (w : Wanted) (row : Terms) (outer : List Opened) (o : Option Sort) → next w ≡ o → Inv sn cs (inside w row outer) ts
      → begun st w row outer t o ≡ some y → InvS y (snoc ts t)
  keep_begun w row outer none n i e = absurd (none≢some e)
  keep_begun w row outer (some s) n i e = go (same_token t opening) refl e
    where
      plain : (h : Head) → (names sig s t h && ready (wanted_by sig h)) ≡ true → InvS (goes st (inside (left w) (put row h end) outer)) (snoc ts t)
      plain h q =
          let k = named_of s h (and_left (names sig s t h) (ready (wanted_by sig h)) q) in (
            i.0,
            stack_put sig w row outer h end i.1 k.right (wanted_of_lem s w h n k.sort) (and_right (names sig s t h) (ready (wanted_by sig h)) q),
            onto (base sn cs) (opening ∷ ASSERT ∷ opened row outer) ts t i.2
                ∙ ap (λ (l : List Token). base sn cs ++ (opening ∷ ASSERT ∷ l))
                (append_assoc (open_written sig outer) (terms_written sig row) (t ∷ [])
                ∙ ap (λ (u : Token). open_written sig outer ++ (terms_written sig row ++ (u ∷ []))) k.token
                ∙ ap (λ (l : List Token). open_written sig outer ++ l) (sym (written_put sig row h end))),
          )

      found : (h? : Option Head) → bare sig s t ≡ h?
          → ◌≡◌ {A = Option State} (elim h? [ none ↦ none | some h ↦ some (goes st (inside (left w) (put row h end) outer)) ]) (some y) → InvS y (snoc ts t)
      found none p e' = absurd (none≢some e')
      found (some h) p e' =
          arrive (goes st (inside (left w) (put row h end) outer)) y (snoc ts t)
          (plain h (first_passes (λ h. names sig s t h && ready (wanted_by sig h)) (heads sig) h p)) e'

      go : (b : Bool) → same_token t opening ≡ b
          → ◌≡◌ {A = Option State}
          (elim b [
            | true ↦ some (goes st (heading s w row outer))
            | false ↦ elim (bare sig s t) [ none ↦ none | some h ↦ some (goes st (inside (left w) (put row h end) outer)) ]
          ])
          (some y)
          → InvS y (snoc ts t)
      go true p e' =
          arrive (goes st (heading s w row outer)) y (snoc ts t)
          (i.0, i.1, n, onto (base sn cs) (opening ∷ ASSERT ∷ opened row outer) ts t i.2 ∙ ap (λ (u : Token). base sn cs ++ (opening ∷ ASSERT ∷ snoc (opened row outer) u)) (same_token_lem t opening p)) e'
      go false p e' = found (bare sig s t) refl e'

  keep_closed : (w : Wanted) (row : Terms) (outer : List Opened) → same_token t closing ≡ true → Inv sn cs (inside w row outer) ts
      → closed st w row outer ≡ some y → InvS y (snoc ts t)
  keep_closed w row outer c i e = go (ready w) refl outer i e
    where
      tokens : (outer : List Opened) → Inv sn cs (inside w row outer) ts → snoc ts t ≡ base sn cs ++ (opening ∷ ASSERT ∷ snoc (opened row outer) closing)
      tokens outer i =
          onto (base sn cs) (opening ∷ ASSERT ∷ opened row outer) ts t i.2
          ∙ ap (λ (u : Token). base sn cs ++ (opening ∷ ASSERT ∷ snoc (opened row outer) u)) (same_token_lem t closing c)

      whole : ready w ≡ true → Inv sn cs (inside w row []) ts → InvS (added st (assert row)) (snoc ts t)
      whole r i =
          let right = row_whole sig one_formula row i.1.0 (ap ready (sym i.1.1) ∙ r) in (
            (i.0.0, right_snoc cs (assert row) i.0.1 right),
            ap (λ (l : List Token). snoc l opening) (tokens [] i ∙ sym (base_snoc sn cs (assert row))),
          )

      inner : (o : Opened) (os : List Opened) → ready w ≡ true → Inv sn cs (inside w row (o ∷ os)) ts
          → InvS (goes st (inside (left o.wanted) (put o.before o.head row) os)) (snoc ts t)
      inner o os r i =
          let v = wanted_by sig o.head in
          let full : ready (remaining v row) ≡ true = ap ready (sym i.1.1) ∙ r in
          let O : List Token = open_written sig os in
          let B : List Token = terms_written sig o.before in
          let P : List Token = opening ∷ head_token sig o.head ∷ [] in
          let R : List Token = terms_written sig row in (
            i.0,
            stack_put sig o.wanted o.before os o.head row i.1.5 i.1.2 i.1.3 (row_whole sig v row i.1.0 full),
            tokens (o ∷ os) i
                ∙ ap (λ (l : List Token). base sn cs ++ (opening ∷ ASSERT ∷ l))
                (append_assoc (O ++ B ++ P) R (closing ∷ [])
                ∙ append_assoc (O ++ B) P (snoc R closing)
                ∙ append_assoc O B (P ++ snoc R closing)
                ∙ ap (λ (l : List Token). O ++ (B ++ l)) (sym (in_brackets (head_token sig o.head) v row R i.1.4 full))
                ∙ ap (λ (l : List Token). O ++ l) (sym (written_put sig o.before o.head row))),
          )

      go : (b : Bool) → ready w ≡ b → (outer : List Opened) → Inv sn cs (inside w row outer) ts
          → ◌≡◌ {A = Option State}
          (elim b [
            | true ↦
                elim outer [
                  | [] ↦ some (added st (assert row))
                  | o ∷ os ↦ some (goes st (inside (left o.wanted) (put o.before o.head row) os))
                ]
            | false ↦ none
          ])
          (some y)
          → InvS y (snoc ts t)
      go true r [] i e' = arrive (added st (assert row)) y (snoc ts t) (whole r i) e'
      go true r (o ∷ os) i e' = arrive (goes st (inside (left o.wanted) (put o.before o.head row) os)) y (snoc ts t) (inner o os r i) e'
      go false r outer i e' = absurd (none≢some e')

  keep_inside : (w : Wanted) (row : Terms) (outer : List Opened) → Inv sn cs (inside w row outer) ts → step_at st (inside w row outer) t ≡ some y
      → InvS y (snoc ts t)
  keep_inside w row outer i e = go (same_token t closing) refl e
    where
      go : (b : Bool) → same_token t closing ≡ b
          → ◌≡◌ {A = Option State} (elim b [ true ↦ closed st w row outer | false ↦ begun st w row outer t (next w) ]) (some y) → InvS y (snoc ts t)
      go true p e' = keep_closed w row outer p i e'
      go false p e' = keep_begun w row outer (next w) refl i e'

  keep_heading : (s : Sort) (w : Wanted) (row : Terms) (outer : List Opened) → Inv sn cs (heading s w row outer) ts
      → step_at st (heading s w row outer) t ≡ some y → InvS y (snoc ts t)
  keep_heading s w row outer i e = found (bracketed sig s t) refl e
    where
      headed : (h : Head) → (names sig s t h && not (ready (wanted_by sig h)) && all (inhabited sig) (wanted_by sig h).must) ≡ true
          → Inv sn cs (inside (wanted_by sig h) end (record { head = h; wanted = w; before = row } ∷ outer)) (snoc ts t)
      headed h q =
          let A = names sig s t h in
          let B = not (ready (wanted_by sig h)) in
          let ab = and_left (A && B) (all (inhabited sig) (wanted_by sig h).must) q in
          let k = named_of s h (and_left A B ab) in
          let O : List Token = open_written sig outer in
          let R : List Token = terms_written sig row in (
            i.0,
            (refl, refl, k.right, wanted_of_lem s w h i.2 k.sort, not-true (ready (wanted_by sig h)) (and_right A B ab), i.1),
            onto (base sn cs) (opening ∷ ASSERT ∷ snoc (opened row outer) opening) ts t i.3
                ∙ ap (λ (l : List Token). base sn cs ++ (opening ∷ ASSERT ∷ l))
                (append_assoc (O ++ R) (opening ∷ []) (t ∷ [])
                ∙ ap (λ (u : Token). O ++ R ++ (opening ∷ u ∷ [])) k.token
                ∙ sym (append-nil (O ++ R ++ (opening ∷ head_token sig h ∷ [])))),
          )

      found : (h? : Option Head) → bracketed sig s t ≡ h?
          → ◌≡◌ {A = Option State}
          (elim h? [
            | none ↦ none
            | some h ↦ some (goes st (inside (wanted_by sig h) end (record { head = h; wanted = w; before = row } ∷ outer)))
          ])
          (some y)
          → InvS y (snoc ts t)
      found none p e' = absurd (none≢some e')
      found (some h) p e' =
          arrive (goes st (inside (wanted_by sig h) end (record { head = h; wanted = w; before = row } ∷ outer))) y (snoc ts t)
          (headed h (first_passes (λ h. names sig s t h && not (ready (wanted_by sig h)) && all (inhabited sig) (wanted_by sig h).must) (heads sig) h p)) e'

  keep_at : (stage : Stage) → Inv sn cs stage ts → step_at st stage t ≡ some y → InvS y (snoc ts t)
  keep_at (exact x then) i e = keep_exact st y t ts x then i e
  keep_at naming i e = keep_naming st y t ts i e
  keep_at commanding i e = keep_commanding st y t ts i e
  keep_at declaring i e = keep_declaring st y t ts i e
  keep_at finished i e = absurd (none≢some e)
  keep_at (taking name k) i e = keep_taking st y t ts name k i e
  keep_at (giving name k) i e = keep_giving st y t ts name k i e
  keep_at (inside w row outer) i e = keep_inside w row outer i e
  keep_at (heading s w row outer) i e = keep_heading s w row outer i e

  pub keep : InvS st ts → step st t ≡ some y → InvS y (snoc ts t)
  unfolding step
  keep i e = keep_at st.stage i e

-- over a run
pub keep_run : (us : List Token) (st y : State) (ts : List Token) → InvS st ts → runs st us ≡ some y → InvS y (ts ++ us)
keep_run [] st y ts i e = subst (λ (l : List Token). InvS y l) (sym (append-nil ts)) (arrive st y ts i e)
keep_run (u ∷ us) st y ts i e = go (step st u) refl e (λ s j e'. keep_run us s y (snoc ts u) j e')
  where
    go : (o : Option State) → step st u ≡ o → ◌≡◌ {A = Option State} (elim o [ none ↦ none | some s ↦ runs s us ]) (some y)
        → ((s : State) → InvS s (snoc ts u) → runs s us ≡ some y → InvS y (snoc ts u ++ us)) → InvS y (ts ++ (u ∷ us))
    go none p e' rec = absurd (none≢some e')
    go (some s) p e' rec = subst (λ (l : List Token). InvS y l) (append_assoc ts (u ∷ []) us) (rec s (keep st s u ts i p) e')

pub start_inv : InvS start []
start_inv = (refl, refl)

-- tokens that are read out write the script that is read, and it is right
finished_inv : (st : State) (stage : Stage) (ts : List Token) → Inv st.sort_name st.commands stage ts → is_finished stage ≡ true
    → (script_right (script_of st) ≡ true) × (written (script_of st) ≡ ts)
unfolding script_right written
finished_inv st (exact x then) ts i e = absurd (false≢true e)
finished_inv st naming ts i e = absurd (false≢true e)
finished_inv st commanding ts i e = absurd (false≢true e)
finished_inv st declaring ts i e = absurd (false≢true e)
finished_inv st finished ts i e = (and_intro (new_sort st.sort_name) (commands_right [] st.commands) i.0.0 i.0.1, sym i.1)
finished_inv st (taking name k) ts i e = absurd (false≢true e)
finished_inv st (giving name k) ts i e = absurd (false≢true e)
finished_inv st (inside w row outer) ts i e = absurd (false≢true e)
finished_inv st (heading s w row outer) ts i e = absurd (false≢true e)

pub read_out : (ts : List Token) (y : State) → runs start ts ≡ some y → is_finished y.stage ≡ true → (script_right (script_of y) ≡ true) × (written (script_of y) ≡ ts)
read_out ts y e f = finished_inv y y.stage ts (keep_run ts start y [] start_inv e) f

pub read_subset : (ts : List Token) (y : State) → runs start ts ≡ some y → is_finished y.stage ≡ true → Subset ts
read_subset ts y e f = let r = read_out ts y e f in record { script = script_of y; right = r.0; writes = r.1 }
