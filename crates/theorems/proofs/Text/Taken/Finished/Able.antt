-- What a state needs to be read out stays so with every token that is taken: the sorts that open lists still want have terms (02, E1).
-- Assumes nothing.
use mathlib.Core.Path.{◌≡◌, refl, subst}
use Prim.Native.Nat.{ℕ, suc}
use native.Mathlib.Omega.{arith}
use mathlib.Core.Bool.{Bool, true, false, not, ◌&&◌}
use mathlib.Core.List.{List, [], ◌∷◌}
use mathlib.Core.Option.{Option, none, some}
use lib.Dec.{ltb}
use Rattle.definitions.specs.Lists.{all}
use Rattle.definitions.specs.Problem.Ops.{Sort, term, formula}
use Rattle.theorems.proofs.Laws.Tests.{and_left, and_right, some_same, none≢some}
use Rattle.definitions.specs.Text.Ascii.{ascii}
use Rattle.definitions.specs.Text.Tokens.{Token, opening, closing, symbol, word, same_token}
use Rattle.definitions.specs.Text.Grammar.{Symbol, Head, declared, ite, equals, negation, conjunction, disjunction, implication, verum, falsum, Terms, end, assert, symbols_in, Wanted, wanted_by, next, left, ready, one_formula, BOOL, new_function, new_sort}
use Rattle.definitions.specs.Text.Reader.{Opened, Stage, exact, naming, commanding, declaring, finished, taking, giving, inside, heading, State, goes, start, added, put, unless_not, symbol_name, named, new_named, closed, begun, step_at, gave, step}
use Rattle.definitions.specs.Text.Heads.{heads, inhabited, names, bare, bracketed}
use Rattle.theorems.proofs.Text.Taken.Runs.{runs, first_passes}
use Rattle.theorems.proofs.Text.Taken.Spelling.{spellable}
use Rattle.theorems.proofs.Text.Taken.Lexed.{lexed}
use Rattle.theorems.proofs.Text.Taken.Kept.Sound.{keep_run, start_inv}
use Rattle.theorems.proofs.Text.Taken.Kept.Names.{state_names, state_spelled}
use Rattle.theorems.proofs.Text.Taken.Finished.Finishing.{Finishes, Can, CanAll, CanAt, can_left, fin_at}

-- what can be finished stays so
can_wanted : (sig : List Symbol) (h : Head) → all (inhabited sig) (wanted_by sig h).must ≡ true → Can sig (wanted_by sig h)
can_wanted sig (declared s k) e = (e, refl)
can_wanted sig (ite s) e = (e, refl)
can_wanted sig equals e = (e, rw (and_left (inhabited sig term) (inhabited sig term && true) e) refl)
can_wanted sig negation e = (e, refl)
can_wanted sig conjunction e = (e, refl)
can_wanted sig disjunction e = (e, refl)
can_wanted sig implication e = (e, refl)
can_wanted sig verum e = (e, refl)
can_wanted sig falsum e = (e, refl)

can_next : (sig : List Symbol) (must : List Sort) (more : Option Sort) (s : Sort) → Can sig (record { must = must; more = more })
    → next (record { must = must; more = more }) ≡ some s → inhabited sig s ≡ true
can_next sig [] none s c e = absurd (none≢some e)
can_next sig [] (some r) s c e = subst (λ (x : Sort). inhabited sig x ≡ true) (some_same r s e) (and_left (inhabited sig r) true c.1)
can_next sig (r ∷ must) more s c e =
    subst (λ (x : Sort). inhabited sig x ≡ true) (some_same r s e) (and_left (inhabited sig r) (all (inhabited sig) must) c.0)

abbrev pub CanS : State → Type 0
CanS st = CanAt (symbols_in st.commands) st.stage

module _ (st y : State) (t : Token) where
  abbrev cs_sig : List Symbol
  cs_sig = symbols_in st.commands

  comes : (x : State) → CanS x → ◌≡◌ {A = Option State} (some x) (some y) → CanS y
  comes x c e = subst CanS (some_same x y e) c

  passes : (b : Bool) (x : State) → CanS x → unless_not b x ≡ some y → CanS y
  passes true x c e = comes x c e
  passes false x c e = absurd (none≢some e)

  can_named : (o : Option (List ℕ)) → named st o ≡ some y → CanS y
  can_named none e = absurd (none≢some e)
  can_named (some name) e = passes (new_sort name) _ (omega arith, refl, (omega arith, refl, (omega arith, refl, tt))) e

  can_new : (o : Option (List ℕ)) → new_named st o ≡ some y → CanS y
  can_new none e = absurd (none≢some e)
  can_new (some name) e = passes (new_function cs_sig name) (goes st (exact opening (taking name 0))) (omega arith, refl, tt) e

  can_commanded : (a b : Bool)
      → ◌≡◌ {A = Option State}
      (elim a [
        | true ↦ some (goes st declaring)
        | false ↦
            elim b [
              | true ↦ some (goes st (inside one_formula end []))
              | false ↦ unless_not (same_token t (word (ascii "check-sat"))) (goes st (exact closing finished))
            ]
      ])
      (some y)
      → CanS y
  can_commanded true b e = comes (goes st declaring) tt e
  can_commanded false true e = comes (goes st (inside one_formula end [])) ((refl, refl), tt) e
  can_commanded false false e = passes (same_token t (word (ascii "check-sat"))) (goes st (exact closing finished)) (omega arith, refl, tt) e

  can_taking : (name : List ℕ) (k : ℕ) (b : Bool)
      → ◌≡◌ {A = Option State}
      (elim b [
        | true ↦ some (goes st (giving name k))
        | false ↦ unless_not (ltb k 3 && same_token t (symbol st.sort_name)) (goes st (taking name (suc k)))
      ])
      (some y)
      → CanS y
  can_taking name k true e = comes (goes st (giving name k)) tt e
  can_taking name k false e = passes (ltb k 3 && same_token t (symbol st.sort_name)) (goes st (taking name (suc k))) tt e

  can_giving : (name : List ℕ) (k : ℕ) (b : Bool)
      → ◌≡◌ {A = Option State}
      (elim b [
        | true ↦ some (gave st name k term)
        | false ↦ unless_not (same_token t (symbol BOOL)) (gave st name k formula)
      ])
      (some y)
      → CanS y
  can_giving name k true e = comes (gave st name k term) (omega arith, refl, (omega arith, refl, tt)) e
  can_giving name k false e = passes (same_token t (symbol BOOL)) (gave st name k formula) (omega arith, refl, (omega arith, refl, tt)) e

  can_closed : (b : Bool) (w : Wanted) (row : Terms) (outer : List Opened) → CanAll cs_sig outer
      → ◌≡◌ {A = Option State}
      (elim b [
        | true ↦
            elim outer [
              | [] ↦ some (added st (assert row))
              | o ∷ os ↦ some (goes st (inside (left o.wanted) (put o.before o.head row) os))
            ]
        | false ↦ none
      ])
      (some y)
      → CanS y
  can_closed true w row [] c e = comes (added st (assert row)) (omega arith, refl, tt) e
  can_closed true w row (o ∷ os) c e =
      comes (goes st (inside (left o.wanted) (put o.before o.head row) os))
      (can_left cs_sig o.wanted.must o.wanted.more c.0, c.1) e
  can_closed false w row outer c e = absurd (none≢some e)

  can_bare : (w : Wanted) (row : Terms) (outer : List Opened) (o : Option Head) → Can cs_sig w → CanAll cs_sig outer
      → ◌≡◌ {A = Option State} (elim o [ none ↦ none | some h ↦ some (goes st (inside (left w) (put row h end) outer)) ]) (some y) → CanS y
  can_bare w row outer none c cs e = absurd (none≢some e)
  can_bare w row outer (some h) c cs e = comes (goes st (inside (left w) (put row h end) outer)) (can_left cs_sig w.must w.more c, cs) e

  can_begun : (w : Wanted) (row : Terms) (outer : List Opened) (o : Option Sort) → next w ≡ o → Can cs_sig w → CanAll cs_sig outer
      → begun st w row outer t o ≡ some y → CanS y
  can_begun w row outer none n c cs e = absurd (none≢some e)
  can_begun w row outer (some s) n c cs e = go (same_token t opening) e
    where
      go : (b : Bool)
          → ◌≡◌ {A = Option State}
          (elim b [
            | true ↦ some (goes st (heading s w row outer))
            | false ↦ elim (bare cs_sig s t) [ none ↦ none | some h ↦ some (goes st (inside (left w) (put row h end) outer)) ]
          ])
          (some y)
          → CanS y
      go true e' = comes (goes st (heading s w row outer)) (can_next cs_sig w.must w.more s c n, c, cs) e'
      go false e' = can_bare w row outer (bare cs_sig s t) c cs e'

  can_heading : (s : Sort) (w : Wanted) (row : Terms) (outer : List Opened) (o : Option Head) → bracketed cs_sig s t ≡ o → Can cs_sig w → CanAll cs_sig outer
      → ◌≡◌ {A = Option State}
      (elim o [
        | none ↦ none
        | some h ↦ some (goes st (inside (wanted_by cs_sig h) end (record { head = h; wanted = w; before = row } ∷ outer)))
      ])
      (some y)
      → CanS y
  can_heading s w row outer none p c cs e = absurd (none≢some e)
  can_heading s w row outer (some h) p c cs e =
      let q = first_passes (λ h. names cs_sig s t h && not (ready (wanted_by cs_sig h)) && all (inhabited cs_sig) (wanted_by cs_sig h).must) (heads cs_sig) h p in
      comes (goes st (inside (wanted_by cs_sig h) end (record { head = h; wanted = w; before = row } ∷ outer)))
      (can_wanted cs_sig h (and_right (names cs_sig s t h && not (ready (wanted_by cs_sig h))) (all (inhabited cs_sig) (wanted_by cs_sig h).must) q), (c, cs)) e

  can_at : (stage : Stage) → CanAt cs_sig stage → step_at st stage t ≡ some y → CanS y
  can_at (exact x then) c e = passes (same_token x t) (goes st then) c.2 e
  can_at naming c e = can_named (symbol_name t) e
  can_at commanding c e = can_commanded (same_token t (word (ascii "declare-fun"))) (same_token t (word (ascii "assert"))) e
  can_at declaring c e = can_new (symbol_name t) e
  can_at finished c e = absurd (none≢some e)
  can_at (taking name k) c e = can_taking name k (same_token t closing) e
  can_at (giving name k) c e = can_giving name k (same_token t (symbol st.sort_name)) e
  can_at (inside w row outer) c e = go (same_token t closing) e
    where
      go : (b : Bool) → ◌≡◌ {A = Option State} (elim b [ true ↦ closed st w row outer | false ↦ begun st w row outer t (next w) ]) (some y) → CanS y
      go true e' = can_closed (ready w) w row outer c.1 e'
      go false e' = can_begun w row outer (next w) refl c.0 c.1 e'
  can_at (heading s w row outer) c e = can_heading s w row outer (bracketed cs_sig s t) refl c.1 c.2 e

  pub can_step : CanS st → step st t ≡ some y → CanS y
  unfolding step
  can_step c e = can_at st.stage c e

pub can_run : (us : List Token) (st y : State) → CanS st → runs st us ≡ some y → CanS y
can_run [] st y c e = subst CanS (some_same st y e) c
can_run (u ∷ us) st y c e = go (step st u) refl e (λ s d e'. can_run us s y d e')
  where
    go : (o : Option State) → step st u ≡ o → ◌≡◌ {A = Option State} (elim o [ none ↦ none | some s ↦ runs s us ]) (some y)
        → ((s : State) → CanS s → runs s us ≡ some y → CanS y) → CanS y
    go none p e' rec = absurd (none≢some e')
    go (some s) p e' rec = rec s (can_step st s u c p) e'

pub can_start : CanS start
can_start =
    (omega arith, refl, (omega arith, refl, (omega arith, refl, (omega arith, refl, (omega arith, refl, (omega arith, refl, tt))))))

-- every state that tokens of a text lead to can be read out, and so spelled
pub finishes : (us : List Token) (y : State) → runs start us ≡ some y → all lexed us ≡ true → (all spellable us ≡ true) × Finishes y
finishes us y e l =
    let c = can_run us start y can_start e in
    let i = keep_run us start y [] start_inv e in
    let b = state_spelled y.sort_name y.commands y.stage us i l in
    (b, fin_at y (state_names y.sort_name y.commands y.stage us c i b) y.stage c)
