-- Every state that the reader comes to can be read out: some tokens lead from it to the end. So every list of tokens that is taken
-- begins a text of the subset (02, E1: "the first token with which no text of the subset, depth aside, can go on"). Assumes nothing.
use mathlib.Core.Path.{◌≡◌, refl, sym, ap, ◌∙◌}
use Prim.Native.Nat.{ℕ, suc, ◌+◌, ◌≤◌}
use native.Mathlib.Omega.{arith}
use mathlib.Core.Bool.{Bool, true, false, not, ◌&&◌}
use mathlib.Core.List.{List, [], ◌∷◌, ◌++◌}
use mathlib.Core.Option.{Option, none, some}
use lib.ListN.{length, replicate, length-replicate}
use Rattle.definitions.specs.Lists.{all, any}
use Rattle.definitions.specs.Problem.Ops.{Sort, term, formula}
use Rattle.theorems.proofs.Laws.Tests.{and_left, and_right, and_intro}
use Rattle.theorems.proofs.Laws.All.{all_replicate}
use Rattle.definitions.specs.Text.Ascii.{ascii, same_bytes}
use Rattle.definitions.specs.Text.Tokens.{Token, opening, closing, nought, symbol, word, bar_byte, same_token}
use Rattle.definitions.specs.Text.Grammar.{Symbol, Head, ite, equals, negation, conjunction, disjunction, implication, verum, falsum, Terms, end, assert, symbols_in, Wanted, wanted_by, left, ready, CORE, BOOL, names_of, new_function}
use Rattle.definitions.specs.Text.Reader.{Opened, Stage, exact, naming, commanding, declaring, finished, taking, giving, inside, heading, State, goes, added, put, gave, step, is_finished}
use Rattle.definitions.specs.Text.Heads.{declared_from, inhabited, names}
use Rattle.theorems.proofs.Text.Taken.Kept.Levels.{owed}
use Rattle.theorems.proofs.Text.Taken.Runs.{same_bytes_lem, token_same, runs, runs_step, first_here}
use Rattle.theorems.proofs.Text.Taken.Spelling.{spellable}
use Rattle.theorems.proofs.Text.Taken.Finished.Constants.{named_in_bars, bare_found}

-- tokens that lead from a state to the end
pub record Finishes (st : State) : Type 0 where
  pub rest : List Token
  pub last : State
  pub run : runs st rest ≡ some last
  pub done : is_finished last.stage ≡ true
  pub spelled : all spellable rest ≡ true

one_more_lem : (st st' : State) (t : Token) → spellable t ≡ true → step st t ≡ some st' → Finishes st' → Finishes st
one_more_lem st st' t b e f =
    record {
      rest = t ∷ f.rest;
      last = f.last;
      run = runs_step st st' t f.rest e ∙ f.run;
      done = f.done;
      spelled = and_intro (spellable t) (all spellable f.rest) b f.spelled;
    }

fin_commanding : (st : State) → Finishes (goes st commanding)
unfolding step
fin_commanding st = record { rest = word (ascii "check-sat") ∷ closing ∷ []; last = goes st finished; run = refl; done = refl; spelled = refl }

fin_exact : (st : State) (x : Token) (then : Stage) → spellable x ≡ true → Finishes (goes st then) → Finishes (goes st (exact x then))
unfolding step
fin_exact st x then b f = one_more_lem (goes st (exact x then)) (goes st then) x b (rw (token_same x) refl) f

-- a name that is longer than those that are taken is new
abbrev total : List (List ℕ) → ℕ
total [] = 0
total (x ∷ xs) = length x + total xs

longer_other : (n : ℕ) (x : List ℕ) → length x ≤ n → same_bytes (replicate (suc n) 97) x ≡ false
longer_other n x h = go (same_bytes (replicate (suc n) 97) x) refl
  where
    go : (b : Bool) → same_bytes (replicate (suc n) 97) x ≡ b → same_bytes (replicate (suc n) 97) x ≡ false
    go false p = p
    go true p =
        let e = sym (length-replicate (suc n) 97) ∙ ap length (same_bytes_lem (replicate (suc n) 97) x p) in
        absurd (omega arith)

longer_new : (n : ℕ) (xs : List (List ℕ)) → total xs ≤ n → any (same_bytes (replicate (suc n) 97)) xs ≡ false
longer_new n [] h = refl
longer_new n (x ∷ xs) h = rw (longer_other n x (omega arith)) (longer_new n xs (omega arith))

fresh_new : (sig : List Symbol) → new_function sig (replicate (suc (total (CORE ++ names_of sig))) 97) ≡ true
fresh_new sig = rw (longer_new (total (CORE ++ names_of sig)) (CORE ++ names_of sig) (omega arith)) refl

fin_giving : (st : State) (name : List ℕ) (k : ℕ) → Finishes (goes st (giving name k))
unfolding step
fin_giving st name k = go (same_token (symbol BOOL) (symbol st.sort_name)) refl
  where
    after : (s : Sort) → Finishes (gave st name k s)
    after s = fin_exact (gave st name k s) closing (exact opening commanding) refl (fin_exact (gave st name k s) opening commanding refl (fin_commanding (gave st name k s)))

    gives : Bool → Option State
    gives b = elim b [ true ↦ some (gave st name k term) | false ↦ some (gave st name k formula) ]

    go : (b : Bool) → same_token (symbol BOOL) (symbol st.sort_name) ≡ b → Finishes (goes st (giving name k))
    go true p = one_more_lem (goes st (giving name k)) (gave st name k term) (symbol BOOL) refl (ap gives p) (after term)
    go false p = one_more_lem (goes st (giving name k)) (gave st name k formula) (symbol BOOL) refl (ap gives p) (after formula)

fin_taking : (st : State) (name : List ℕ) (k : ℕ) → Finishes (goes st (taking name k))
unfolding step
fin_taking st name k = one_more_lem (goes st (taking name k)) (goes st (giving name k)) closing refl refl (fin_giving st name k)

fin_declaring : (st : State) → Finishes (goes st declaring)
unfolding step
fin_declaring st =
    let name : List ℕ = replicate (suc (total (CORE ++ names_of (symbols_in st.commands)))) 97 in
    one_more_lem (goes st declaring) (goes st (exact opening (taking name 0))) (symbol name) (all_replicate bar_byte (suc (total (CORE ++ names_of (symbols_in st.commands)))) 97 refl) (rw (fresh_new (symbols_in st.commands)) refl)
    (fin_exact st opening (taking name 0) refl (fin_taking st name 0))

fin_naming : (st : State) → Finishes (goes st naming)
unfolding step
fin_naming st =
    record {
      rest = symbol (ascii "U") ∷ nought ∷ closing ∷ opening ∷ word (ascii "check-sat") ∷ closing ∷ [];
      last = record { sort_name = ascii "U"; commands = st.commands; stage = finished };
      run = refl;
      done = refl;
      spelled = refl;
    }

-- the sorts that a list still wants all have terms; between commands few brackets are open and what comes can be spelled
abbrev pub optional : Option Sort → List Sort
optional none = []
optional (some s) = s ∷ []

abbrev pub Can : List Symbol → Wanted → Type 0
Can sig w = (all (inhabited sig) w.must ≡ true) × (all (inhabited sig) (optional w.more) ≡ true)

abbrev pub CanAll : List Symbol → List Opened → Type 0
CanAll sig [] = Unit {0}
CanAll sig (o ∷ os) = Can sig o.wanted × CanAll sig os

abbrev pub CanAt : List Symbol → Stage → Type 0
CanAt sig (exact x then) = (owed (exact x then) ≤ 65) × (spellable x ≡ true) × CanAt sig then
CanAt sig naming = Unit {0}
CanAt sig commanding = Unit {0}
CanAt sig declaring = Unit {0}
CanAt sig finished = Unit {0}
CanAt sig (taking name k) = Unit {0}
CanAt sig (giving name k) = Unit {0}
CanAt sig (inside w row outer) = Can sig w × CanAll sig outer
CanAt sig (heading s w row outer) = (inhabited sig s ≡ true) × Can sig w × CanAll sig outer

pub can_left : (sig : List Symbol) (must : List Sort) (more : Option Sort) → Can sig (record { must = must; more = more }) → Can sig (left (record { must = must; more = more }))
can_left sig [] more c = c
can_left sig (s ∷ ss) more c = (and_right (inhabited sig s) (all (inhabited sig) ss) c.0, c.1)

module _ (st : State) (in_bars : all named_in_bars (symbols_in st.commands) ≡ true) where
  abbrev sig : List Symbol
  sig = symbols_in st.commands

  abbrev within : List Sort → Option Sort → Terms → List Opened → State
  within must more row outer = goes st (inside (record { must = must; more = more }) row outer)

  -- what must come is written
  fill : (ss : List Sort) (more : Option Sort) (outer : List Opened) → all (inhabited sig) ss ≡ true
      → ((row : Terms) → Finishes (within [] more row outer)) → (row : Terms) → Finishes (within ss more row outer)
  unfolding step
  fill [] more outer c k row = k row
  fill (s ∷ ss) more outer c k row =
      let b = bare_found sig in_bars s (and_left (inhabited sig s) (all (inhabited sig) ss) c) in
      let h = b.1.1.0 in
      one_more_lem (within (s ∷ ss) more row outer) (within ss more (put row h end) outer) (symbol b.0) b.1.0 (ap (takes row) b.1.1.1)
      (fill ss more outer (and_right (inhabited sig s) (all (inhabited sig) ss) c) k (put row h end))
    where
      takes : Terms → Option Head → Option State
      takes row o = elim o [ none ↦ none | some h ↦ some (within ss more (put row h end) outer) ]

  -- and the bracket is closed, and those around it
  fin_inside : (outer : List Opened) (must : List Sort) (more : Option Sort) (row : Terms) → all (inhabited sig) must ≡ true → CanAll sig outer
      → Finishes (within must more row outer)
  unfolding step
  fin_inside [] must more row c cs =
      fill must more [] c
      (λ row. one_more_lem (within [] more row []) (added st (assert row)) closing refl refl (fin_exact (added st (assert row)) opening commanding refl (fin_commanding (added st (assert row))))) row
  fin_inside (o ∷ os) must more row c cs =
      fill must more (o ∷ os) c
      (λ row.
      one_more_lem (within [] more row (o ∷ os)) (goes st (inside (left o.wanted) (put o.before o.head row) os)) closing refl refl
      (fin_inside os (left o.wanted).must o.wanted.more (put o.before o.head row) (can_left sig o.wanted.must o.wanted.more cs.0).0 cs.1)) row

  fin_heading : (s : Sort) (w : Wanted) (row : Terms) (outer : List Opened) → inhabited sig s ≡ true → Can sig w → CanAll sig outer
      → Finishes (goes st (heading s w row outer))
  unfolding step
  fin_heading formula w row outer e c cs =
      one_more_lem (goes st (heading formula w row outer))
      (within (formula ∷ []) none end (record { head = negation; wanted = w; before = row } ∷ outer)) (symbol (ascii "not")) refl refl
      (fin_inside (record { head = negation; wanted = w; before = row } ∷ outer) (formula ∷ []) none end refl (c, cs))
  fin_heading term w row outer e c cs =
      let o : Opened = record { head = ite term; wanted = w; before = row } in
      one_more_lem (goes st (heading term w row outer)) (within (formula ∷ term ∷ term ∷ []) none end (o ∷ outer)) (symbol (ascii "ite")) refl
      (ap opens (first_here (λ h. names sig term (symbol (ascii "ite")) h && not (ready (wanted_by sig h)) && all (inhabited sig) (wanted_by sig h).must) (ite term)
      (ite formula ∷ equals ∷ negation ∷ conjunction ∷ disjunction ∷ implication ∷ verum ∷ falsum ∷ declared_from 0 sig) (rw e refl)))
      (fin_inside (o ∷ outer) (formula ∷ term ∷ term ∷ []) none end (rw e refl) (c, cs))
    where
      opens : Option Head → Option State
      opens o =
          elim o [ none ↦ none | some h ↦ some (goes st (inside (wanted_by sig h) end (record { head = h; wanted = w; before = row } ∷ outer))) ]

  pub fin_at : (stage : Stage) → CanAt sig stage → Finishes (goes st stage)
  fin_at (exact x then) c = fin_exact st x then c.1 (fin_at then c.2)
  fin_at naming c = fin_naming st
  fin_at commanding c = fin_commanding st
  fin_at declaring c = fin_declaring st
  fin_at finished c = record { rest = []; last = goes st finished; run = refl; done = refl; spelled = refl }
  fin_at (taking name k) c = fin_taking st name k
  fin_at (giving name k) c = fin_giving st name k
  fin_at (inside w row outer) c = fin_inside outer w.must w.more row c.0.0 c.1
  fin_at (heading s w row outer) c = fin_heading s w row outer c.0 c.1 c.2
