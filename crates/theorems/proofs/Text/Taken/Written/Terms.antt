-- The tokens that write right terms are all taken, one after the other (02, E1). Assumes nothing.
use mathlib.Core.Path.{◌≡◌, refl, sym, ap, ◌∙◌, subst}
use Prim.Native.Nat.{ℕ, zero, suc, ◌<◌}
use native.Mathlib.Omega.{arith}
use mathlib.Core.Bool.{Bool, true, false, ◌&&◌, false≢true}
use mathlib.Core.List.{List, [], ◌∷◌}
use mathlib.Core.Option.{Option, none, some}
use lib.ListN.{length, replicate}
use lib.Dec.{eqb, ltb}
use borrow.Author.Tests.{ltb-true, eq-eqb}
use Rattle.definitions.specs.Lists.{snoc, all, any}
use Rattle.definitions.specs.Problem.Ops.{Sort, term, formula, same_sort}
use Rattle.theorems.proofs.Laws.Tests.{and_left, and_right, and_intro, or_left, or_right}
use Rattle.theorems.proofs.Laws.Ops.{same_sort_lem}
use Rattle.definitions.specs.Text.Tokens.{Token, opening, closing, same_token}
use Rattle.definitions.specs.Text.Grammar.{Symbol, Head, declared, ite, equals, negation, conjunction, disjunction, implication, verum, falsum, Terms, end, call, assert, symbols_in, symbol_at, Wanted, exactly, wanted_by, sort_of_head, next, left, ready, is_wanted, head_right, terms_right, after, head_token, term_written, terms_written}
use Rattle.definitions.specs.Text.Reader.{Opened, inside, heading, State, goes, added, put, closed, begun, step}
use Rattle.definitions.specs.Text.Heads.{constant, inhabited, bare}
use Rattle.theorems.proofs.Text.Taken.Runs.{runs, runs_step, runs_append}
use Rattle.theorems.proofs.Text.Taken.Kept.Invariant.{row_right, remaining}
use Rattle.theorems.proofs.Text.Meant.Reading.{parts}
use Rattle.theorems.proofs.Text.Taken.Written.Resolve.{Fresh, bare_head, bracketed_head}

-- where a right term stands its sort has terms
any_at : (sig : List Symbol) (k : ℕ) → k < length sig → constant (symbol_at sig k) ≡ true → any constant sig ≡ true
any_at [] k h c = absurd (omega arith)
any_at (y ∷ ys) zero h c = or_left (constant y) (any constant ys) c
any_at (y ∷ ys) (suc k) h c = or_right (constant y) (any constant ys) (any_at ys k (omega arith) c)

head_inhabited : (sig : List Symbol) (h : Head) → head_right sig h ≡ true → all (inhabited sig) (wanted_by sig h).must ≡ true → inhabited sig (sort_of_head h) ≡ true
head_inhabited sig (declared term k) r a = go (symbol_at sig k).arity refl
  where
    l : k < length sig
    l = ltb-true k (length sig) (and_left (ltb k (length sig)) (same_sort (symbol_at sig k).result term) r)

    go : (n : ℕ) → (symbol_at sig k).arity ≡ n → any constant sig ≡ true
    go zero p = any_at sig k l (and_intro (eqb (symbol_at sig k).arity 0) (same_sort (symbol_at sig k).result term) (eq-eqb (symbol_at sig k).arity 0 p) (and_right (ltb k (length sig)) (same_sort (symbol_at sig k).result term) r))
    go (suc n) p = and_left (any constant sig) (all (inhabited sig) (replicate n term)) (sym (ap (λ (m : ℕ). all (inhabited sig) (replicate m term)) p) ∙ a)
head_inhabited sig (declared formula k) r a = refl
head_inhabited sig (ite term) r a = and_left (any constant sig) (any constant sig && true) a
head_inhabited sig (ite formula) r a = refl
head_inhabited sig equals r a = refl
head_inhabited sig negation r a = refl
head_inhabited sig conjunction r a = refl
head_inhabited sig disjunction r a = refl
head_inhabited sig implication r a = refl
head_inhabited sig verum r a = refl
head_inhabited sig falsum r a = refl

pub right_inhabited : (sig : List Symbol) (row : Terms) (must : List Sort) (more : Option Sort) → terms_right sig (record { must = must; more = more }) row ≡ true
    → all (inhabited sig) must ≡ true
right_inhabited sig end must more e = none_left must e
  where
    none_left : (must : List Sort) → ready (record { must = must; more = more }) ≡ true → all (inhabited sig) must ≡ true
    none_left [] e = refl
    none_left (s ∷ ss) e = absurd (false≢true e)
right_inhabited sig (call h args rest) must more e =
    here must e (right_inhabited sig args (wanted_by sig h).must (wanted_by sig h).more) (λ ss. right_inhabited sig rest ss more)
  where
    here : (must : List Sort) → terms_right sig (record { must = must; more = more }) (call h args rest) ≡ true
        → (terms_right sig (wanted_by sig h) args ≡ true → all (inhabited sig) (wanted_by sig h).must ≡ true)
        → ((ss : List Sort) → terms_right sig (record { must = ss; more = more }) rest ≡ true → all (inhabited sig) ss ≡ true)
        → all (inhabited sig) must ≡ true
    here [] e inner after = refl
    here (s ∷ ss) e inner after =
        let p = parts sig (record { must = s ∷ ss; more = more }) h args rest e in
        and_intro (inhabited sig s) (all (inhabited sig) ss)
        (subst (λ (x : Sort). inhabited sig x ≡ true) (sym (same_sort_lem s (sort_of_head h) p.asked)) (head_inhabited sig h p.known (inner p.inner)))
        (after ss p.after)

-- the sort wanted where a head stands
wanted_is : (o : Option Sort) (s : Sort) → is_wanted o s ≡ true → o ≡ some s
wanted_is none s e = absurd (false≢true e)
wanted_is (some w) s e = ap some (same_sort_lem w s e)

-- a right row is right as far as it goes, and nothing is missing
pub whole_row : (sig : List Symbol) (w : Wanted) (row : Terms) → terms_right sig w row ≡ true → row_right sig w row ≡ true
whole_row sig w end e = refl
whole_row sig w (call h args rest) e =
    let A = head_right sig h && is_wanted (next w) (sort_of_head h) && terms_right sig (wanted_by sig h) args in
    and_intro A (row_right sig (left w) rest) (and_left A (terms_right sig (left w) rest) e) (whole_row sig (left w) rest (and_right A (terms_right sig (left w) rest) e))

pub whole_ready : (sig : List Symbol) (w : Wanted) (row : Terms) → terms_right sig w row ≡ true → ready (remaining w row) ≡ true
whole_ready sig w end e = e
whole_ready sig w (call h args rest) e =
    let A = head_right sig h && is_wanted (next w) (sort_of_head h) && terms_right sig (wanted_by sig h) args in
    whole_ready sig (left w) rest (and_right A (terms_right sig (left w) rest) e)

-- a row with the terms of another after it
abbrev pub join : Terms → Terms → Terms
join row end = row
join row (call h args rest) = join (put row h args) rest

join_call : (g : Head) (inner x rest : Terms) → join (call g inner x) rest ≡ call g inner (join x rest)
join_call g inner x end = refl
join_call g inner x (call h args rest) = join_call g inner (put x h args) rest

pub join_end : (row : Terms) → join end row ≡ row
join_end end = refl
join_end (call h args rest) = join_call h args end rest ∙ ap (call h args) (join_end rest)

module _ (st : State) (fresh : Fresh (symbols_in st.commands)) where
  abbrev sig : List Symbol
  sig = symbols_in st.commands

  abbrev pub at : Wanted → Terms → List Opened → State
  at w row outer = goes st (inside w row outer)

  -- a head is written as a symbol: neither bracket
  not_closing : (h : Head) → same_token (head_token sig h) closing ≡ false
  not_closing (declared s k) = refl
  not_closing (ite s) = refl
  not_closing equals = refl
  not_closing negation = refl
  not_closing conjunction = refl
  not_closing disjunction = refl
  not_closing implication = refl
  not_closing verum = refl
  not_closing falsum = refl

  not_opening : (h : Head) → same_token (head_token sig h) opening ≡ false
  not_opening (declared s k) = refl
  not_opening (ite s) = refl
  not_opening equals = refl
  not_opening negation = refl
  not_opening conjunction = refl
  not_opening disjunction = refl
  not_opening implication = refl
  not_opening verum = refl
  not_opening falsum = refl

  step_bare : (w : Wanted) (row : Terms) (outer : List Opened) (h : Head) → head_right sig h ≡ true → is_wanted (next w) (sort_of_head h) ≡ true
      → ready (wanted_by sig h) ≡ true → step (at w row outer) (head_token sig h) ≡ some (at (left w) (put row h end) outer)
  unfolding step
  step_bare w row outer h r a q =
      ap first (not_closing h) ∙ ap (begun (at w row outer) w row outer (head_token sig h)) (wanted_is (next w) (sort_of_head h) a) ∙ ap second (not_opening h)
      ∙ ap third (bare_head sig fresh h r q)
    where
      first : Bool → Option State
      first b = elim b [ true ↦ closed (at w row outer) w row outer | false ↦ begun (at w row outer) w row outer (head_token sig h) (next w) ]

      third : Option Head → Option State
      third o = elim o [ none ↦ none | some g ↦ some (at (left w) (put row g end) outer) ]

      second : Bool → Option State
      second b = elim b [ true ↦ some (goes st (heading (sort_of_head h) w row outer)) | false ↦ third (bare sig (sort_of_head h) (head_token sig h)) ]

  step_open : (w : Wanted) (row : Terms) (outer : List Opened) (s : Sort) → next w ≡ some s → step (at w row outer) opening ≡ some (goes st (heading s w row outer))
  unfolding step
  step_open w row outer s e = ap (begun (at w row outer) w row outer opening) e

  step_head : (w : Wanted) (row : Terms) (outer : List Opened) (h : Head) → head_right sig h ≡ true → ready (wanted_by sig h) ≡ false
      → all (inhabited sig) (wanted_by sig h).must ≡ true
      → step (goes st (heading (sort_of_head h) w row outer)) (head_token sig h) ≡ some (at (wanted_by sig h) end (record { head = h; wanted = w; before = row } ∷ outer))
  unfolding step
  step_head w row outer h r q a = ap opens (bracketed_head sig fresh h r q a)
    where
      opens : Option Head → Option State
      opens o = elim o [ none ↦ none | some g ↦ some (at (wanted_by sig g) end (record { head = g; wanted = w; before = row } ∷ outer)) ]

  step_close : (v : Wanted) (args : Terms) (o : Opened) (outer : List Opened) → ready v ≡ true
      → step (at v args (o ∷ outer)) closing ≡ some (at (left o.wanted) (put o.before o.head args) outer)
  unfolding step
  step_close v args o outer e = ap closes e
    where
      closes : Bool → Option State
      closes b = elim b [ true ↦ some (at (left o.wanted) (put o.before o.head args) outer) | false ↦ none ]

  pub step_assert : (v : Wanted) (row : Terms) → ready v ≡ true → step (at v row []) closing ≡ some (added st (assert row))
  unfolding step
  step_assert v row e = ap closes e
    where
      closes : Bool → Option State
      closes b = elim b [ true ↦ some (added st (assert row)) | false ↦ none ]

  -- a head that has arguments must have some
  not_ready : (h g : Head) (a r : Terms) → terms_right sig (wanted_by sig h) (call g a r) ≡ true → ready (wanted_by sig h) ≡ false
  not_ready (declared s k) g a r e = go (symbol_at sig k).arity (parts sig (wanted_by sig (declared s k)) g a r e).asked
    where
      go : (n : ℕ) → is_wanted (next (exactly (replicate n term))) (sort_of_head g) ≡ true → ready (exactly (replicate n term)) ≡ false
      go zero p = absurd (false≢true p)
      go (suc n) p = refl
  not_ready (ite s) g a r e = refl
  not_ready equals g a r e = refl
  not_ready negation g a r e = refl
  not_ready conjunction g a r e = refl
  not_ready disjunction g a r e = refl
  not_ready implication g a r e = refl
  not_ready verum g a r e = absurd (false≢true (parts sig (wanted_by sig verum) g a r e).asked)
  not_ready falsum g a r e = absurd (false≢true (parts sig (wanted_by sig falsum) g a r e).asked)

  -- the tokens of one term, where those of its arguments are taken
  run_one : (h : Head) (args : Terms) (w : Wanted) (row : Terms) (outer : List Opened) → head_right sig h ≡ true → is_wanted (next w) (sort_of_head h) ≡ true
      → terms_right sig (wanted_by sig h) args ≡ true
      → ((v : Wanted) (o : List Opened) → row_right sig v args ≡ true → runs (at v end o) (terms_written sig args) ≡ some (at (remaining v args) (join end args) o))
      → runs (at w row outer) (term_written (head_token sig h) args (terms_written sig args)) ≡ some (at (left w) (put row h args) outer)
  run_one h end w row outer r a q rec = runs_step (at w row outer) (at (left w) (put row h end) outer) (head_token sig h) [] (step_bare w row outer h r a q)
  run_one h (call g b c) w row outer r a q rec =
      let args : Terms = call g b c in
      let v : Wanted = wanted_by sig h in
      let o : Opened = record { head = h; wanted = w; before = row } in
      let T : List Token = terms_written sig args in
      runs_step (at w row outer) (goes st (heading (sort_of_head h) w row outer)) opening (head_token sig h ∷ snoc T closing)
      (step_open w row outer (sort_of_head h) (wanted_is (next w) (sort_of_head h) a))
      ∙ runs_step (goes st (heading (sort_of_head h) w row outer)) (at v end (o ∷ outer)) (head_token sig h) (snoc T closing)
      (step_head w row outer h r (not_ready h g b c q) (right_inhabited sig args v.must v.more q))
      ∙ runs_append (at v end (o ∷ outer)) (at (remaining v args) (join end args) (o ∷ outer)) T (closing ∷ []) (rec v (o ∷ outer) (whole_row sig v args q))
      ∙ runs_step (at (remaining v args) (join end args) (o ∷ outer)) (at (left w) (put row h (join end args)) outer) closing []
      (step_close (remaining v args) (join end args) o outer (whole_ready sig v args q))
      ∙ ap (λ (x : Terms). some (at (left w) (put row h x) outer)) (join_end args)

  -- the tokens of a row are taken one after the other
  pub run_terms : (ts : Terms) (w : Wanted) (row : Terms) (outer : List Opened) → row_right sig w ts ≡ true
      → runs (at w row outer) (terms_written sig ts) ≡ some (at (remaining w ts) (join row ts) outer)
  run_terms end w row outer e = refl
  run_terms (call h args rest) w row outer e =
      let A = head_right sig h in
      let B = is_wanted (next w) (sort_of_head h) in
      let C = terms_right sig (wanted_by sig h) args in
      let D = row_right sig (left w) rest in
      let abc = and_left (A && B && C) D e in
      let ab = and_left (A && B) C abc in
      runs_append (at w row outer) (at (left w) (put row h args) outer) (term_written (head_token sig h) args (terms_written sig args)) (terms_written sig rest)
      (run_one h args w row outer (and_left A B ab) (and_right A B ab) (and_right (A && B) C abc) (λ v o. run_terms args v end o))
      ∙ run_terms rest (left w) (put row h args) outer (and_right (A && B && C) D e)
