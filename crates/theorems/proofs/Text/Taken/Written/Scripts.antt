-- The tokens that write a right script are all taken, and lead to the end (02, E1). Assumes nothing.
use mathlib.Core.Path.{◌≡◌, refl, sym, ap, ◌∙◌, subst}
use Prim.Native.Nat.{ℕ, zero, suc, ◌+◌, ◌≤◌}
use native.Mathlib.Omega.{arith}
use mathlib.Core.Bool.{Bool, true, false, false≢true}
use mathlib.Core.List.{List, [], ◌∷◌, ◌++◌, append_assoc, append-nil}
use mathlib.Core.Option.{Option, some}
use lib.ListN.{replicate}
use lib.Dec.{ltb, leb}
use borrow.Author.Tests.{lt-ltb, leb-true}
use Rattle.definitions.specs.Lists.{snoc}
use Rattle.definitions.specs.Problem.Ops.{Sort, term, formula}
use Rattle.theorems.proofs.Laws.Tests.{and_left, and_right, and_intro}
use Rattle.definitions.specs.Text.Ascii.{ascii, same_bytes}
use Rattle.definitions.specs.Text.Tokens.{Token, opening, closing, nought, symbol, word, same_token}
use Rattle.definitions.specs.Text.Grammar.{Symbol, Terms, end, Command, declare, assert, Script, symbols_in, Wanted, terms_right, one_formula, BOOL, new_function, new_sort, after, command_right, commands_right, script_right, terms_written, sort_written, command_written, commands_written, written}
use Rattle.definitions.specs.Text.Reader.{Opened, exact, naming, commanding, declaring, finished, taking, giving, inside, State, start, goes, added, gave, unless_not, step}
use Rattle.theorems.proofs.Text.Taken.Runs.{same_bytes_lem, token_same, runs, runs_step, runs_append}
use Rattle.theorems.proofs.Text.Taken.Kept.Invariant.{remaining, symbols_snoc}
use Rattle.theorems.proofs.Text.Taken.Written.Resolve.{Fresh, fresh_snoc}
use Rattle.theorems.proofs.Text.Taken.Written.Terms.{whole_row, whole_ready, join, join_end, step_assert, run_terms}

module _ (st : State) (fresh : Fresh (symbols_in st.commands)) where
  abbrev sig : List Symbol
  sig = symbols_in st.commands

  abbrev at : Wanted → Terms → List Opened → State
  at w row outer = goes st (inside w row outer)

  -- an assert
  abbrev ready_for : State
  ready_for = goes st (exact opening commanding)

  run_assert : (t : Terms) → terms_right sig one_formula t ≡ true → runs ready_for (command_written st.sort_name sig (assert t)) ≡ some (added st (assert t))
  unfolding step
  run_assert t e =
      runs_append (at one_formula end []) (at (remaining one_formula t) (join end t) []) (terms_written sig t) (closing ∷ []) (run_terms st fresh t one_formula end [] (whole_row sig one_formula t e))
      ∙ runs_step (at (remaining one_formula t) (join end t) []) (added st (assert (join end t))) closing []
      (step_assert st fresh (remaining one_formula t) (join end t) (whole_ready sig one_formula t e))
      ∙ ap (λ (x : Terms). some (added st (assert x))) (join_end t)

  -- a declaration
  run_taking : (name : List ℕ) (n k : ℕ) → k + n ≤ 3 → runs (goes st (taking name k)) (replicate n (symbol st.sort_name)) ≡ some (goes st (taking name (k + n)))
  unfolding step
  run_taking name zero k h = let e : k ≡ k + 0 = omega arith in ap (λ (m : ℕ). some (goes st (taking name m))) e
  run_taking name (suc n) k h =
      let e : suc k + n ≡ k + suc n = omega arith in
      runs_step (goes st (taking name k)) (goes st (taking name (suc k))) (symbol st.sort_name) (replicate n (symbol st.sort_name))
      (ap (λ (b : Bool). unless_not b (goes st (taking name (suc k))))
      (and_intro (ltb k 3) (same_token (symbol st.sort_name) (symbol st.sort_name)) (lt-ltb k 3 (omega arith)) (token_same (symbol st.sort_name))))
      ∙ run_taking name n (suc k) (omega arith) ∙ ap (λ (m : ℕ). some (goes st (taking name m))) e

  run_giving : (name : List ℕ) (k : ℕ) (s : Sort) → new_sort st.sort_name ≡ true
      → step (goes st (giving name k)) (sort_written st.sort_name s) ≡ some (gave st name k s)
  unfolding step
  run_giving name k term new = ap gives (token_same (symbol st.sort_name))
    where
      gives : Bool → Option State
      gives b = elim b [ true ↦ some (gave st name k term) | false ↦ unless_not (same_token (symbol st.sort_name) (symbol BOOL)) (gave st name k formula) ]
  run_giving name k formula new = ap gives (differs (same_bytes BOOL st.sort_name) refl)
    where
      gives : Bool → Option State
      gives b = elim b [ true ↦ some (gave st name k term) | false ↦ some (gave st name k formula) ]

      differs : (b : Bool) → same_bytes BOOL st.sort_name ≡ b → same_bytes BOOL st.sort_name ≡ false
      differs true p = absurd (false≢true (subst (λ (n : List ℕ). new_sort n ≡ true) (sym (same_bytes_lem BOOL st.sort_name p)) new))
      differs false p = p

  run_declare : (y : Symbol) → new_sort st.sort_name ≡ true → new_function sig y.name ≡ true → y.arity ≤ 3
      → runs ready_for (command_written st.sort_name sig (declare y)) ≡ some (added st (declare y))
  unfolding step
  run_declare y sort new small =
      let name : List ℕ = y.name in
      let n : ℕ = y.arity in
      let R : List Token = replicate n (symbol st.sort_name) in
      let u : Token = sort_written st.sort_name y.result in
      let e : 0 + n ≡ n = omega arith in
      runs_step (goes st declaring) (goes st (exact opening (taking name 0))) (symbol name) (opening ∷ (R ++ (closing ∷ u ∷ closing ∷ [])))
      (ap (λ (b : Bool). unless_not b (goes st (exact opening (taking name 0)))) new)
      ∙ runs_append (goes st (taking name 0)) (goes st (taking name n)) R (closing ∷ u ∷ closing ∷ [])
      (run_taking name n 0 (omega arith) ∙ ap (λ (m : ℕ). some (goes st (taking name m))) e)
      ∙ runs_step (goes st (giving name n)) (gave st name n y.result) u (closing ∷ []) (run_giving name n y.result sort)

-- commands, one after the other
abbrev between : List ℕ → List Command → State
between sn cs = record { sort_name = sn; commands = cs; stage = exact opening commanding }

run_command : (sn : List ℕ) (cs : List Command) (c : Command) → Fresh (symbols_in cs) → new_sort sn ≡ true → command_right (symbols_in cs) c ≡ true
    → runs (between sn cs) (command_written sn (symbols_in cs) c) ≡ some (between sn (snoc cs c))
run_command sn cs (declare y) fresh sort e =
    let A = new_function (symbols_in cs) y.name in
    let B = leb y.arity 3 in
    run_declare (between sn cs) fresh y sort (and_left A B e) (leb-true y.arity 3 (and_right A B e))
run_command sn cs (assert t) fresh sort e = run_assert (between sn cs) fresh t e

fresh_after : (cs : List Command) (c : Command) → Fresh (symbols_in cs) → command_right (symbols_in cs) c ≡ true → Fresh (symbols_in (snoc cs c))
fresh_after cs c fresh e = subst Fresh (sym (symbols_snoc cs c)) (go c e)
  where
    go : (c : Command) → command_right (symbols_in cs) c ≡ true → Fresh (after (symbols_in cs) c)
    go (declare y) e = fresh_snoc (symbols_in cs) y fresh (and_left (new_function (symbols_in cs) y.name) (leb y.arity 3) e)
    go (assert t) e = fresh

run_commands : (sn : List ℕ) (ds cs : List Command) → Fresh (symbols_in cs) → new_sort sn ≡ true → commands_right (symbols_in cs) ds ≡ true
    → runs (between sn cs) (commands_written sn (symbols_in cs) ds) ≡ some (between sn (cs ++ ds))
run_commands sn [] cs fresh sort e = ap (λ (x : List Command). some (between sn x)) (sym (append-nil cs))
run_commands sn (d ∷ ds) cs fresh sort e =
    let A = command_right (symbols_in cs) d in
    let B = commands_right (after (symbols_in cs) d) ds in
    let q = sym (symbols_snoc cs d) in
    runs_append (between sn cs) (between sn (snoc cs d)) (command_written sn (symbols_in cs) d) (commands_written sn (after (symbols_in cs) d) ds)
    (run_command sn cs d fresh sort (and_left A B e))
    ∙ ap (λ (x : List Symbol). runs (between sn (snoc cs d)) (commands_written sn x ds)) q
    ∙ run_commands sn ds (snoc cs d) (fresh_after cs d fresh (and_left A B e)) sort (subst (λ (x : List Symbol). commands_right x ds ≡ true) q (and_right A B e))
    ∙ ap (λ (x : List Command). some (between sn x)) (append_assoc cs (d ∷ []) ds)

-- the state at the end of a script
abbrev pub ending : Script → State
ending s = record { sort_name = s.sort_name; commands = s.commands; stage = finished }

pub run_script : (s : Script) → script_right s ≡ true → runs start (written s) ≡ some (ending s)
unfolding step script_right written
run_script s e =
    let sn = s.sort_name in
    let cs = s.commands in
    let sort = and_left (new_sort sn) (commands_right [] cs) e in
    let last : List Token = opening ∷ word (ascii "check-sat") ∷ closing ∷ [] in
    let named : State = record { sort_name = sn; commands = []; stage = exact nought (exact closing (exact opening commanding)) } in
    runs_step (record { sort_name = []; commands = []; stage = naming }) named (symbol sn) (nought ∷ closing ∷ (commands_written sn [] cs ++ last))
    (ap (λ (b : Bool). unless_not b named) sort)
    ∙ runs_append (between sn []) (between sn cs) (commands_written sn [] cs) last
    (run_commands sn cs [] (λ k h. absurd (omega arith)) sort (and_right (new_sort sn) (commands_right [] cs) e))
