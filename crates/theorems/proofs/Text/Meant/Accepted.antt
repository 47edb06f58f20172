-- Check takes the last node of the problem of every right script within the limits, so decide's promise speaks of it (02, E1 and E2). Assumes nothing.
use mathlib.Core.Path.{◌≡◌, refl, sym, ap, ◌∙◌, subst}
use Prim.Native.Nat.{ℕ, suc, ◌+◌, ◌-◌, ◌<◌, ◌≤◌}
use native.Mathlib.Omega.{arith}
use mathlib.Core.Bool.{Bool, true, false, ◌&&◌, ◌||◌, false≢true}
use mathlib.Core.List.{List, [], ◌∷◌, ◌++◌, append_assoc, append-nil}
use mathlib.Core.Option.{Option, none, some}
use lib.ListN.{length, get_or, length-append, length-map, get_or-append}
use lib.Seq.{get_or-append_seam}
use lib.Dec.{ltb, leb}
use borrow.Author.Tests.{ltb-false, lt-ltb, leb-true}
use Rattle.definitions.specs.Lists.{snoc, first_failing, first_of}
use Rattle.definitions.specs.Problem.Node.{Node, node, no_node, plain}
use Rattle.definitions.specs.Problem.Ops.{Sort, term, formula, op_of, symbol_right, is_function, is_predicate}
use Rattle.definitions.specs.Problem.Check.{nodes_of, symbol_byte_right, first_wrong, is_term, functions_in, predicates_in, refuse_if}
use Rattle.definitions.specs.Problem.Asked.{last_node, refusal_of}
use Rattle.theorems.proofs.Tables.Back.{nodes_read}
use Rattle.theorems.proofs.Laws.Tests.{and_left, and_right, and_intro, or_left, or_right, none≢some}
use Rattle.definitions.specs.Text.Grammar.{Symbol, Terms, end, call, Command, declare, assert, Script, symbols_in, asserts_in, no_symbol, symbol_at, terms_right, one_formula, new_function, new_sort, commands_right, script_right}
use Rattle.definitions.specs.Text.Nodes.{Tree, operand, trees_of, Laid, lay, lay_all, joined, assert_trees, ended, nodes_of_script, bytes_of_script, byte_of, symbol_bytes, problem_of_script, limits, limits_of_script}
use Rattle.theorems.proofs.Text.Meant.Reading.{Small, byte_at, small_snoc, prefix_agrees}
use Rattle.theorems.proofs.Text.Meant.Bytes.{low}
use Rattle.theorems.proofs.Asked.Formed.{Named, bytes_nodes, bytes_layout}
use Rattle.theorems.proofs.Asked.Fewer.{within_taken}
use Rattle.theorems.proofs.Text.Meant.Sorted.{stood_lay, lay_wrong, AllSorted, all_wrong, wrong_snoc}
use Rattle.theorems.proofs.Text.Meant.SortedTerms.{One, AllOne, one_left4, row_one}

-- the byte of a symbol is a function's or a predicate's
function_byte : (n : ℕ) → n ≤ 3 → is_function (byte_of n term) ≡ true
function_byte n h = lt-ltb n 4 (omega arith)

predicate_byte : (n : ℕ) → n ≤ 3 → is_predicate (byte_of n formula) ≡ true
predicate_byte n h = and_intro (leb 16 (16 + n)) (ltb (16 + n) 20) (lt-ltb 15 (16 + n) (omega arith)) (lt-ltb (16 + n) 20 (omega arith))

byte_right : (n : ℕ) (s : Sort) → n ≤ 3 → symbol_byte_right (byte_of n s) ≡ true
byte_right n term h = or_left (is_function n) (is_predicate n) (function_byte n h)
byte_right n formula h = or_right (is_function (16 + n)) (is_predicate (16 + n)) (predicate_byte n h)

bytes_right : (sig : List Symbol) (i : ℕ) → Small sig → first_failing symbol_byte_right i (symbol_bytes sig) ≡ none
bytes_right [] i small = refl
bytes_right (y ∷ ys) i small = ap pick (byte_right y.arity y.result (small 0 (omega arith))) ∙ bytes_right ys (suc i) (λ k h. small (suc k) (omega arith))
  where
    pick : Bool → Option ℕ
    pick b = elim b [ true ↦ first_failing symbol_byte_right (suc i) (symbol_bytes ys) | false ↦ some i ]

rightly : (sig more : List Symbol) → Small sig → (k : ℕ) → k < length sig
    → ((symbol_at sig k).result ≡ term → symbol_right (symbol_bytes (sig ++ more)) (op_of 0) k ≡ true)
    × ((symbol_at sig k).result ≡ formula → symbol_right (symbol_bytes (sig ++ more)) (op_of 6) k ≡ true)
rightly sig more small k h =
    let full : List Symbol = sig ++ more in
    let l : k < length full = (let e = length-append sig more in omega arith) in
    let m : k < length (symbol_bytes full) = (let e = length-map full (λ y. byte_of y.arity y.result) in omega arith) in
    let same : symbol_at full k ≡ symbol_at sig k = get_or-append sig more no_symbol k h in
    let byte : get_or (symbol_bytes full) k 0 ≡ byte_of (symbol_at sig k).arity (symbol_at sig k).result = byte_at full k l ∙ ap (λ (y : Symbol). byte_of y.arity y.result) same in (
      λ e. and_intro (ltb k (length (symbol_bytes full))) (is_function (get_or (symbol_bytes full) k 0)) (lt-ltb k (length (symbol_bytes full)) m)
          (ap is_function (byte ∙ ap (byte_of (symbol_at sig k).arity) e) ∙ function_byte (symbol_at sig k).arity (small k h)),
      λ e. and_intro (ltb k (length (symbol_bytes full))) (is_predicate (get_or (symbol_bytes full) k 0)) (lt-ltb k (length (symbol_bytes full)) m)
          (ap is_predicate (byte ∙ ap (byte_of (symbol_at sig k).arity) e) ∙ predicate_byte (symbol_at sig k).arity (small k h)),
    )

-- what right commands assert, and what they declare
one_asserted : (sig more : List Symbol) → Small sig → (t : Terms) → terms_right sig one_formula t ≡ true → One (symbol_bytes (sig ++ more)) formula (operand (trees_of t) 0)
one_asserted sig more small end e = absurd (false≢true e)
one_asserted sig more small (call h args rest) e =
    (row_one (symbol_bytes (sig ++ more)) sig (prefix_agrees sig more small) (rightly sig more small) (call h args rest) (formula ∷ []) none e).0

all_asserted : (sig : List Symbol) (cs : List Command) → Small sig → commands_right sig cs ≡ true
    → AllOne (symbol_bytes (sig ++ symbols_in cs)) formula (assert_trees (asserts_in cs)) × Small (sig ++ symbols_in cs)
all_asserted sig [] small e = (tt, subst Small (sym (append-nil sig)) small)
all_asserted sig (declare y ∷ cs) small e =
    let A = new_function sig y.name in
    let B = leb y.arity 3 in
    let C = commands_right (snoc sig y) cs in
    let three : y.arity ≤ 3 = leb-true y.arity 3 (and_right A B (and_left (A && B) C e)) in
    subst (λ (full : List Symbol). AllOne (symbol_bytes full) formula (assert_trees (asserts_in cs)) × Small full) (append_assoc sig (y ∷ []) (symbols_in cs))
    (all_asserted (snoc sig y) cs (small_snoc sig y small three) (and_right (A && B) C e))
all_asserted sig (assert t ∷ cs) small e =
    let A = terms_right sig one_formula t in
    let rest = all_asserted sig cs small (and_right A (commands_right sig cs) e) in
    ((one_asserted sig (symbols_in cs) small t (and_left A (commands_right sig cs) e), rest.0), rest.1)

module _ (symbols : List ℕ) where
  all_sorted : (xs : List Tree) → AllOne symbols formula xs → AllSorted symbols xs
  all_sorted [] a = tt
  all_sorted (x ∷ xs) a = (a.0.0, all_sorted xs a.1)

  joined_one : (xs : List Tree) → AllOne symbols formula xs → One symbols formula (joined xs)
  joined_one [] a = ((tt, tt, tt, refl, (tt, (tt, (tt, tt)))), tt, refl)
  joined_one (x ∷ xs) a = one_left4 symbols x xs a.0 a.1

  ended_right : (xs : List Tree) → AllOne symbols formula xs → first_wrong symbols [] (ended (lay (joined xs) (lay_all xs []))) ≡ none
  ended_right xs a =
      let j = joined_one xs a in
      let l = lay (joined xs) (lay_all xs []) in
      let s = (stood_lay (joined xs) (lay_all xs [])).there j.1 in
      wrong_snoc symbols [] l.table (plain 3 l.number 0 0) (lay_wrong symbols (joined xs) (lay_all xs []) j.0 (all_wrong symbols xs [] (all_sorted xs a) refl))
      (rw (lt-ltb l.number (length l.table) s.0, s.1, j.2) refl)

-- what the limits say
pub record WithinLimits (symbols : List ℕ) (t : List Node) : Type 0 where
  pub symbols_fit : ltb 32 (length symbols) ≡ false
  pub nodes_fit : ltb 256 (length t) ≡ false
  pub functions_fit : ltb 24 (functions_in t) ≡ false
  pub predicates_fit : ltb 16 (predicates_in t) ≡ false

limit_parts : (symbols : List ℕ) (t : List Node) → limits symbols t ≡ none → WithinLimits symbols t
limit_parts symbols t e = go (ltb 32 (length symbols)) (ltb 256 (length t)) (ltb 24 (functions_in t)) (ltb 16 (predicates_in t)) refl refl refl refl e
  where
    go : (a b c d : Bool) → ltb 32 (length symbols) ≡ a → ltb 256 (length t) ≡ b → ltb 24 (functions_in t) ≡ c → ltb 16 (predicates_in t) ≡ d
        → first_of (refuse_if (a || b) 4 ∷ refuse_if c 9 ∷ refuse_if d 10 ∷ []) ≡ none → WithinLimits symbols t
    go true b c d p q r s e' = absurd (none≢some (sym e'))
    go false true c d p q r s e' = absurd (none≢some (sym e'))
    go false false true d p q r s e' = absurd (none≢some (sym e'))
    go false false false true p q r s e' = absurd (none≢some (sym e'))
    go false false false false p q r s e' = record { symbols_fit = p; nodes_fit = q; functions_fit = r; predicates_fit = s }

of_script : (s : Script) → script_right s ≡ true
    → (first_failing symbol_byte_right 0 (bytes_of_script s) ≡ none) × (first_wrong (bytes_of_script s) [] (nodes_of_script s) ≡ none) × (0 < length (nodes_of_script s))
    × (is_term (node (nodes_of_script s) (length (nodes_of_script s) - 1)) ≡ false)
unfolding script_right bytes_of_script nodes_of_script
of_script s e =
    let cs = s.commands in
    let a = all_asserted [] cs (λ k h. absurd (omega arith)) (and_right (new_sort s.sort_name) (commands_right [] cs) e) in
    let ts : List Tree = assert_trees (asserts_in cs) in
    let l : Laid = lay (joined ts) (lay_all ts []) in
    let n : Node = plain 3 l.number 0 0 in
    let len : length (ended l) ≡ length l.table + 1 = length-append l.table (n ∷ []) in
    let last : node (ended l) (length (ended l) - 1) ≡ n = ap (node (ended l)) (let q : length (ended l) - 1 ≡ length l.table = omega arith in q) ∙ get_or-append_seam l.table n [] no_node in
    (bytes_right (symbols_in cs) 0 a.1, ended_right (symbol_bytes (symbols_in cs)) ts a.0, omega arith, ap is_term last)

-- the bytes of the problem give back the script's nodes
script_back : (s : Script) → script_right s ≡ true → limits_of_script s ≡ none → nodes_of (problem_of_script s) ≡ nodes_of_script s
unfolding limits_of_script problem_of_script
script_back s e l =
    let few = ltb-false 256 (length (nodes_of_script s)) (limit_parts (bytes_of_script s) (nodes_of_script s) l).nodes_fit in
    nodes_read (bytes_of_script s) (nodes_of_script s) (omega arith) (low s few)

-- the whole problem, with its last node named
pub script_named : (s : Script) → script_right s ≡ true → limits_of_script s ≡ none → Named (problem_of_script s) (last_node (problem_of_script s))
unfolding limits_of_script problem_of_script
script_named s e l =
    let y : List ℕ = bytes_of_script s in
    let t : List Node = nodes_of_script s in
    let w = limit_parts y t l in
    let parts = of_script s e in
    let few = ltb-false 256 (length t) w.nodes_fit in
    let some-there = parts.2 in
    let few_symbols = ltb-false 32 (length y) w.symbols_fit in
    let back = bytes_nodes y t few_symbols some-there few (low s few) parts.0 parts.1 in
    record {
      table = bytes_layout y t few_symbols some-there few (low s few) parts.0 parts.1;
      is_node = (let n = ap length back in omega arith);
      is_formula = ap (λ (u : List Node). is_term (node u (length u - 1))) back ∙ parts.3;
    }

-- its root reaches no more applications than there are, so that 9 and 10 do not refuse it either
pub problem_taken : (s : Script) → script_right s ≡ true → limits_of_script s ≡ none
    → refusal_of (problem_of_script s) (last_node (problem_of_script s)) ≡ none
unfolding limits_of_script
problem_taken s e l =
    let w = limit_parts (bytes_of_script s) (nodes_of_script s) l in
    within_taken (problem_of_script s) (last_node (problem_of_script s)) (script_named s e l)
    (subst (λ (u : List Node). functions_in u ≤ 24) (sym (script_back s e l)) (ltb-false 24 (functions_in (nodes_of_script s)) w.functions_fit))
    (subst (λ (u : List Node). predicates_in u ≤ 16) (sym (script_back s e l)) (ltb-false 16 (predicates_in (nodes_of_script s)) w.predicates_fit))
