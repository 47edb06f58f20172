-- Reading the nodes gives the meaning: in every interpretation the last node of a right script's table is true exactly when the
-- asserts joined by "and" are not (02, E1: "Prove that the problem is true exactly when that negation is"). Assumes nothing.
use mathlib.Core.Path.{◌≡◌, refl, sym, ap, ap₂, ◌∙◌, subst}
use Prim.Native.Nat.{ℕ, zero, suc, ◌+◌, ◌-◌, ◌%◌, ◌<◌, ◌≤◌}
use native.Mathlib.Omega.{arith}
use mathlib.Core.Bool.{Bool, true, false, not, ◌&&◌, false≢true}
use mathlib.Core.List.{List, [], ◌∷◌, ◌++◌, map, append_assoc}
use lib.ListN.{length, get_or, replicate, length-append, length-replicate, get_or-append}
use lib.Seq.{get_or-append_seam}
use lib.Dec.{leb}
use Rattle.definitions.specs.Lists.{snoc, all}
use Rattle.definitions.specs.Problem.Node.{Node, node, no_node, plain}
use Rattle.definitions.specs.Problem.Ops.{Sort, term, formula, arity, same_sort}
use Rattle.definitions.specs.Logic.{Interpretation, Value, truth_of, truth_at, node_value, values}
use Rattle.theorems.proofs.Laws.Tests.{and_left, and_right}
use borrow.Author.Tests.{ltb-true, leb-true}
use Rattle.theorems.proofs.Tables.Fixed.{value_fixed}
use Rattle.definitions.specs.Text.Grammar.{Symbol, Head, declared, ite, equals, negation, conjunction, disjunction, implication, verum, falsum, Terms, end, call, Command, declare, assert, Script, symbols_in, asserts_in, no_symbol, symbol_at, Wanted, exactly, two_or_more, wanted_by, sort_of_head, next, left, is_wanted, head_right, terms_right, one_formula, new_function, new_sort, commands_right, script_right}
use Rattle.definitions.specs.Text.Meaning.{head_value, values_of, term_true, asserts_true}
use Rattle.definitions.specs.Text.Nodes.{Tree, operand, trees_of, Laid, lay, lay_all, joined, assert_trees, ended, nodes_of_script, byte_of, symbol_bytes, bytes_of_script}
use Rattle.theorems.proofs.Text.Meant.Shared.{Earlier, snoc_earlier, values_kept}
use Rattle.theorems.proofs.Text.Meant.Laying.{tree_value, AllFull, lay_right, all_earlier}
use Rattle.theorems.proofs.Text.Meant.Paired.{Good, AllGood, Fits, head_good, head_value_lem, good_leftward4, and_all}

-- the four parts of a right call
pub record Parts (sig : List Symbol) (w : Wanted) (h : Head) (args rest : Terms) : Type 0 where
  pub known : head_right sig h ≡ true
  pub asked : is_wanted (next w) (sort_of_head h) ≡ true
  pub inner : terms_right sig (wanted_by sig h) args ≡ true
  pub after : terms_right sig (left w) rest ≡ true

pub parts : (sig : List Symbol) (w : Wanted) (h : Head) (args rest : Terms) → terms_right sig w (call h args rest) ≡ true → Parts sig w h args rest
parts sig w h args rest e =
    let A = head_right sig h in
    let B = is_wanted (next w) (sort_of_head h) in
    let C = terms_right sig (wanted_by sig h) args in
    let D = terms_right sig (left w) rest in
    let abc = and_left (A && B && C) D e in
    let ab = and_left (A && B) C abc in
    record { known = and_left A B ab; asked = and_right A B ab; inner = and_right (A && B) C abc; after = and_right (A && B && C) D e }

module _ (sig : List Symbol) where
  -- as many as are wanted
  exact_length : (ss : List Sort) (row : Terms) → terms_right sig (exactly ss) row ≡ true → length (trees_of row) ≡ length ss
  exact_length [] end e = refl
  exact_length (s ∷ ss) end e = absurd (false≢true e)
  exact_length [] (call h args rest) e = absurd (false≢true (parts sig (exactly []) h args rest e).asked)
  exact_length (s ∷ ss) (call h args rest) e =
      ap suc (exact_length ss rest (parts sig (exactly (s ∷ ss)) h args rest e).after)

  two_length : (s : Sort) (row : Terms) → terms_right sig (two_or_more s) row ≡ true → 2 ≤ length (trees_of row)
  two_length s end e = absurd (false≢true e)
  two_length s (call h args end) e = absurd (false≢true (parts sig (two_or_more s) h args end e).after)
  two_length s (call h args (call g more rest)) e = omega arith

module _ (sig : List Symbol) (symbols : List ℕ)
    (agrees : (k : ℕ) → k < length sig → (arity symbols k ≡ (symbol_at sig k).arity) × ((symbol_at sig k).arity ≤ 3)) where
  pub head_fits : (h : Head) (args : Terms) → head_right sig h ≡ true → terms_right sig (wanted_by sig h) args ≡ true → Fits symbols h (trees_of args)
  head_fits (declared s k) args p e =
      let n = (symbol_at sig k).arity in
      let a = agrees k (ltb-true k (length sig) (and_left _ (same_sort (symbol_at sig k).result s) p)) in
      let l : length (trees_of args) ≡ n = exact_length sig (replicate n term) args e ∙ length-replicate n term in
      let x = a.1 in
      (a.0 ∙ sym l, omega arith)
  head_fits (ite s) args p e = exact_length sig (formula ∷ s ∷ s ∷ []) args e
  head_fits equals args p e = two_length sig term args e
  head_fits negation args p e = exact_length sig (formula ∷ []) args e
  head_fits conjunction args p e = two_length sig formula args e
  head_fits disjunction args p e = two_length sig formula args e
  head_fits implication args p e = two_length sig formula args e
  head_fits verum args p e = exact_length sig [] args e
  head_fits falsum args p e = exact_length sig [] args e

  -- the trees of right terms are whole, and have the values of the terms
  pub row_good : (w : Wanted) (row : Terms) → terms_right sig w row ≡ true → AllGood symbols (trees_of row)
  row_good w end e = tt
  row_good w (call h args rest) e =
      let p = parts sig w h args rest e in (
        head_good symbols h (trees_of args) (head_fits h args p.known p.inner) (row_good (wanted_by sig h) args p.inner),
        row_good (left w) rest p.after,
      )

  pub row_values : (I : Interpretation) (w : Wanted) (row : Terms) → terms_right sig w row ≡ true → map (tree_value I symbols) (trees_of row) ≡ values_of I row
  row_values I w end e = refl
  row_values I w (call h args rest) e =
      let p = parts sig w h args rest e in
      ap₂ {C = List Value} (λ v vs. v ∷ vs)
      (head_value_lem I symbols h (trees_of args) (head_fits h args p.known p.inner)
      ∙ ap (head_value I h) (row_values I (wanted_by sig h) args p.inner))
      (row_values I (left w) rest p.after)

-- the symbol bytes say the arities
pub byte_at : (sig : List Symbol) (k : ℕ) → k < length sig → get_or (symbol_bytes sig) k 0 ≡ byte_of (symbol_at sig k).arity (symbol_at sig k).result
byte_at [] k h = absurd (omega arith)
byte_at (y ∷ ys) zero h = refl
byte_at (y ∷ ys) (suc k) h = byte_at ys k (omega arith)

byte_arity : (n : ℕ) (s : Sort) → n ≤ 3 → byte_of n s % 16 ≡ n
byte_arity n term h = omega arith
byte_arity n formula h = omega arith

-- no symbol takes more than three arguments
abbrev pub Small : List Symbol → Type 0
Small sig = (k : ℕ) → k < length sig → (symbol_at sig k).arity ≤ 3

pub prefix_agrees : (sig more : List Symbol) → Small sig → (k : ℕ) → k < length sig
    → (arity (symbol_bytes (sig ++ more)) k ≡ (symbol_at sig k).arity) × ((symbol_at sig k).arity ≤ 3)
prefix_agrees sig more small k h =
    let same : symbol_at (sig ++ more) k ≡ symbol_at sig k = get_or-append sig more no_symbol k h in
    let l : k < length (sig ++ more) = (let e = length-append sig more in omega arith) in (
      ap (λ (b : ℕ). b % 16) (byte_at (sig ++ more) k l)
          ∙ ap (λ (y : Symbol). byte_of y.arity y.result % 16) same
          ∙ byte_arity (symbol_at sig k).arity (symbol_at sig k).result (small k h),
      small k h,
    )

pub small_snoc : (sig : List Symbol) (y : Symbol) → Small sig → y.arity ≤ 3 → Small (snoc sig y)
small_snoc [] y small h zero l = h
small_snoc [] y small h (suc k) l = absurd (omega arith)
small_snoc (x ∷ xs) y small h zero l = small 0 (omega arith)
small_snoc (x ∷ xs) y small h (suc k) l = small_snoc xs y (λ j m. small (suc j) (omega arith)) h k (omega arith)

-- an interpretation, where one is asked for and any will do
pub anything : Interpretation
anything = record { function = λ k xs. 0; predicate = λ k xs. false }

module _ (I : Interpretation) where
  -- one asserted term
  one_good : (sig more : List Symbol) → Small sig → (t : Terms) → terms_right sig one_formula t ≡ true
      → Good (symbol_bytes (sig ++ more)) (operand (trees_of t) 0)
  one_good sig more small end e = absurd (false≢true e)
  one_good sig more small (call h args rest) e =
      (row_good sig (symbol_bytes (sig ++ more)) (prefix_agrees sig more small) one_formula (call h args rest) e).0

  one_true : (sig more : List Symbol) → Small sig → (t : Terms) → terms_right sig one_formula t ≡ true
      → truth_of (tree_value I (symbol_bytes (sig ++ more)) (operand (trees_of t) 0)) ≡ term_true I t
  one_true sig more small end e = absurd (false≢true e)
  one_true sig more small (call h args rest) e =
      ap (λ (vs : List Value). truth_at vs 0)
      (row_values sig (symbol_bytes (sig ++ more)) (prefix_agrees sig more small) I one_formula (call h args rest) e)

  -- all that a right list of commands asserts, after these declarations
  pub record Asserted (symbols : List ℕ) (ts : List Terms) : Type 0 where
    pub good : AllGood symbols (assert_trees ts)
    pub true_together : all truth_of (map (tree_value I symbols) (assert_trees ts)) ≡ all (term_true I) ts

  pub asserted : (sig : List Symbol) (cs : List Command) → Small sig → commands_right sig cs ≡ true
      → Asserted (symbol_bytes (sig ++ symbols_in cs)) (asserts_in cs)
  asserted sig [] small e = record { good = tt; true_together = refl }
  asserted sig (declare y ∷ cs) small e =
      let A = new_function sig y.name in
      let B = leb y.arity 3 in
      let C = commands_right (snoc sig y) cs in
      let three : y.arity ≤ 3 = leb-true y.arity 3 (and_right A B (and_left (A && B) C e)) in
      subst (λ (all : List Symbol). Asserted (symbol_bytes all) (asserts_in cs)) (append_assoc sig (y ∷ []) (symbols_in cs))
      (asserted (snoc sig y) cs (small_snoc sig y small three) (and_right (A && B) C e))
  asserted sig (assert t ∷ cs) small e =
      let A = terms_right sig one_formula t in
      let right = and_left A (commands_right sig cs) e in
      let rest = asserted sig cs small (and_right A (commands_right sig cs) e) in
      record {
        good = (one_good sig (symbols_in cs) small t right, rest.good);
        true_together = ap₂ {C = Bool} (λ (a b : Bool). a && b) (one_true sig (symbols_in cs) small t right) rest.true_together;
      }

  pub full_of : (symbols : List ℕ) (xs : List Tree) → AllGood symbols xs → AllFull symbols xs
  full_of symbols [] g = tt
  full_of symbols (x ∷ xs) g = (g.0.0, full_of symbols xs g.1)

  pub joined_good : (symbols : List ℕ) (xs : List Tree) → AllGood symbols xs → Good symbols (joined xs)
  joined_good symbols [] g = ((tt, tt, tt, tt, (tt, (tt, (tt, tt)))), tt)
  joined_good symbols (x ∷ xs) g = good_leftward4 symbols x xs g.0 g.1

  joined_true : (symbols : List ℕ) (xs : List Tree) → truth_of (tree_value I symbols (joined xs)) ≡ all truth_of (map (tree_value I symbols) xs)
  joined_true symbols [] = refl
  joined_true symbols (x ∷ xs) = and_all I symbols x xs

  pub ended_last : (l : Laid) → length (ended l) - 1 ≡ length l.table
  ended_last l = let e = length-append l.table (plain 3 l.number 0 0 ∷ []) in omega arith

  -- the negation that ends the table
  ended_true : (symbols : List ℕ) (x : Tree) (t : List Node) → Good symbols x → Earlier symbols t
      → truth_at (values I symbols (ended (lay x t))) (length (lay x t).table) ≡ not (truth_of (tree_value I symbols x))
  ended_true symbols x t g earlier =
      let l = lay x t in
      let r = lay_right symbols x t g.0 earlier in
      let k : ℕ = length l.table in
      let n : Node = plain 3 l.number 0 0 in
      let u : List Node = ended l in
      let inside = r.inside g.1 in
      let at : node u k ≡ n = get_or-append_seam l.table n [] no_node in
      let more : k < length u = (let e : length u ≡ k + 1 = length-append l.table (n ∷ []) in omega arith) in
      ap truth_of
      (value_fixed I symbols u k more (snoc_earlier symbols l.table n r.earlier (inside, tt) k more)
      ∙ ap (node_value I symbols (values I symbols u)) at)
      ∙ ap (λ (v : Value). not (truth_of v)) (values_kept I symbols l.table (n ∷ []) l.number inside ∙ r.value I g.1)

  -- the last node of the table of a right script
  pub nodes_mean : (s : Script) → script_right s ≡ true
      → truth_at (values I (bytes_of_script s) (nodes_of_script s)) (length (nodes_of_script s) - 1) ≡ not (asserts_true I s)
  unfolding script_right bytes_of_script nodes_of_script asserts_true
  nodes_mean s e =
      let cs = s.commands in
      let symbols : List ℕ = symbol_bytes (symbols_in cs) in
      let ts : List Tree = assert_trees (asserts_in cs) in
      let a = asserted [] cs (λ k h. absurd (omega arith)) (and_right (new_sort s.sort_name) (commands_right [] cs) e) in
      let x : Tree = joined ts in
      let t : List Node = lay_all ts [] in
      ap (truth_at (values I symbols (ended (lay x t)))) (ended_last (lay x t))
      ∙ ended_true symbols x t (joined_good symbols ts a.good) (all_earlier symbols ts [] (full_of symbols ts a.good) (λ k h. absurd (omega arith)))
      ∙ ap not (joined_true symbols ts ∙ a.true_together)
