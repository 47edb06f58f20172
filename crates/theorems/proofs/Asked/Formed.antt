-- Trimming keeps well-formedness and truth (02, E2): where the whole table passes 1 to 7 and the root is a formula node, the problem asked
-- passes 1 to 7 and its last node is a formula; and it is true exactly where the named root is. Assumes nothing.
use mathlib.Core.Path.{◌≡◌, refl, sym, ap, ap₂, ◌∙◌, subst}
use Prim.Native.Nat.{ℕ, zero, suc, ◌+◌, ◌-◌, ◌<◌, ◌≤◌}
use native.Mathlib.Omega.{arith}
use mathlib.Core.Bool.{Bool, false, ◌||◌}
use mathlib.Core.List.{List, [], ◌∷◌, ◌++◌, map}
use mathlib.Core.Option.{Option, none}
use lib.ListN.{length, get_or, take, drop, length-drop, take-append-drop, get_or-append}
use lib.Seq.{get_or-take, length-take-le}
use lib.Dec.{leb}
use borrow.Author.Tests.{leb-false, lt-leb}
use Rattle.definitions.specs.Lists.{first_failing, first_of}
use Rattle.definitions.specs.Problem.Node.{Node, node, no_node, problem_bytes}
use Rattle.definitions.specs.Problem.Ops.{operands_of}
use Rattle.definitions.specs.Problem.Check.{symbol_count, node_count, symbols_of, nodes_of, symbol_byte_right, first_wrong, is_term, refuse_if, layout_conditions, layout_refusal}
use Rattle.definitions.specs.Logic.{Interpretation, Value, number, truth_of, value_at, truth_at, node_value, values, holds, holds_at}
use Rattle.theorems.proofs.Laws.First.{all_none, none_left, none_right, none_both, first_none, first_append}
use Rattle.theorems.proofs.Accepted.{or_false_left, or_false_right, if_none, length_nodes_at, Layout, layout_of, layout_none, Formed, Accepted, accept_limits}
use Rattle.theorems.proofs.Laws.Grown.{grown_prefix, length_grown}
use Rattle.definitions.specs.Problem.Asked.{reached, number_in, renumbered, trimmed, asked, root_wrong, ask_conditions, ask_refusal, limit_conditions, limit_refusal, check_conditions, refusal_of}
use Rattle.theorems.proofs.Tables.Back.{Low, two_back, symbols_back, nodes_read, problem_length}
use Rattle.theorems.proofs.Asked.Numbers.{number_few}
use Rattle.theorems.proofs.Asked.Trimmed.{wrong_take, AllUsed, length_trimmed, trimmed_at, trimmed_right, reached_some, reached_few, trimmed_last, trimmed_root, trimmed_used}

-- what refuses a root, from what refuses the table
pub ask_by : (s : List ℕ) (root : ℕ) → ask_refusal s root ≡ first_of (layout_refusal s ∷ refuse_if (root_wrong (nodes_of s) root) 16 ∷ [])
unfolding ask_refusal layout_refusal
ask_by s root = sym (first_append (layout_conditions s) (refuse_if (root_wrong (nodes_of s) root) 16 ∷ []))

-- what it is for a root to be asked
pub record Named (s : List ℕ) (root : ℕ) : Type 0 where
  pub table : Layout s
  pub is_node : root < length (nodes_of s)
  pub is_formula : is_term (node (nodes_of s) root) ≡ false

pub named : (s : List ℕ) (root : ℕ) → ask_refusal s root ≡ none → Named s root
unfolding ask_refusal
named s root e =
    let c = all_none (ask_conditions s root) e in
    let t = nodes_of s in
    let out = leb (length t) root in
    let last = none_right (layout_conditions s) (refuse_if (root_wrong t root) 16 ∷ []) c in
    let w = if_none (out || is_term (node t root)) 16 last.0 in
    record {
      table = layout_of s (none_left (layout_conditions s) (refuse_if (root_wrong t root) 16 ∷ []) c);
      is_node = leb-false (length t) root (or_false_left out (is_term (node t root)) w);
      is_formula = or_false_right out (is_term (node t root)) w;
    }

pub named_none : (s : List ℕ) (root : ℕ) → Named s root → ask_refusal s root ≡ none
unfolding ask_refusal
named_none s root ok =
    first_none (ask_conditions s root)
    (none_both (layout_conditions s) (refuse_if (root_wrong (nodes_of s) root) 16 ∷ []) (layout_none s ok.table) (
      rw (lt-leb (length (nodes_of s)) root ok.is_node, ok.is_formula) refl,
      tt,
    ))

-- a table that is right, as problem bytes
module _
    (symbols : List ℕ)
    (t : List Node)
    (few_symbols : length symbols ≤ 32)
    (some_nodes : 0 < length t)
    (few_nodes : length t ≤ 256)
    (lows : (k : ℕ) → k < length t → Low (node t k))
    (bytes : first_failing symbol_byte_right 0 symbols ≡ none)
    (right : first_wrong symbols [] t ≡ none) where
  abbrev bs : List ℕ
  bs = problem_bytes symbols t

  pub bytes_nodes : nodes_of bs ≡ t
  bytes_nodes = nodes_read symbols t (omega arith) lows

  pub bytes_layout : Layout bs
  bytes_layout =
      let n : node_count bs ≡ length t = two_back (length t) (omega arith) in
      let l = problem_length symbols t in
      record {
        header = omega arith;
        letters = refl;
        version = refl;
        few_symbols = few_symbols;
        some_nodes = omega arith;
        few_nodes = omega arith;
        whole = omega arith;
        symbols_right = ap (first_failing symbol_byte_right 0) (symbols_back symbols t) ∙ bytes;
        nodes_right =
            ap₂ {C = Option ℕ} (λ (y : List ℕ) (u : List Node). first_wrong y [] u) (symbols_back symbols t) bytes_nodes ∙ right;
      }

at_most : (f : ℕ → ℕ) (m : ℕ) → ((k : ℕ) → f k ≤ m) → (xs : List ℕ) (i : ℕ) → get_or (map f xs) i 0 ≤ m
at_most f m h [] i = omega arith
at_most f m h (x ∷ xs) zero = h x
at_most f m h (x ∷ xs) (suc i) = at_most f m h xs i

-- a longer table keeps the values of its first part
values_kept : (I : Interpretation) (symbols : List ℕ) (t more : List Node) (k : ℕ) → k < length t → value_at (values I symbols (t ++ more)) k ≡ value_at (values I symbols t) k
values_kept I symbols t more k h =
    let q = grown_prefix (node_value I symbols) t more in
    let l : k < length (values I symbols t) = (let e = length_grown (node_value I symbols) t in omega arith) in
    ap (λ (vs : List Value). value_at vs k) q.1 ∙ get_or-append (values I symbols t) q.0 (number 0) k l

-- the problem asked of a root
module _ (s : List ℕ) (root : ℕ) (ok : Named s root) where
  abbrev symbols : List ℕ
  symbols = symbols_of s

  abbrev cut : List Node
  cut = take (suc root) (nodes_of s)

  -- the nodes of the problem asked
  abbrev pub trim : List Node
  trim = trimmed symbols cut

  cut_length : length cut ≡ suc root
  cut_length = let h = ok.is_node in length-take-le (suc root) (nodes_of s) (omega arith)

  pub cut_right : first_wrong symbols [] cut ≡ none
  cut_right = let h = ok.is_node in wrong_take symbols (suc root) (nodes_of s) (omega arith) ok.table.nodes_right

  cut_root : node cut root ≡ node (nodes_of s) root
  cut_root = get_or-take (suc root) (nodes_of s) root no_node (omega arith)

  few : length (reached symbols cut) ≤ 256
  few =
      let a = reached_few symbols cut cut_right root cut_length in
      let h = ok.is_node in
      let n = ok.table.few_nodes in
      let e = length_nodes_at s (8 + symbol_count s) (node_count s) in
      omega arith

  symbols_few : length symbols ≤ 32
  symbols_few =
      let w = ok.table.whole in
      let d = length-drop 8 s in
      let e = length-take-le (symbol_count s) (drop 8 s) (omega arith) in
      let l = ok.table.few_symbols in
      omega arith

  trim_some : 0 < length trim
  trim_some =
      let a = length_trimmed symbols cut cut_right in
      let b = reached_some symbols cut cut_right root cut_length in
      omega arith

  trim_few : length trim ≤ 256
  trim_few = let a = length_trimmed symbols cut cut_right in let b = few in omega arith

  trim_low : (k : ℕ) → k < length trim → Low (node trim k)
  trim_low k h =
      let r = reached symbols cut in
      let a = length_trimmed symbols cut cut_right in
      let f = few in
      let n : Node = node cut (get_or r k 0) in
      let ks : List ℕ = operands_of symbols n in
      let bound : (i : ℕ) → get_or (map (number_in r) ks) i 0 ≤ length r = at_most (number_in r) (length r) (number_few r) ks in
      subst Low (sym (trimmed_at symbols cut cut_right k (omega arith)))
      (let x = bound 0 in omega arith, let x = bound 1 in omega arith, let x = bound 2 in omega arith)

  trim_right : first_wrong symbols [] trim ≡ none
  trim_right = trimmed_right symbols cut cut_right

  trim_last : is_term (node trim (length trim - 1)) ≡ false
  trim_last =
      ap is_term (trimmed_last symbols cut cut_right root cut_length)
      ∙ ap is_term cut_root ∙ ok.is_formula

  -- the problem asked gives back the symbols and the trimmed nodes
  pub asked_symbols : symbols_of (asked s root) ≡ symbols
  unfolding asked
  asked_symbols = symbols_back symbols trim

  pub asked_nodes : nodes_of (asked s root) ≡ trim
  unfolding asked
  asked_nodes = bytes_nodes symbols trim symbols_few trim_some trim_few trim_low ok.table.symbols_right trim_right

  -- it passes 1 to 7
  pub asked_layout : Layout (asked s root)
  unfolding asked
  asked_layout = bytes_layout symbols trim symbols_few trim_some trim_few trim_low ok.table.symbols_right trim_right

  -- and its last node is a formula, so that only 9 and 10 can refuse it
  pub asked_formed : Formed (asked s root)
  asked_formed =
      record { layout = asked_layout; formula_asked = ap (λ (u : List Node). is_term (node u (length u - 1))) asked_nodes ∙ trim_last }

  -- its last node is the named root, renumbered
  pub asked_last : node (nodes_of (asked s root)) (length (nodes_of (asked s root)) - 1) ≡ renumbered symbols (reached symbols cut) (node (nodes_of s) root)
  asked_last =
      ap (λ (u : List Node). node u (length u - 1)) asked_nodes ∙ trimmed_last symbols cut cut_right root cut_length
      ∙ ap (renumbered symbols (reached symbols cut)) cut_root

  -- every node of it but the last is an operand in use of a later one
  pub asked_used : AllUsed (symbols_of (asked s root)) (nodes_of (asked s root)) (length (nodes_of (asked s root)) - 1)
  asked_used =
      subst (λ (y : List ℕ). AllUsed y (nodes_of (asked s root)) (length (nodes_of (asked s root)) - 1)) (sym asked_symbols)
      (subst (λ (u : List Node). AllUsed symbols u (length u - 1)) (sym asked_nodes) (trimmed_used symbols cut cut_right root cut_length))

  -- it is true exactly where the named root is
  pub asked_holds : (I : Interpretation) → holds I (asked s root) ≡ holds_at I s root
  unfolding holds holds_at
  asked_holds I =
      let q : value_at (values I symbols (nodes_of s)) root ≡ value_at (values I symbols cut) root =
      ap (λ (t : List Node). value_at (values I symbols t) root) (sym (take-append-drop (suc root) (nodes_of s)))
      ∙ values_kept I symbols cut (drop (suc root) (nodes_of s)) root (let e = cut_length in omega arith)
      in
      ap₂ {C = Bool} (λ (y : List ℕ) (u : List Node). truth_at (values I y u) (length u - 1)) asked_symbols asked_nodes
      ∙ ap truth_of (trimmed_root symbols cut cut_right root cut_length I ∙ sym q)

-- where nothing refuses, the root is a formula node of a table that is right, and the problem asked is accepted
pub accepted : (s : List ℕ) (root : ℕ) → refusal_of s root ≡ none → Named s root × Accepted (asked s root)
unfolding refusal_of ask_refusal limit_refusal
accepted s root e =
    let c = all_none (check_conditions s root) e in
    let ok = named s root (first_none (ask_conditions s root) (none_left (ask_conditions s root) (limit_conditions (asked s root)) c)) in (
      ok,
      accept_limits (asked s root) (asked_formed s root ok)
          (first_none (limit_conditions (asked s root)) (none_right (ask_conditions s root) (limit_conditions (asked s root)) c)),
    )
