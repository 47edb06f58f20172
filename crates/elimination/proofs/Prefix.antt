-- The first k nodes of an accepted problem: they are right, elimination of them is a state on the way, and nothing in it is too
-- large. Assumes nothing.
use mathlib.Core.Path.{◌≡◌, refl, sym, ap, ◌∙◌}
use Prim.Native.Nat.{ℕ, zero, suc, ◌+◌, ◌*◌, ◌≤◌, ◌<◌}
use native.Mathlib.Omega.{arith}
use native.Mathlib.Numerals.{add-one}
use mathlib.Core.Bool.{Bool, true, false, not, ◌&&◌}
use mathlib.Core.List.{List, [], ◌∷◌, ◌++◌, append_assoc, append-nil}
use mathlib.Core.Option.{Option, none, some}
use lib.ListN.{length, get_or, take}
use lib.Seq.{take-suc, length-take-le}
use lib.Dec.{eqb}
use Rattle.definitions.specs.Lists.{any, snoc, keep}
use Rattle.definitions.specs.Problem.Node.{Node, node, no_node, same}
use Rattle.definitions.specs.Problem.Ops.{op_of, is_app, node_right}
use Rattle.definitions.specs.Problem.Check.{symbol_count, node_count, symbols_of, nodes_of, first_wrong, distinct, functions_in, predicates_in}
use Rattle.definitions.specs.Elimination.{State, begin, add_app, same_symbol, same_op, step, steps}
use Rattle.theorems.proofs.Laws.Tests.{none≢some, and_left}
use Rattle.theorems.proofs.Accepted.{Accepted, length_nodes_at}
use Rattle.theorems.proofs.Elimination.Steps.{step_done}
use Rattle.theorems.proofs.Elimination.WellLaid.{images_length, image_within}
use Rattle.theorems.proofs.Elimination.Counts.{all_apps}
use Rattle.theorems.proofs.Elimination.Bound.{besides, table_bound, besides_few, length_from, keep_fewer, besides_more}
use Rattle.elimination.specs.State.{state_at, new_app}

-- steps over a longer list go on from the state after its first part
steps_append : (symbols : List ℕ) (st : State) (xs ys : List Node) → steps symbols st (xs ++ ys) ≡ steps symbols (steps symbols st xs) ys
steps_append symbols st [] ys = refl
steps_append symbols st (x ∷ xs) ys = steps_append symbols (step symbols st x) xs ys

-- one node more
pub state_next : (s : List ℕ) (k : ℕ) → k < length (nodes_of s)
    → state_at s (k + 1) ≡ step (symbols_of s) (state_at s k) (node (nodes_of s) k)
state_next s k h =
    ap (state_at s) (add-one k)
    ∙ ap (steps (symbols_of s) begin) (take-suc (nodes_of s) k no_node h)
    ∙ steps_append (symbols_of s) begin (take k (nodes_of s)) (node (nodes_of s) k ∷ [])

-- the nodes done are those taken
steps_done : (symbols : List ℕ) (ns : List Node) (st : State) → (steps symbols st ns).done ≡ st.done ++ ns
steps_done symbols [] st = sym (append-nil st.done)
steps_done symbols (n ∷ ns) st =
    steps_done symbols ns (step symbols st n) ∙ ap (λ ms. ms ++ ns) (step_done symbols st n) ∙ append_assoc st.done (n ∷ []) ns

pub state_done : (s : List ℕ) (k : ℕ) → (state_at s k).done ≡ take k (nodes_of s)
state_done s k = steps_done (symbols_of s) (take k (nodes_of s)) begin

-- the first nodes of a table that is right are right
right_prefix : (symbols : List ℕ) (earlier T : List Node) (k : ℕ) → first_wrong symbols earlier T ≡ none → first_wrong symbols earlier (take k T) ≡ none
right_prefix symbols earlier T zero e = refl
right_prefix symbols earlier [] (suc k) e = refl
right_prefix symbols earlier (n ∷ T) (suc k) e = go (node_right symbols earlier n) e (right_prefix symbols (snoc earlier n) T k)
  where
    go : (b : Bool)
        → ◌≡◌ {A = Option ℕ} (elim b [ true ↦ first_wrong symbols (snoc earlier n) T | false ↦ some (length earlier) ]) none
        → (first_wrong symbols (snoc earlier n) T ≡ none → first_wrong symbols (snoc earlier n) (take k T) ≡ none)
        → ◌≡◌ {A = Option ℕ} (elim b [ true ↦ first_wrong symbols (snoc earlier n) (take k T) | false ↦ some (length earlier) ]) none
    go true e' rec = rec e'
    go false e' rec = absurd (none≢some (sym e'))

-- and have no more distinct applications
distinct_prefix : (op : ℕ) (earlier T : List Node) (k : ℕ) → length (distinct op earlier (take k T)) ≤ length (distinct op earlier T)
distinct_prefix op earlier T zero = omega arith
distinct_prefix op earlier [] (suc k) = omega arith
distinct_prefix op earlier (n ∷ T) (suc k) = go (eqb n.op op && not (any (same n) earlier)) (distinct_prefix op (snoc earlier n) T k)
  where
    go : (b : Bool) → length (distinct op (snoc earlier n) (take k T)) ≤ length (distinct op (snoc earlier n) T)
        → length {A = Node} (elim b [ true ↦ n ∷ distinct op (snoc earlier n) (take k T) | false ↦ distinct op (snoc earlier n) (take k T) ])
        ≤ length {A = Node} (elim b [ true ↦ n ∷ distinct op (snoc earlier n) T | false ↦ distinct op (snoc earlier n) T ])
    go true h = omega arith
    go false h = h

module _ (s : List ℕ) (ok : Accepted s) where
  pub nodes_length : length (nodes_of s) ≡ node_count s
  nodes_length = length_nodes_at s (8 + symbol_count s) (node_count s)

  module _ (k : ℕ) (h : k ≤ node_count s) where
    abbrev T : List Node
    T = take k (nodes_of s)

    taken : length T ≡ k
    taken = length-take-le k (nodes_of s) (let e = nodes_length in omega arith)

    pub prefix_right : first_wrong (symbols_of s) [] T ≡ none
    prefix_right = right_prefix (symbols_of s) [] (nodes_of s) k ok.layout.nodes_right

    few_functions : functions_in T ≤ 24
    few_functions = let a = distinct_prefix 0 [] (nodes_of s) k in let b = ok.few_functions in omega arith

    few_predicates : predicates_in T ≤ 16
    few_predicates = let a = distinct_prefix 6 [] (nodes_of s) k in let b = ok.few_predicates in omega arith

    pub apps_few : length (state_at s k).apps ≤ 40
    apps_few = omega (arith, all_apps (symbols_of s) T, few_functions, few_predicates)

    pub state_short : length (state_at s k).out ≤ 2632
    state_short =
        table_bound (symbols_of s) T (let e = taken in let f = ok.layout.few_nodes in omega arith) few_functions few_predicates

    pub state_images : length (state_at s k).images ≡ k
    state_images = images_length (symbols_of s) T prefix_right ∙ taken

    pub image_small : (i : ℕ) → i < k → get_or (state_at s k).images i 0 < 2632
    image_small i l =
        let w = image_within (symbols_of s) T prefix_right i (let e = taken in omega arith) in
        let b = state_short in
        omega arith

    besides_small : besides (state_at s k).apps ≤ 2376
    besides_small = besides_few (symbols_of s) T few_functions few_predicates

    state_bounded : length (state_at s k).out ≤ k + besides (state_at s k).apps
    state_bounded = let e = taken in let b = length_from (symbols_of s) T begin (omega arith) in omega arith

  -- there is room for the own variable of a distinct application, and for six nodes for each earlier one of its symbol
  pub room : (k : ℕ) → k < node_count s → (n : Node) → is_app (op_of n.op) ≡ true
      → state_at s (k + 1) ≡ add_app (symbols_of s) (state_at s k) n
      → length (state_at s k).out + 1 + 6 * length (keep (same_symbol n) (state_at s k).apps) ≤ 2632
  room k h n p e =
      let st = state_at s k in
      let fewer = keep_fewer (same_symbol n) (same_op n) (λ app. and_left (same_op n app) (eqb app.of.sym n.sym)) st.apps in
      let bounded = state_bounded k (omega arith) in
      let few = besides_small (k + 1) (omega arith) in
      let same = ap (λ F. besides F.apps) e in
      let one = besides_more (new_app (symbols_of s) st n) st.apps p in
      let nodes = ok.layout.few_nodes in
      omega arith
