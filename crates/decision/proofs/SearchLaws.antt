-- From a walk of the laid table to the outcome of the search. Assumes nothing.
use mathlib.Core.Path.{◌≡◌, sym, ap, ap₂, ◌∙◌, subst}
use Prim.Native.Nat.{ℕ, ◌-◌, ◌≤◌, ◌<◌, min}
use native.Mathlib.Omega.{arith}
use mathlib.Core.Bool.{Bool, true, false}
use mathlib.Core.List.{List, [], map}
use lib.ListN.{length, get_or, take, replicate, length-append, length-replicate}
use lib.Seq.{take_all}
use Rattle.definitions.specs.Lists.{below, product_of}
use Rattle.definitions.specs.Problem.Node.{Node}
use Rattle.definitions.specs.Problem.Check.{node_count, nodes_of, functions_in, predicates_in}
use Rattle.definitions.specs.Logic.{Interpretation, Value, truth_at, node_value, values}
use Rattle.definitions.specs.Elimination.{eliminated, table_of, root_of}
use Rattle.definitions.specs.Ranges.{rank, joined, tops, sizes, tops_of, sizes_of, product, padded}
use Rattle.definitions.specs.Places.{digits_at, assignment, values_at, true_at}
use Rattle.definitions.specs.Verdict.{valid, falsified, stopped, outcome_of}
use Rattle.definitions.specs.Witness.{byte_of, witness_at}
use Rattle.definitions.specs.Operations.Buffers.{over}
use Rattle.definitions.specs.declared.Verdict.{Verdict}
use Rattle.theorems.proofs.Laws.Ops.{sort_at}
use Rattle.theorems.proofs.Laws.Grown.{length_grown}
use Rattle.theorems.proofs.Ranges.Adequate.{length_below}
use Rattle.theorems.proofs.Truth.{root_within, root_formula}
use Rattle.theorems.proofs.Fits.{how_many_le}
use Rattle.theorems.specs.Searched.{AllTrue}
use Rattle.theorems.proofs.Search.Verdict.{valid_when, falsified_when, stopped_when}
use Rattle.elimination.specs.declared.laid.Laid.{Laid}
use Rattle.elimination.proofs.Promising.{nodes_laid_lem, root_laid}
use Rattle.ranges.specs.Table.{table_in}
use Rattle.ranges.specs.declared.Shape.{Shape}
use Rattle.ranges.proofs.TopLaws.{padded_at, take_padded}
use Rattle.ranges.proofs.Measuring.{table_read, functions_laid, predicates_laid}
use Rattle.walk.specs.Digits.{ValuesAre, sizes_in}
use Rattle.walk.specs.Walked.{root_true, RootIn, Ends}
use Rattle.walk.specs.declared.odometer.Odometer.{Odometer}
use Rattle.decision.specs.Rows.{ValuesOf}
use Rattle.decision.specs.Searched.{Laying, SearchIs}
use Rattle.decision.specs.declared.Scope.{Scope}

module _ {x : Scope} (L : Laying x) where
  abbrev s : List ℕ
  s = x.problem.now

  abbrev table : List ℕ
  table = x.table.bytes.now

  abbrev all : Laid
  all = x.laid.now

  abbrev ts : List ℕ
  ts = x.tops

  abbrev shape : Shape
  shape = x.table.shape

  abbrev places : ℕ
  places = x.product

  abbrev N : ℕ
  N = functions_in (nodes_of s)

  abbrev ranks : ℕ → ℕ
  ranks = rank (joined (table_of s) N)

  functions_are : shape.variables ≡ N
  functions_are = ap (λ (h : Shape). h.variables) L.shape_is ∙ functions_laid s L.accepted L.laid

  predicates_are : shape.truths ≡ predicates_in (nodes_of s)
  predicates_are = ap (λ (h : Shape). h.truths) L.shape_is ∙ predicates_laid s L.accepted L.laid

  nodes_are : shape.nodes ≡ length (table_of s)
  nodes_are = ap (λ (h : Shape). h.nodes) L.shape_is ∙ nodes_laid_lem s L.accepted L.laid

  table_is : table_in table shape.nodes ≡ table_of s
  table_is = ap (λ (h : Shape). table_in table h.nodes) L.shape_is ∙ table_read s L.accepted L.laid

  -- the root is that of the elimination
  pub root_is : {nodes root : ℕ} → nodes ≡ node_count s → root ≡ get_or all.images (nodes - 1) 0 → root ≡ root_of (eliminated s)
  root_is k e = e ∙ ap (λ n. get_or all.images (n - 1) 0) k ∙ root_laid s L.accepted L.laid

  pub root_in : {root : ℕ} → root ≡ root_of (eliminated s) → RootIn table shape root
  root_in e =
      let within = root_within s L.accepted in
      let nodes = nodes_are in
      record {
        below = omega arith;
        is_formula = ap₂ sort_at table_is e ∙ root_formula s L.accepted;
      }

  tops_ranked : ts ≡ padded (map ranks (below N))
  unfolding tops_of tops
  tops_ranked = L.tops_are

  pub tops_long : length ts ≡ 24
  tops_long =
      let ranked = map ranks (below N) in
      let few = L.accepted.few_functions in
      omega (arith, ap length tops_ranked, length-append ranked (replicate (24 - length ranked) 0), length_below ranks N, length-replicate {A = ℕ} (24 - length ranked) 0)

  pub tops_low : (v : ℕ) → v < shape.variables → (1 ≤ get_or ts v 0) × (get_or ts v 0 ≤ 24)
  tops_low v h =
      let f = functions_are in
      let few = L.accepted.few_functions in
      let e = ap (λ (xs : List ℕ). get_or xs v 0) tops_ranked ∙ padded_at ranks N v (omega arith) in
      let less = how_many_le (joined (table_of s) N v) v in
      (omega arith, omega arith)

  pub few_variables : shape.variables ≤ 24
  few_variables = let f = functions_are in let few = L.accepted.few_functions in omega arith

  pub few_truths : shape.truths ≤ 16
  few_truths = let f = predicates_are in let few = L.accepted.few_predicates in omega arith

  sizes_are : sizes (take shape.variables ts) shape.truths ≡ sizes_of s
  unfolding sizes_of tops_of tops
  sizes_are =
      ap₂ (λ (n : ℕ) (xs : List ℕ). sizes (take n xs) shape.truths) functions_are tops_ranked
      ∙ ap₂ sizes (take_padded ranks N) predicates_are

  -- the product of these sizes is that of the ranges
  pub places_same : (o : Odometer) → sizes_in o ≡ sizes (take shape.variables ts) shape.truths → product_of (sizes_in o) ≡ places
  unfolding product
  places_same o same = ap product_of (same ∙ sizes_are) ∙ sym L.places_are

  -- a walk from place 1 on, with these sizes
  module _ (o : Odometer) (same : sizes_in o ≡ sizes (take shape.variables ts) shape.truths) (root : ℕ) (r : root ≡ root_of (eliminated s)) where
    abbrev good : ℕ → Bool
    good = root_true table shape root (sizes_in o)

    values_same : (p : ℕ) → values (assignment shape.variables (digits_at (sizes_in o) p)) [] (table_in table shape.nodes) ≡ values_at s p
    unfolding values_at
    values_same p =
        ap₂ (λ (A : Interpretation) (t : List Node). values A [] t)
        (ap₂ (λ (n : ℕ) (ss : List ℕ). assignment n (digits_at ss p)) functions_are (same ∙ sizes_are)) table_is

    good_same : (p : ℕ) → good p ≡ true_at s p
    unfolding true_at
    good_same p = ap₂ truth_at (values_same p) r

    pub values_left : (p : ℕ) (vals : List ℕ) → ValuesAre table shape (digits_at (sizes_in o) p) vals → ValuesOf s p vals
    unfolding values_at
    values_left p vals are =
        let vs = values (assignment shape.variables (digits_at (sizes_in o) p)) [] (table_in table shape.nodes) in
        let e = values_same p in
        let many = length_grown (node_value (assignment shape.variables (digits_at (sizes_in o) p)) []) (table_in table shape.nodes) in
        let laid = ap (λ (t : List Node). length t) table_is ∙ sym nodes_are in
        ap (λ n. take n vals) (let q : length (values_at s p) ≡ shape.nodes = ap (λ (xs : List Value). length xs) (sym e) ∙ many ∙ laid in q)
        ∙ are
        ∙ ap (map byte_of) (take_all shape.nodes vs (omega arith) ∙ e)

    -- as many places are looked at as the budget allows
    abbrev limit : ℕ → ℕ
    limit budget = min budget (product_of (sizes_in o))

    limit_is : (budget : ℕ) → limit budget ≡ min budget places
    limit_is budget = ap (min budget) (places_same o same)

    -- what the search answers, by how the walk ends
    module _ (budget tried : ℕ) (witness : List ℕ) where
      module _ (f : Ends good (limit budget) tried true) where
        found_false : outcome_of s budget ≡ falsified tried
        unfolding outcome_of
        found_false =
            let n = L.places_are in
            let high = f.high in
            let most = limit_is budget in
            falsified_when (true_at s) budget (product s) tried
            (record {
              low = f.low;
              high = omega arith;
              fails = sym (good_same tried) ∙ f.fails;
              before = λ q a b. sym (good_same q) ∙ f.before q a b;
            })
            (omega arith)

        pub answers_falsified : {written : ℕ} {witness' : List ℕ} → written ≡ length (witness_at s tried)
            → witness' ≡ over (witness_at s tried) witness
            → SearchIs budget s witness (record { verdict = Verdict.Falsified written; tried = tried; product = places }) witness'
        answers_falsified w x =
            let e = found_false in
            record { answers = rw (e, L.places_are, w); witness_after_is = rw (e, x) }

      module _ (f : Ends good (limit budget) tried false) where
        all_true : AllTrue (true_at s) (limit budget)
        all_true p a b = sym (good_same p) ∙ f.1 p a b

        found_valid : places ≤ budget → (outcome_of s budget ≡ valid tried)
        unfolding outcome_of
        found_valid h =
            let n = L.places_are in
            let t = f.0 in
            let most = limit_is budget in
            let q : limit budget ≡ product s = omega arith in
            valid_when (true_at s) budget (product s) (omega arith) (subst (AllTrue (true_at s)) q all_true)
            ∙ ap valid (let e : product s ≡ tried = omega arith in e)

        pub answers_valid : places ≤ budget
            → SearchIs budget s witness (record { verdict = Verdict.Valid; tried = tried; product = places }) witness
        answers_valid h = let e = found_valid h in record { answers = rw (e, L.places_are); witness_after_is = rw e }

        found_stopped : budget < places → (outcome_of s budget ≡ stopped tried)
        unfolding outcome_of
        found_stopped h =
            let n = L.places_are in
            let t = f.0 in
            let most = limit_is budget in
            let q : limit budget ≡ budget = omega arith in
            stopped_when (true_at s) budget (product s) (omega arith) (subst (AllTrue (true_at s)) q all_true)
            ∙ ap stopped (let e : budget ≡ tried = omega arith in e)

        pub answers_stopped : budget < places
            → SearchIs budget s witness (record { verdict = Verdict.Stopped; tried = tried; product = places }) witness
        answers_stopped h = let e = found_stopped h in record { answers = rw (e, L.places_are); witness_after_is = rw e }
