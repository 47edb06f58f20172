-- The function-free table of a problem has at most 2,632 nodes: one for each node of the problem, and six for each pair of
-- distinct applications of an op (01, 'Elimination'). Assumes nothing.
use mathlib.Core.Path.{◌≡◌, refl, ap, ◌∙◌}
use Prim.Native.Nat.{ℕ, zero, suc, ◌+◌, ◌*◌, ◌≤◌}
use native.Mathlib.Omega.{arith}
use native.Mathlib.Nat.{min-le_right}
use mathlib.Core.Bool.{Bool, true, false, false≢true}
use mathlib.Core.List.{List, [], ◌∷◌}
use mathlib.Core.Logic.{◌⊎◌, inl, inr}
use lib.ListN.{length, get_or, length-append, length-map, length-take}
use lib.Dec.{eqb}
use Rattle.definitions.specs.Lists.{keep, keep_if, snoc}
use Rattle.definitions.specs.Problem.Node.{Node, plain}
use Rattle.definitions.specs.Problem.Ops.{op_of, is_app, sorts_of, count_of, fields_of, operands_of}
use Rattle.definitions.specs.Problem.Check.{functions_in, predicates_in}
use Rattle.definitions.specs.Elimination.{
  App,
  State,
  begin,
  images_of,
  last,
  further,
  condition,
  choice_op,
  choices,
  same_symbol,
  same_op,
  next_var,
  variable_node,
  applied,
  node_on,
  step,
  steps,
}
use Rattle.theorems.proofs.Laws.Tests.{and_left}
use Rattle.theorems.proofs.Laws.Ops.{app_op}
use Rattle.theorems.proofs.Elimination.Steps.{step_cases, step_done, of_op}
use Rattle.theorems.proofs.Elimination.Counts.{count_apps}

-- 0 + 1 + .. + (n - 1)
abbrev pub below_sum : ℕ → ℕ
below_sum zero = 0
below_sum (suc n) = n + below_sum n

-- at most this many nodes are laid besides one for each node of the problem
abbrev pub besides : List App → ℕ
besides apps = 6 * below_sum (length (of_op 0 apps)) + 6 * below_sum (length (of_op 6 apps))

below_sum_mono : (m n : ℕ) → m ≤ n → below_sum m ≤ below_sum n
below_sum_mono zero n h = omega arith
below_sum_mono (suc m) zero h = absurd (omega arith)
below_sum_mono (suc m) (suc n) h = omega (arith, below_sum_mono m n (omega arith))

snoc_length : {A : Type 0} (xs : List A) (x : A) → length (snoc xs x) ≡ suc (length xs)
snoc_length xs x = omega (arith, length-append xs (x ∷ []))

-- a stronger test keeps no more
pub keep_fewer : {A : Type 0} (f g : A → Bool) → ((x : A) → f x ≡ true → g x ≡ true) → (xs : List A)
    → length (keep f xs) ≤ length (keep g xs)
keep_fewer f g h [] = omega arith
keep_fewer f g h (x ∷ xs) = go (f x) (g x) (h x) (keep_fewer f g h xs)
  where
    go : (b c : Bool) → (b ≡ true → c ≡ true) → length (keep f xs) ≤ length (keep g xs)
        → length (keep_if b x (keep f xs)) ≤ length (keep_if c x (keep g xs))
    go true true i rec = omega arith
    go true false i rec = absurd (false≢true (i refl))
    go false true i rec = omega arith
    go false false i rec = rec

-- the arguments after the first have two nodes each
further_length : (out : List Node) (xs ys : List ℕ) → length (further out xs ys) ≤ length out + 2 * length xs
further_length out [] ys = omega arith
further_length out (x ∷ xs) [] = omega arith
further_length out (x ∷ xs) (y ∷ ys) =
    let mid = snoc out (plain 2 x y 0) in
    let end = plain 4 (last out) (length out) 0 in
    let l = snoc_length out (plain 2 x y 0) in
    let m = snoc_length mid end in
    let rest = further_length (snoc mid end) xs ys in
    omega arith

-- and the first has one
condition_length : (out : List Node) (xs ys : List ℕ) → length xs ≤ 3 → length (condition out xs ys) ≤ length out + 5
condition_length out [] ys h = omega arith
condition_length out (x ∷ xs) [] h = omega arith
condition_length out (x ∷ xs) (y ∷ ys) h =
    let l = snoc_length out (plain 2 x y 0) in
    omega (arith, further_length (snoc out (plain 2 x y 0)) xs ys)

choices_length : (op : ℕ) (args : Node → List ℕ) (xs : List ℕ) → length xs ≤ 3 → (js : List App) (out : List Node)
    → length (choices op args out xs js) ≤ length out + 6 * length js
choices_length op args xs h [] out = omega arith
choices_length op args xs h (j ∷ js) out =
    let mid = condition out xs (args j.of) in
    let choice = plain (choice_op op) (last mid) j.own (last out) in
    let l = condition_length out xs (args j.of) h in
    let m = snoc_length mid choice in
    let rest = choices_length op args xs h js (snoc mid choice) in
    omega arith

-- a node has at most three operands
images_length : (symbols images : List ℕ) (n : Node) → length (images_of symbols images n) ≤ 3
images_length symbols images n =
    let c = count_of (sorts_of symbols n) in
    let m = min-le_right c 3 in
    omega (arith, length-map (operands_of symbols n) (λ k. get_or images k 0), length-take c (fields_of n))

-- a distinct application lays its own variable node, and at most six nodes for each earlier one of its op
applied_length : (symbols : List ℕ) (st : State) (n : Node)
    → length (applied symbols st n) ≤ suc (length st.out) + 6 * length (of_op n.op st.apps)
applied_length symbols st n =
    let args = images_of symbols st.images in
    let var = variable_node n.op (next_var st n) in
    let l = snoc_length st.out var in
    let earlier = keep (same_symbol n) st.apps in
    let fewer = keep_fewer (same_symbol n) (same_op n) (λ app. and_left (same_op n app) (eqb app.of.sym n.sym)) st.apps in
    let m = choices_length n.op args (args n) (images_length symbols st.images n) earlier (snoc st.out var) in
    omega arith

-- one more distinct application allows six nodes for each earlier one of its op
pub besides_more : (app : App) (apps : List App) → is_app (op_of app.of.op) ≡ true
    → besides (app ∷ apps) ≡ 6 * length (of_op app.of.op apps) + besides apps
besides_more app apps p = go app.of.op (app_op app.of.op p)
  where
    go : (op : ℕ) → (op ≡ 0) ⊎ (op ≡ 6)
        → 6 * below_sum (length (keep_if (eqb op 0) app (of_op 0 apps)))
        + 6 * below_sum (length (keep_if (eqb op 6) app (of_op 6 apps)))
        ≡ 6 * length (of_op op apps) + besides apps
    go op (inl e) = rw e (omega arith)
    go op (inr e) = rw e (omega arith)

-- no more output nodes than the nodes done and the distinct applications allow
abbrev pub Bounded : State → Type 0
Bounded st = length st.out ≤ length st.done + besides st.apps

length_step : (symbols : List ℕ) (n : Node) (st : State) → Bounded st → Bounded (step symbols st n)
length_step symbols n st h =
    let app : App = record { of = n; var = next_var st n; own = length st.out; image = last (applied symbols st n) } in
    let copied = snoc_length st.out (node_on n.op (images_of symbols st.images n)) in
    let done = snoc_length st.done n in
    step_cases symbols st n Bounded (λ p. omega arith) (λ i e. omega arith)
    (λ p e. omega (arith, applied_length symbols st n, besides_more app st.apps p))

-- each node lays at most one node, and a distinct application six more for each earlier one of its op
pub length_from : (symbols : List ℕ) (ns : List Node) (st : State) → Bounded st
    → length (steps symbols st ns).out ≤ length st.done + length ns + besides (steps symbols st ns).apps
length_from symbols [] st h = omega arith
length_from symbols (n ∷ ns) st h =
    let done = ap (length {A = Node}) (step_done symbols st n) ∙ snoc_length st.done n in
    omega (arith, length_from symbols ns (step symbols st n) (length_step symbols n st h))

-- 6 * (0 + .. + 23) + 6 * (0 + .. + 15) = 2376
pub besides_few : (symbols : List ℕ) (T : List Node) → functions_in T ≤ 24 → predicates_in T ≤ 16
    → besides (steps symbols begin T).apps ≤ 2376
besides_few symbols T f p =
    let apps = (steps symbols begin T).apps in
    let functions = below_sum_mono (length (of_op 0 apps)) 24 (omega (arith, count_apps symbols 0 refl T)) in
    let predicates = below_sum_mono (length (of_op 6 apps)) 16 (omega (arith, count_apps symbols 6 refl T)) in
    omega arith

-- 256 + 2376 = 2632
pub table_bound : (symbols : List ℕ) (T : List Node) → length T ≤ 256 → functions_in T ≤ 24 → predicates_in T ≤ 16
    → length (steps symbols begin T).out ≤ 2632
table_bound symbols T h f p = omega (arith, besides_few symbols T f p, length_from symbols T begin (omega arith))
