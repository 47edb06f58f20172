-- Elimination finds as many distinct applications of an op as the check of a problem counts: the counts of distinct
-- applications are the counts of variables. Assumes nothing.
use mathlib.Core.Path.{◌≡◌, refl, sym, ap, ◌∙◌}
use Prim.Native.Nat.{ℕ, ◌+◌}
use native.Mathlib.Omega.{arith}
use mathlib.Core.Bool.{Bool, true, false, not, ◌&&◌, ◌||◌, false≢true}
use mathlib.Core.List.{List, [], ◌∷◌}
use mathlib.Core.Logic.{◌⊎◌, inl, inr}
use mathlib.Core.Option.{Option, none, some}
use lib.ListN.{length}
use lib.Dec.{eqb}
use borrow.Author.Tests.{eqb-true}
use Rattle.definitions.specs.Lists.{any, keep_if, snoc}
use Rattle.definitions.specs.Problem.Node.{Node, same}
use Rattle.definitions.specs.Problem.Ops.{op_of, is_app}
use Rattle.definitions.specs.Problem.Check.{distinct, functions_in, predicates_in}
use Rattle.definitions.specs.Elimination.{App, State, begin, earliest, step, steps}
use Rattle.theorems.proofs.Laws.Tests.{none≢some}
use Rattle.theorems.proofs.Laws.Ops.{app_op}
use Rattle.theorems.proofs.Elimination.Steps.{step_cases, step_done, step_images, of_op}
use Rattle.theorems.proofs.Elimination.OfAssignment.{AllApp, steps_apps}

-- `earliest` finds nothing exactly where no earlier node is the same
pub earliest_none : (n : Node) (ms : List Node) (is : List ℕ) → length is ≡ length ms → earliest n ms is ≡ none
    → any (same n) ms ≡ false
earliest_none n [] is l e = refl
earliest_none n (m ∷ ms) [] l e = absurd (omega arith)
earliest_none n (m ∷ ms) (i ∷ is) l e = go (same n m) e (earliest_none n ms is (omega arith))
  where
    go : (b : Bool) → ◌≡◌ {A = Option ℕ} (elim b [ true ↦ some i | false ↦ earliest n ms is ]) none
        → (earliest n ms is ≡ none → any (same n) ms ≡ false) → b || any (same n) ms ≡ false
    go true q rec = absurd (none≢some (sym q))
    go false q rec = rec q

pub earliest_some : (n : Node) (ms : List Node) (is : List ℕ) (i : ℕ) → earliest n ms is ≡ some i
    → any (same n) ms ≡ true
earliest_some n [] is i e = absurd (none≢some e)
earliest_some n (m ∷ ms) [] i e = absurd (none≢some e)
earliest_some n (m ∷ ms) (j ∷ is) i e = go (same n m) e (earliest_some n ms is i)
  where
    go : (b : Bool) → ◌≡◌ {A = Option ℕ} (elim b [ true ↦ some j | false ↦ earliest n ms is ]) (some i)
        → (earliest n ms is ≡ some i → any (same n) ms ≡ true) → b || any (same n) ms ≡ true
    go true q rec = refl
    go false q rec = rec q

abbrev one_if : Bool → ℕ
one_if true = 1
one_if false = 0

-- a node is of the op and repeats no earlier node
abbrev is_new : ℕ → List Node → Node → Bool
is_new op earlier n = eqb n.op op && not (any (same n) earlier)

distinct_length : (op : ℕ) (earlier : List Node) (n : Node) (ns : List Node)
    → length (distinct op earlier (n ∷ ns)) ≡ one_if (is_new op earlier n) + length (distinct op (snoc earlier n) ns)
distinct_length op earlier n ns = go (is_new op earlier n) (distinct op (snoc earlier n) ns)
  where
    go : (b : Bool) (rest : List Node)
        → length {A = Node} (elim b [ true ↦ n ∷ rest | false ↦ rest ]) ≡ one_if b + length rest
    go true rest = omega arith
    go false rest = omega arith

-- a node that is no application has not the op of an application
other_op : (op : ℕ) → is_app (op_of op) ≡ true → (n : Node) → is_app (op_of n.op) ≡ false → eqb n.op op ≡ false
other_op op p n q = go (eqb n.op op) refl
  where
    go : (b : Bool) → eqb n.op op ≡ b → b ≡ false
    go true e = absurd (false≢true (sym q ∙ ap (λ (o : ℕ). is_app (op_of o)) (eqb-true n.op op e) ∙ p))
    go false e = refl

-- a repeat is not counted
repeat_count : (b repeats : Bool) → repeats ≡ true → one_if (b && not repeats) ≡ 0
repeat_count true repeats e = rw e
repeat_count false repeats e = refl

-- what is no repeat is counted where it is of the op
new_count : (b repeats : Bool) → repeats ≡ false → (app : App) (apps : List App)
    → length (keep_if b app apps) ≡ length apps + one_if (b && not repeats)
new_count true repeats e app apps = rw e (omega arith)
new_count false repeats e app apps = omega arith

-- the applications of an op after a node
count_step : (symbols : List ℕ) (op : ℕ) → is_app (op_of op) ≡ true → (n : Node) (st : State)
    → length st.images ≡ length st.done
    → length (of_op op (step symbols st n).apps) ≡ length (of_op op st.apps) + one_if (is_new op st.done n)
count_step symbols op p n st l =
    let before = length (of_op op st.apps) in
    let repeats = any (same n) st.done in
    step_cases symbols st n (λ F. length (of_op op F.apps) ≡ before + one_if (is_new op st.done n))
    (λ q. omega (arith, ap (λ (b : Bool). one_if (b && not repeats)) (other_op op p n q)))
    (λ i e. omega (arith, repeat_count (eqb n.op op) repeats (earliest_some n st.done st.images i e)))
    (λ q e. new_count (eqb n.op op) repeats (earliest_none n st.done st.images l e) _ (of_op op st.apps))

pub count_from_lem : (symbols : List ℕ) (op : ℕ) → is_app (op_of op) ≡ true → (ns : List Node) (st : State)
    → length st.images ≡ length st.done
    → length (of_op op (steps symbols st ns).apps) ≡ length (of_op op st.apps) + length (distinct op st.done ns)
count_from_lem symbols op p [] st l = omega arith
count_from_lem symbols op p (n ∷ ns) st l =
    let done = ap (λ (ms : List Node). length (distinct op ms ns)) (step_done symbols st n) in
    let one = count_step symbols op p n st l in
    let these = distinct_length op st.done n ns in
    let rest = count_from_lem symbols op p ns (step symbols st n) (step_images symbols st n l) in
    omega arith

-- there are as many variables of an op as the problem has distinct applications of it
pub count_apps : (symbols : List ℕ) (op : ℕ) → is_app (op_of op) ≡ true → (T : List Node)
    → length (of_op op (steps symbols begin T).apps) ≡ length (distinct op [] T)
count_apps symbols op p T = omega (arith, count_from_lem symbols op p T begin refl)

-- an application is of op 0 or of op 6
split_ops : (apps : List App) → AllApp apps → length apps ≡ length (of_op 0 apps) + length (of_op 6 apps)
split_ops [] a = refl
split_ops (app ∷ apps) a = go app.of.op (app_op app.of.op a.0) (split_ops apps a.1)
  where
    go : (op : ℕ) → (op ≡ 0) ⊎ (op ≡ 6) → length apps ≡ length (of_op 0 apps) + length (of_op 6 apps)
        → length (app ∷ apps) ≡ length (keep_if (eqb op 0) app (of_op 0 apps)) + length (keep_if (eqb op 6) app (of_op 6 apps))
    go op (inl e) rec = rw e (omega arith)
    go op (inr e) rec = rw e (omega arith)

-- all distinct applications: those of op 0 and those of op 6
pub all_apps : (symbols : List ℕ) (T : List Node)
    → length (steps symbols begin T).apps ≡ functions_in T + predicates_in T
all_apps symbols T =
    let parts = split_ops (steps symbols begin T).apps (steps_apps symbols T begin tt) in
    let functions = count_apps symbols 0 refl T in
    let predicates = count_apps symbols 6 refl T in
    omega arith
