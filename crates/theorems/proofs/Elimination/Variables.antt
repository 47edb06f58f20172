-- Applications and their own variables: the sort of each value, lists of arguments compared, and applications with no
-- argument. Assumes nothing.
use mathlib.Core.Path.{◌≡◌, refl, sym, ap₂, ◌∙◌}
use Prim.Native.Nat.{ℕ, zero, suc}
use native.Mathlib.Omega.{arith}
use mathlib.Core.Bool.{true, ◌&&◌, false≢true}
use mathlib.Core.List.{List, [], ◌∷◌}
use mathlib.Core.Logic.{inl, inr}
use mathlib.Core.Option.{Option, none, some}
use lib.ListN.{length, take, length-take}
use lib.Dec.{eqb}
use borrow.Author.Tests.{eqb-true, eq-eqb}
use Rattle.definitions.specs.Problem.Node.{Node}
use Rattle.definitions.specs.Problem.Ops.{op_of, Sort, fits, count_of, fields_of, is_app}
use Rattle.definitions.specs.Logic.{Interpretation, Value, number, truth, number_of, truth_of, op_value, node_value}
use Rattle.definitions.specs.Elimination.{variable_node}
use Rattle.theorems.proofs.Laws.Tests.{and_left, and_right}
use Rattle.theorems.proofs.Laws.Ops.{app_op}
use Rattle.theorems.proofs.Elimination.Chosen.{same_list, Kind}

pub same_list_lem : (ps qs : List ℕ) → same_list ps qs ≡ true → ps ≡ qs
same_list_lem [] [] e = refl
same_list_lem [] (q ∷ qs) e = absurd (false≢true e)
same_list_lem (p ∷ ps) [] e = absurd (false≢true e)
same_list_lem (p ∷ ps) (q ∷ qs) e =
    ap₂ {C = List ℕ} (λ x xs. x ∷ xs) (eqb-true p q (and_left (eqb p q) (same_list ps qs) e))
    (same_list_lem ps qs (and_right (eqb p q) (same_list ps qs) e))

pub same_list_self : (xs : List ℕ) → same_list xs xs ≡ true
same_list_self [] = refl
same_list_self (x ∷ xs) = ap₂ ◌&&◌ (eq-eqb x x refl) (same_list_self xs)

-- the value of an application has the sort that its op says
pub app_kind : (I : Interpretation) (vs : List Value) (n : Node) (xs : List ℕ) (op : ℕ) → is_app (op_of op) ≡ true
    → Kind op (op_value I vs (op_of op) n xs)
app_kind I vs n xs op p = elim (app_op op p) [ inl q ↦ rw q tt | inr q ↦ rw q tt ]

pub as_number : (v : Value) → Kind 0 v → number (number_of v) ≡ v
as_number (number n) k = refl
as_number (truth b) k = absurd k

pub as_truth : (v : Value) → Kind 6 v → truth (truth_of v) ≡ v
as_truth (number n) k = absurd k
as_truth (truth b) k = refl

-- the value of a variable node: of op 0 a number, of op 6 a truth value
abbrev pub variable_value : Interpretation → ℕ → ℕ → Value
variable_value A zero v = number (A.function v [])
variable_value A (suc op) v = truth (A.predicate v [])

pub variable_kind : (A : Interpretation) (op v : ℕ) → Kind op (variable_value A op v)
variable_kind A zero v = tt
variable_kind A (suc op) v = tt

pub variable_value_lem : (A : Interpretation) (ws : List Value) (op v : ℕ) → is_app (op_of op) ≡ true
    → node_value A [] ws (variable_node op v) ≡ variable_value A op v
variable_value_lem A ws op v p = elim (app_op op p) [ inl q ↦ rw q | inr q ↦ rw q ]

-- an application with no operands in use has zeros in its fields
pub no_operands : (earlier : List Node) (o : Option (List Sort)) (n : Node) → fits earlier o (fields_of n) ≡ true → count_of o ≡ 0
    → (n.a ≡ 0) × (n.b ≡ 0) × (n.c ≡ 0)
no_operands earlier none n e z = absurd (false≢true e)
no_operands earlier (some (s ∷ ss)) n e z = absurd (omega arith)
no_operands earlier (some []) n e z =
    let a = eqb-true 0 n.a (and_left (eqb 0 n.a) (eqb 0 n.b && (eqb 0 n.c && true)) e) in
    let e' = and_right (eqb 0 n.a) (eqb 0 n.b && (eqb 0 n.c && true)) e in
    let b = eqb-true 0 n.b (and_left (eqb 0 n.b) (eqb 0 n.c && true) e') in
    let c = eqb-true 0 n.c (and_left (eqb 0 n.c) true (and_right (eqb 0 n.b) (eqb 0 n.c && true) e')) in
    (sym a, sym b, sym c)

pub count_zero : (c : ℕ) (n : Node) → length (take c (fields_of n)) ≡ 0 → c ≡ 0
count_zero zero n e = refl
count_zero (suc c) n e = absurd (omega arith)

pub take_many : (c : ℕ) (m n : Node) → length (take c (fields_of m)) ≡ length (take c (fields_of n))
take_many c m n = length-take c (fields_of m) ∙ sym (length-take c (fields_of n))
