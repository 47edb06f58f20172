-- Laws of the ops. What a node that is no application comes to depends on the values at its operands alone, and the operands of
-- a node that is right are earlier nodes of the sorts asked. Assumes nothing.
use mathlib.Core.Path.{◌≡◌, refl, sym, ap, ap₂}
use Prim.Native.Nat.{ℕ, zero, suc, ◌<◌}
use native.Mathlib.Omega.{arith}
use mathlib.Core.Bool.{true, false, ◌&&◌, false≢true}
use mathlib.Core.List.{List, [], ◌∷◌, map}
use mathlib.Core.Logic.{◌⊎◌, inl, inr}
use mathlib.Core.Option.{Option, none, some}
use lib.ListN.{length, take, replicate}
use lib.Dec.{ltb}
use borrow.Author.Tests.{ltb-true}
use Rattle.definitions.specs.Problem.Node.{Node, node}
use Rattle.definitions.specs.Problem.Ops.{
  Op,
  apply,
  choose,
  equal,
  negate,
  both,
  either,
  test,
  verum,
  falsum,
  select,
  unknown,
  op_of,
  Sort,
  term,
  formula,
  sort_of,
  same_sort,
  operand_sorts,
  operands_right,
  fits,
  count_of,
  fields_of,
  is_app,
}
use Rattle.definitions.specs.Logic.{Interpretation, Value, number, truth, number_of, truth_of, value_at, number_at, op_value}
use Rattle.definitions.specs.Elimination.{node_on}
use Rattle.theorems.proofs.Laws.Tests.{and_left, and_right}

-- an application is of op 0 or of op 6
pub app_op : (op : ℕ) → is_app (op_of op) ≡ true → (op ≡ 0) ⊎ (op ≡ 6)
app_op zero p = inl refl
app_op (suc zero) p = absurd (false≢true p)
app_op (suc (suc zero)) p = absurd (false≢true p)
app_op (suc (suc (suc zero))) p = absurd (false≢true p)
app_op (suc (suc (suc (suc zero)))) p = absurd (false≢true p)
app_op (suc (suc (suc (suc (suc zero))))) p = absurd (false≢true p)
app_op (suc (suc (suc (suc (suc (suc zero)))))) p = inr refl
app_op (suc (suc (suc (suc (suc (suc (suc zero))))))) p = absurd (false≢true p)
app_op (suc (suc (suc (suc (suc (suc (suc (suc zero)))))))) p = absurd (false≢true p)
app_op (suc (suc (suc (suc (suc (suc (suc (suc (suc zero))))))))) p = absurd (false≢true p)
app_op (suc (suc (suc (suc (suc (suc (suc (suc (suc (suc k)))))))))) p = absurd (false≢true p)

-- the values ws at some numbers are the values vs at others
abbrev pub Alike : List Value → List Value → List ℕ → List ℕ → Type 0
Alike ws vs [] [] = Unit {0}
Alike ws vs [] (k ∷ ks) = ⊥
Alike ws vs (i ∷ is) [] = ⊥
Alike ws vs (i ∷ is) (k ∷ ks) = (value_at ws i ≡ value_at vs k) × Alike ws vs is ks

-- two nodes of an op that is no application, with the same values at the operands in use, have one value
pub op_alike : (A I : Interpretation) (ws vs : List Value) (o : Op) (ar : ℕ) (m n : Node) (xs ys : List ℕ) → is_app o ≡ false
    → Alike ws vs (take (count_of (operand_sorts o ar)) (fields_of m)) (take (count_of (operand_sorts o ar)) (fields_of n))
    → op_value A ws o m xs ≡ op_value I vs o n ys
op_alike A I ws vs apply ar m n xs ys p a = absurd (false≢true (sym p))
op_alike A I ws vs choose ar m n xs ys p a = cc (a.0, a.1.0, a.1.1.0)
op_alike A I ws vs equal ar m n xs ys p a = cc (a.0, a.1.0)
op_alike A I ws vs negate ar m n xs ys p a = cc a.0
op_alike A I ws vs both ar m n xs ys p a = cc (a.0, a.1.0)
op_alike A I ws vs either ar m n xs ys p a = cc (a.0, a.1.0)
op_alike A I ws vs test ar m n xs ys p a = absurd (false≢true (sym p))
op_alike A I ws vs verum ar m n xs ys p a = refl
op_alike A I ws vs falsum ar m n xs ys p a = refl
op_alike A I ws vs select ar m n xs ys p a = cc (a.0, a.1.0, a.1.1.0)
op_alike A I ws vs unknown ar m n xs ys p a = refl

-- the same symbol at the same arguments: two applications have one value
pub app_alike : (I : Interpretation) (ws vs : List Value) (op : ℕ) (m n : Node) (xs : List ℕ) → is_app (op_of op) ≡ true → m.sym ≡ n.sym
    → op_value I ws (op_of op) m xs ≡ op_value I vs (op_of op) n xs
app_alike I ws vs op m n xs p e =
    elim (app_op op p) [
      | inl q ↦ rw q (ap (λ (s : ℕ). number (I.function s xs)) e)
      | inr q ↦ rw q (ap (λ (s : ℕ). truth (I.predicate s xs)) e)
    ]

-- the operands of an application are as many terms as its arity
pub app_sorts : (op ar : ℕ) → is_app (op_of op) ≡ true → operand_sorts (op_of op) ar ≡ some (replicate ar term)
app_sorts op ar p = elim (app_op op p) [ inl q ↦ rw q | inr q ↦ rw q ]

-- the value of a node of a term's op is a number, of a formula's op a truth value
pub op_number : (I : Interpretation) (vs : List Value) (o : Op) (n : Node) (xs : List ℕ) → sort_of o ≡ term
    → op_value I vs o n xs ≡ number (number_of (op_value I vs o n xs))
op_number I vs o n xs = by o
  where
    formula≢term : formula ≡ term → ⊥
    formula≢term e = let z : ◌≡◌ {A = ℕ} 0 1 = cc in omega arith

    by : (o : Op) → sort_of o ≡ term → op_value I vs o n xs ≡ number (number_of (op_value I vs o n xs))
    by apply e = refl
    by choose e = refl
    by equal e = absurd (formula≢term e)
    by negate e = absurd (formula≢term e)
    by both e = absurd (formula≢term e)
    by either e = absurd (formula≢term e)
    by test e = absurd (formula≢term e)
    by verum e = absurd (formula≢term e)
    by falsum e = absurd (formula≢term e)
    by select e = absurd (formula≢term e)
    by unknown e = absurd (formula≢term e)

pub op_truth : (I : Interpretation) (vs : List Value) (o : Op) (n : Node) (xs : List ℕ) → sort_of o ≡ formula
    → op_value I vs o n xs ≡ truth (truth_of (op_value I vs o n xs))
op_truth I vs o n xs = by o
  where
    term≢formula : term ≡ formula → ⊥
    term≢formula e = let z : ◌≡◌ {A = ℕ} 0 1 = cc in omega arith

    by : (o : Op) → sort_of o ≡ formula → op_value I vs o n xs ≡ truth (truth_of (op_value I vs o n xs))
    by apply e = absurd (term≢formula e)
    by choose e = absurd (term≢formula e)
    by equal e = refl
    by negate e = refl
    by both e = refl
    by either e = refl
    by test e = refl
    by verum e = refl
    by falsum e = refl
    by select e = refl
    by unknown e = refl

pub same_sort_lem : (s r : Sort) → same_sort s r ≡ true → s ≡ r
same_sort_lem term term e = refl
same_sort_lem term formula e = absurd (false≢true e)
same_sort_lem formula term e = absurd (false≢true e)
same_sort_lem formula formula e = refl

-- the sort of node k of a table
abbrev pub sort_at : List Node → ℕ → Sort
sort_at t k = sort_of (op_of (node t k).op)

-- operands that are earlier nodes of these sorts, as far as the sorts go
abbrev pub Sorted : List Node → List Sort → List ℕ → Type 0
Sorted earlier [] ks = Unit {0}
Sorted earlier (s ∷ ss) [] = ⊥
Sorted earlier (s ∷ ss) (k ∷ ks) = (k < length earlier) × (sort_at earlier k ≡ s) × Sorted earlier ss ks

pub operands_rest : (earlier : List Node) (s : Sort) (ss : List Sort) (k : ℕ) (ks : List ℕ)
    → operands_right earlier (s ∷ ss) (k ∷ ks) ≡ true → operands_right earlier ss ks ≡ true
operands_rest earlier s ss k ks e =
    and_right (ltb k (length earlier) && same_sort (sort_at earlier k) s) (operands_right earlier ss ks) e

pub operands_sorted : (earlier : List Node) (ss : List Sort) (ks : List ℕ) → operands_right earlier ss ks ≡ true → Sorted earlier ss ks
operands_sorted earlier [] ks e = tt
operands_sorted earlier (s ∷ ss) [] e = false≢true e
operands_sorted earlier (s ∷ ss) (k ∷ ks) e =
    let here = and_left (ltb k (length earlier) && same_sort (sort_at earlier k) s) (operands_right earlier ss ks) e in (
      ltb-true k (length earlier) (and_left (ltb k (length earlier)) (same_sort (sort_at earlier k) s) here),
      same_sort_lem (sort_at earlier k) s (and_right (ltb k (length earlier)) (same_sort (sort_at earlier k) s) here),
      operands_sorted earlier ss ks (operands_rest earlier s ss k ks e),
    )

-- every number of a list is below m
abbrev pub AllBelow : ℕ → List ℕ → Type 0
AllBelow m [] = Unit {0}
AllBelow m (k ∷ ks) = (k < m) × AllBelow m ks

sorted_below : (earlier : List Node) (ss : List Sort) (ks : List ℕ) → Sorted earlier ss ks → AllBelow (length earlier) (take (length ss) ks)
sorted_below earlier [] ks w = tt
sorted_below earlier (s ∷ ss) [] w = absurd w
sorted_below earlier (s ∷ ss) (k ∷ ks) w = (w.0, sorted_below earlier ss ks w.2)

-- the operands in use of a node that fits are earlier nodes
pub fits_below : (earlier : List Node) (o : Option (List Sort)) (ks : List ℕ) → fits earlier o ks ≡ true
    → AllBelow (length earlier) (take (count_of o) ks)
fits_below earlier none ks e = tt
fits_below earlier (some ss) ks e = sorted_below earlier ss ks (operands_sorted earlier ss ks e)

-- values that agree below m agree at numbers below m
module _ (ws vs : List Value) (img : ℕ → ℕ) (m : ℕ) (same : (k : ℕ) → k < m → value_at ws (img k) ≡ value_at vs k) where
  pub alike_below : (ks : List ℕ) → AllBelow m ks → Alike ws vs (map img ks) ks
  alike_below [] b = tt
  alike_below (k ∷ ks) b = (same k b.0, alike_below ks b.1)

  pub numbers_below : (ks : List ℕ) → AllBelow m ks → map (number_at ws) (map img ks) ≡ map (number_at vs) ks
  numbers_below [] b = refl
  numbers_below (k ∷ ks) b = ap₂ {C = List ℕ} (λ x xs. x ∷ xs) (ap number_of (same k b.0)) (numbers_below ks b.1)

-- the operands in use of a node that is given operands are those operands
pub fields_node_on : (op : ℕ) (img : ℕ → ℕ) (c : ℕ) (n : Node)
    → take c (fields_of (node_on op (map img (take c (fields_of n))))) ≡ map img (take c (fields_of n))
fields_node_on op img zero n = refl
fields_node_on op img (suc zero) n = refl
fields_node_on op img (suc (suc zero)) n = refl
fields_node_on op img (suc (suc (suc zero))) n = refl
fields_node_on op img (suc (suc (suc (suc c)))) n = refl
