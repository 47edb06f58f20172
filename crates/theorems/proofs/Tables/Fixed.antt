-- In a table that check accepts, the value of each node is its op at the values of its operands, and an operand that is a term
-- has a number for its value. Assumes nothing.
use mathlib.Core.Path.{◌≡◌, refl, sym, ap, ◌∙◌, subst}
use Prim.Native.Nat.{ℕ, zero, suc, ◌≤◌, ◌<◌}
use native.Mathlib.Omega.{arith}
use mathlib.Core.Bool.{Bool, true, false}
use mathlib.Core.List.{List, [], ◌∷◌, ◌++◌, map, append-nil, append_assoc}
use mathlib.Core.Option.{Option, none, some}
use lib.ListN.{length, take, replicate}
use lib.Seq.{get_or-take, length-take-le}
use Rattle.definitions.specs.Lists.{snoc}
use Rattle.definitions.specs.Problem.Node.{Node, node, no_node}
use Rattle.definitions.specs.Problem.Ops.{op_of, arity, Sort, term, sort_of, symbol_right, fits, node_right, sorts_of, count_of, fields_of, operands_of, is_app}
use Rattle.definitions.specs.Problem.Check.{first_wrong}
use Rattle.definitions.specs.Logic.{Interpretation, Value, number, number_of, value_at, number_at, op_value, node_value, values}
use Rattle.definitions.specs.Elimination.{node_on}
use Rattle.theorems.proofs.Laws.Tests.{and_right, none≢some}
use Rattle.theorems.proofs.Laws.Grown.{grown_at}
use Rattle.theorems.proofs.Laws.Ops.{
  Alike,
  AllBelow,
  Sorted,
  app_sorts,
  app_alike,
  op_alike,
  op_number,
  operands_sorted,
  fits_below,
  alike_below,
  numbers_below,
  fields_node_on,
  sort_at,
}

-- a node that is right fits
pub right_fits : (symbols : List ℕ) (earlier : List Node) (n : Node) → node_right symbols earlier n ≡ true
    → fits earlier (sorts_of symbols n) (fields_of n) ≡ true
right_fits symbols earlier n e = and_right (symbol_right symbols (op_of n.op) n.sym) (fits earlier (sorts_of symbols n) (fields_of n)) e

-- the operands in use of a node that is right are below the count of the nodes before it
pub right_below : (symbols : List ℕ) (earlier : List Node) (n : Node) → node_right symbols earlier n ≡ true
    → AllBelow (length earlier) (operands_of symbols n)
right_below symbols earlier n e = fits_below earlier (sorts_of symbols n) (fields_of n) (right_fits symbols earlier n e)

map_self : (ks : List ℕ) → map (λ k. k) ks ≡ ks
map_self [] = refl
map_self (k ∷ ks) = ap {B = List ℕ} (λ l. k ∷ l) (map_self ks)

-- where the values agree below m, a node whose operands are below m and are renamed has the same value
module _ (ws vs : List Value) (img : ℕ → ℕ) (m : ℕ) (same : (k : ℕ) → k < m → value_at ws (img k) ≡ value_at vs k) where
  pub copy_value : (A I : Interpretation) (symbols : List ℕ) (n : Node) → AllBelow m (operands_of symbols n)
      → is_app (op_of n.op) ≡ false
      → node_value A [] ws (node_on n.op (map img (operands_of symbols n))) ≡ node_value I symbols vs n
  copy_value A I symbols n b p =
      let c = count_of (sorts_of symbols n) in
      op_alike A I ws vs (op_of n.op) (arity symbols n.sym) (node_on n.op (map img (operands_of symbols n))) n _ _ p
      (subst (λ (is : List ℕ). Alike ws vs is (operands_of symbols n)) (sym (fields_node_on n.op img c n))
      (alike_below ws vs img m same (operands_of symbols n) b))

module _ (ws vs : List Value) (m : ℕ) (same : (k : ℕ) → k < m → value_at ws k ≡ value_at vs k) where
  -- a node whose operands are below m has the same value
  pub node_same_value : (I : Interpretation) (symbols : List ℕ) (n : Node) → AllBelow m (operands_of symbols n)
      → node_value I symbols ws n ≡ node_value I symbols vs n
  node_same_value I symbols n b = go (is_app (op_of n.op)) refl
    where
      numbers : map (number_at ws) (operands_of symbols n) ≡ map (number_at vs) (operands_of symbols n)
      numbers =
          ap (map (number_at ws)) (sym (map_self (operands_of symbols n)))
          ∙ numbers_below ws vs (λ k. k) m same (operands_of symbols n) b

      go : (c : Bool) → is_app (op_of n.op) ≡ c → node_value I symbols ws n ≡ node_value I symbols vs n
      go true p =
          ap (op_value I ws (op_of n.op) n) numbers
          ∙ app_alike I ws vs n.op n n (map (number_at vs) (operands_of symbols n)) p refl
      go false p =
          op_alike I I ws vs (op_of n.op) (arity symbols n.sym) n n _ _ p
          (subst (λ (is : List ℕ). Alike ws vs is (operands_of symbols n)) (map_self (operands_of symbols n))
          (alike_below ws vs (λ k. k) m same (operands_of symbols n) b))

-- in a table whose node k has its operands below k, the value of node k is its node equation over all the values
pub value_fixed : (I : Interpretation) (symbols : List ℕ) (t : List Node) (k : ℕ) → k < length t
    → AllBelow k (operands_of symbols (node t k)) → value_at (values I symbols t) k ≡ node_value I symbols (values I symbols t) (node t k)
value_fixed I symbols t k h b =
    let vs : List Value = values I symbols t in
    grown_at (node_value I symbols) t k (number 0) h
    ∙ node_same_value (take k vs) vs k (λ i l. get_or-take k vs i (number 0) l) I symbols (node t k) b

right_from : (symbols : List ℕ) (earlier ns : List Node) (k : ℕ) → first_wrong symbols earlier ns ≡ none → k < length ns
    → node_right symbols (earlier ++ take k ns) (node ns k) ≡ true
right_from symbols earlier [] k e h = absurd (omega arith)
right_from symbols earlier (n ∷ ns) zero e h = rw append-nil (go (node_right symbols earlier n) refl e)
  where
    go : (b : Bool) → node_right symbols earlier n ≡ b
        → ◌≡◌ {A = Option ℕ} (elim b [ true ↦ first_wrong symbols (snoc earlier n) ns | false ↦ some (length earlier) ]) none
        → node_right symbols earlier n ≡ true
    go true q e' = q
    go false q e' = absurd (none≢some (sym e'))
right_from symbols earlier (n ∷ ns) (suc k) e h =
    rw (← append_assoc earlier (n ∷ []) (take k ns)) (go (node_right symbols earlier n) e
    (λ e'. right_from symbols (snoc earlier n) ns k e' (omega arith)))
  where
    go : (b : Bool)
        → ◌≡◌ {A = Option ℕ} (elim b [ true ↦ first_wrong symbols (snoc earlier n) ns | false ↦ some (length earlier) ]) none
        → (first_wrong symbols (snoc earlier n) ns ≡ none → node_right symbols (snoc earlier n ++ take k ns) (node ns k) ≡ true)
        → node_right symbols (snoc earlier n ++ take k ns) (node ns k) ≡ true
    go true e' rec = rec e'
    go false e' rec = absurd (none≢some (sym e'))

-- each node of a table with no wrong node is right after those before it
pub right_at_lem : (symbols : List ℕ) (t : List Node) (k : ℕ) → first_wrong symbols [] t ≡ none → k < length t
    → node_right symbols (take k t) (node t k) ≡ true
right_at_lem symbols t k e h = right_from symbols [] t k e h

module _ (I : Interpretation) (symbols : List ℕ) (T : List Node) (right : first_wrong symbols [] T ≡ none) where
  -- the values of the problem's nodes
  abbrev vals : List Value
  vals = values I symbols T

  -- what a node means at those values
  abbrev mean : Node → Value
  mean n = node_value I symbols vals n

  -- each node's value is its op applied to its operands' values
  pub fixed : (k : ℕ) → k < length T → value_at vals k ≡ mean (node T k)
  fixed k h =
      value_fixed I symbols T k h
      (subst (λ (m : ℕ). AllBelow m (operands_of symbols (node T k))) (length-take-le k T (omega arith))
      (right_below symbols (take k T) (node T k) (right_at_lem symbols T k right h)))

  number_at_lem : (k : ℕ) → k < length T → sort_at T k ≡ term → value_at vals k ≡ number (number_at vals k)
  number_at_lem k h e =
      let n : Node = node T k in
      fixed k h ∙ op_number I vals (op_of n.op) n (map (number_at vals) (operands_of symbols n)) e
      ∙ ap (λ (v : Value). number (number_of v)) (sym (fixed k h))

  -- operands that are terms below m
  abbrev pub Terms : ℕ → List ℕ → Type 0
  Terms m [] = Unit {0}
  Terms m (k ∷ ks) = (k < m) × (value_at vals k ≡ number (number_at vals k)) × Terms m ks

  terms_of : (m : ℕ) → m ≤ length T → (r : ℕ) (ks : List ℕ) → Sorted (take m T) (replicate r term) ks
      → Terms m (take (length (replicate r term)) ks)
  terms_of m l zero ks w = tt
  terms_of m l (suc r) [] w = tt
  terms_of m l (suc r) (k ∷ ks) w =
      let h : k < m = (let x = w.0 in let y = length-take-le m T l in omega arith) in
      let q : node (take m T) k ≡ node T k = get_or-take m T k no_node h in (
        h,
        number_at_lem k (omega arith) (ap (λ (n : Node). sort_of (op_of n.op)) (sym q) ∙ w.1),
        terms_of m l r ks w.2,
      )

  pub terms_more : (m m' : ℕ) → m ≤ m' → (ks : List ℕ) → Terms m ks → Terms m' ks
  terms_more m m' l [] t = tt
  terms_more m m' l (k ∷ ks) t = (let h = t.0 in omega arith, t.1, terms_more m m' l ks t.2)

  -- the operands of an application are terms among the earlier nodes
  pub operands_terms : (m : ℕ) (n : Node) → m ≤ length T → is_app (op_of n.op) ≡ true → node_right symbols (take m T) n ≡ true
      → Terms m (operands_of symbols n)
  operands_terms m n l p e =
      let ar = arity symbols n.sym in
      let sorts = app_sorts n.op ar p in
      subst (λ (o : Option (List Sort)). Terms m (take (count_of o) (fields_of n))) (sym sorts)
      (terms_of m l ar (fields_of n)
      (operands_sorted (take m T) (replicate ar term) (fields_of n)
      (subst (λ (o : Option (List Sort)). fits (take m T) o (fields_of n) ≡ true) sorts (right_fits symbols (take m T) n e))))
