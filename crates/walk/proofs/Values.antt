-- The value of one node of the table at an assignment, as a byte, from the bytes of the values before it. Assumes nothing.
use mathlib.Core.Path.{◌≡◌, refl, sym, ap, ◌∙◌, subst}
use Prim.Native.Nat.{ℕ, zero, suc, ◌+◌, ◌*◌, ◌<◌}
use native.Mathlib.Omega.{arith}
use mathlib.Core.Bool.{Bool, true, false, not, ◌&&◌, ◌||◌, cond, false≢true}
use mathlib.Core.List.{List, [], ◌∷◌, map}
use mathlib.Core.Option.{Option, none, some}
use lib.ListN.{length, get_or, take}
use lib.Seq.{get_or-take, length-take-le}
use lib.Dec.{eqb}
use borrow.Author.Tests.{eq-eqb, ne_eqb}
use Rattle.definitions.specs.Problem.Node.{Node, node, no_node, node_at}
use Rattle.definitions.specs.Problem.Ops.{op_of, Sort, term, formula, sort_of, operand_sorts, fits, count_of, fields_of}
use Rattle.definitions.specs.Logic.{Interpretation, Value, number, truth, number_of, truth_of, value_at, number_at, truth_at, op_value, values}
use Rattle.definitions.specs.Places.{assignment}
use Rattle.definitions.specs.Witness.{byte_of}
use Rattle.theorems.proofs.Accepted.{length_nodes_at}
use Rattle.theorems.proofs.Laws.Ops.{Sorted, sort_at, operands_sorted, op_number, op_truth}
use Rattle.theorems.proofs.Tables.Free.{names_of, free_named, free_fits, free_fixed}
use Rattle.problem.proofs.NodeLaws.{node_nodes_at}
use Rattle.ranges.specs.Table.{TableIn, table_in}
use Rattle.ranges.specs.declared.Shape.{Shape}
use Rattle.walk.specs.Digits.{Digits, value_in}

-- a truth value as a byte
abbrev pub bit : Bool → ℕ
bit true = 1
bit false = 0

byte_truth : (b : Bool) → byte_of (truth b) ≡ bit b
byte_truth true = refl
byte_truth false = refl

module _ {bytes : List ℕ} {shape : Shape} (tab : TableIn bytes shape) (ds : List ℕ) where
  abbrev nodes : ℕ
  nodes = shape.nodes

  abbrev N : ℕ
  N = shape.variables

  abbrev P : ℕ
  P = shape.truths

  abbrev t : List Node
  t = table_in bytes nodes

  abbrev A : Interpretation
  A = assignment N ds

  abbrev vs : List Value
  vs = values A [] t

  nodes_are : length t ≡ nodes
  nodes_are = length_nodes_at bytes 0 nodes

  -- what the values say, by the sort of the node
  pub number_byte : (i : ℕ) → i < nodes → sort_at t i ≡ term → byte_of (value_at vs i) ≡ number_at vs i
  number_byte i h s =
      let e = free_fixed N P t tab.free i (let l = nodes_are in omega arith) A in
      let v = e ∙ op_number A vs (op_of (node t i).op) (node t i) _ s ∙ ap (λ (w : Value). number (number_of w)) (sym e) in
      ap byte_of v

  pub truth_byte : (i : ℕ) → i < nodes → sort_at t i ≡ formula → byte_of (value_at vs i) ≡ bit (truth_at vs i)
  truth_byte i h s =
      let e = free_fixed N P t tab.free i (let l = nodes_are in omega arith) A in
      let v = e ∙ op_truth A vs (op_of (node t i).op) (node t i) _ s ∙ ap (λ (w : Value). truth (truth_of w)) (sym e) in
      ap byte_of v ∙ byte_truth (truth_at vs i)

  module _ (k : ℕ) (below : k < nodes) (val : ℕ → ℕ) (known : (i : ℕ) → i < k → val i ≡ value_in bytes shape ds i) where
    abbrev n : Node
    n = node t k

    -- node k, where it stands
    pub node_here : n ≡ node_at bytes (8 * k)
    node_here = node_nodes_at bytes 0 nodes k below ∙ ap (node_at bytes) (let e : 0 + 8 * k ≡ 8 * k = omega arith in e)

    here : k < length t
    here = let l = nodes_are in omega arith

    -- an operand: an earlier node of the sort asked
    abbrev Known : List Sort → List ℕ → Type 0
    Known [] ks = Unit {0}
    Known (s ∷ ss) [] = ⊥
    Known (s ∷ ss) (i ∷ ks) = (i < k) × (sort_at t i ≡ s) × Known ss ks

    known_of : (ss : List Sort) (ks : List ℕ) → Sorted (take k t) ss ks → Known ss ks
    known_of [] ks w = tt
    known_of (s ∷ ss) [] w = absurd w
    known_of (s ∷ ss) (i ∷ ks) w =
        let h : i < k = (let x = w.0 in let y = length-take-le k t (let l = nodes_are in omega arith) in omega arith) in
        (h, ap (λ (q : Node). sort_of (op_of q.op)) (sym (get_or-take k t i no_node h)) ∙ w.1, known_of ss ks w.2)

    -- the operands of a node of an op
    pub operands : (op : ℕ) → n.op ≡ op → (ss : List Sort) → operand_sorts (op_of op) 0 ≡ some ss → Known ss (fields_of n)
    operands op q ss e =
        known_of ss (fields_of n)
        (operands_sorted (take k t) ss (fields_of n)
        (subst (λ (o : Option (List Sort)). fits (take k t) o (fields_of n) ≡ true) (ap (λ x. operand_sorts (op_of x) 0) q ∙ e) (free_fits N P t tab.free k here)))

    number_at_hand : (i : ℕ) → i < k → sort_at t i ≡ term → val i ≡ number_at vs i
    number_at_hand i h s = known i h ∙ number_byte i (omega arith) s

    truth_at_hand : (i : ℕ) → i < k → sort_at t i ≡ formula → val i ≡ bit (truth_at vs i)
    truth_at_hand i h s = known i h ∙ truth_byte i (omega arith) s

    -- node k by the number of its op
    value_here : (op : ℕ) → n.op ≡ op
        → value_in bytes shape ds k ≡ byte_of (op_value A vs (op_of op) n (map (number_at vs) (take (count_of (operand_sorts (op_of op) 0)) (fields_of n))))
    value_here op q =
        ap byte_of
        (free_fixed N P t tab.free k here A
        ∙ ap (λ x. op_value A vs (op_of x) n (map (number_at vs) (take (count_of (operand_sorts (op_of x) 0)) (fields_of n)))) q)

    named : (op : ℕ) → n.op ≡ op → n.sym < names_of N P (op_of op)
    named op q = subst (λ x. n.sym < names_of N P (op_of x)) q (free_named N P t tab.free k here)

    pub variable_named : n.op ≡ 0 → n.sym < N
    variable_named q = named 0 q

    pub truth_named : n.op ≡ 6 → n.sym < P
    truth_named q = named 6 q

    pub at_variable : n.op ≡ 0 → get_or ds n.sym 0 + 1 ≡ value_in bytes shape ds k
    at_variable q = (let e : get_or ds n.sym 0 + 1 ≡ suc (get_or ds n.sym 0) = omega arith in e) ∙ sym (value_here 0 q)

    bit_below : (d : ℕ) → d < 2 → d ≡ bit (eqb d 1)
    bit_below zero h = refl
    bit_below (suc zero) h = refl
    bit_below (suc (suc d)) h = absurd (omega arith)

    pub at_truth : Digits shape ds → n.op ≡ 6 → get_or ds (N + n.sym) 0 ≡ value_in bytes shape ds k
    at_truth dg q =
        bit_below (get_or ds (N + n.sym) 0) (dg.bits n.sym (truth_named q))
        ∙ sym (byte_truth (eqb (get_or ds (N + n.sym) 0) 1))
        ∙ sym (value_here 6 q)

    pub at_yes : n.op ≡ 7 → 1 ≡ value_in bytes shape ds k
    at_yes q = sym (value_here 7 q)

    pub at_no : n.op ≡ 8 → 0 ≡ value_in bytes shape ds k
    at_no q = sym (value_here 8 q)

    one_true : (b : Bool) → bit b ≡ 1 → b ≡ true
    one_true true e = refl
    one_true false e = absurd (omega arith)

    not_one : (b : Bool) → (bit b ≡ 1 → ⊥) → b ≡ false
    not_one true e = absurd (e refl)
    not_one false e = refl

    -- the second operand where the first is true, else the third
    pub at_choice : n.op ≡ 1
        → ((val n.a ≡ 1 → val n.b ≡ value_in bytes shape ds k)
        × ((val n.a ≡ 1 → ⊥) → val n.c ≡ value_in bytes shape ds k))
    at_choice q =
        let w = operands 1 q (formula ∷ term ∷ term ∷ []) refl in
        let first = truth_at_hand n.a w.0 w.1 in (
          λ e.
              number_at_hand n.b w.2.0 w.2.1
              ∙ sym (value_here 1 q ∙ ap (λ (c : Bool). cond c (number_at vs n.b) (number_at vs n.c)) (one_true (truth_at vs n.a) (sym first ∙ e))),
          λ e.
              number_at_hand n.c w.2.2.0 w.2.2.1
              ∙ sym (value_here 1 q ∙ ap (λ (c : Bool). cond c (number_at vs n.b) (number_at vs n.c)) (not_one (truth_at vs n.a) (λ z. e (first ∙ z)))),
        )

    pub at_select : n.op ≡ 9
        → ((val n.a ≡ 1 → val n.b ≡ value_in bytes shape ds k)
        × ((val n.a ≡ 1 → ⊥) → val n.c ≡ value_in bytes shape ds k))
    at_select q =
        let w = operands 9 q (formula ∷ formula ∷ formula ∷ []) refl in
        let first = truth_at_hand n.a w.0 w.1 in
        let picked : (c : Bool) → truth_at vs n.a ≡ c → value_in bytes shape ds k ≡ bit (cond c (truth_at vs n.b) (truth_at vs n.c)) =
        λ c e.
        value_here 9 q ∙ byte_truth (cond (truth_at vs n.a) (truth_at vs n.b) (truth_at vs n.c))
        ∙ ap (λ (d : Bool). bit (cond d (truth_at vs n.b) (truth_at vs n.c))) e
        in (
          λ e. truth_at_hand n.b w.2.0 w.2.1 ∙ sym (picked true (one_true (truth_at vs n.a) (sym first ∙ e))),
          λ e. truth_at_hand n.c w.2.2.0 w.2.2.1 ∙ sym (picked false (not_one (truth_at vs n.a) (λ z. e (first ∙ z)))),
        )

    -- an equation
    pub at_equal : n.op ≡ 2 → val n.a ≡ val n.b → 1 ≡ value_in bytes shape ds k
    at_equal q e =
        let w = operands 2 q (term ∷ term ∷ []) refl in
        sym
        (value_here 2 q
        ∙ ap (λ (c : Bool). byte_of (truth c))
        (eq-eqb (number_at vs n.a) (number_at vs n.b) (sym (number_at_hand n.a w.0 w.1) ∙ e ∙ number_at_hand n.b w.2.0 w.2.1)))

    pub at_differ : n.op ≡ 2 → (val n.a ≡ val n.b → ⊥) → 0 ≡ value_in bytes shape ds k
    at_differ q e =
        let w = operands 2 q (term ∷ term ∷ []) refl in
        sym
        (value_here 2 q
        ∙ ap (λ (c : Bool). byte_of (truth c))
        (ne_eqb (number_at vs n.a) (number_at vs n.b) (λ z. e (number_at_hand n.a w.0 w.1 ∙ z ∙ sym (number_at_hand n.b w.2.0 w.2.1)))))

    -- the connectives, by whether the first operand is true
    pub at_not : n.op ≡ 3 → (val n.a ≡ 1 → 0 ≡ value_in bytes shape ds k) × ((val n.a ≡ 1 → ⊥) → 1 ≡ value_in bytes shape ds k)
    at_not q =
        let w = operands 3 q (formula ∷ []) refl in
        let first = truth_at_hand n.a w.0 w.1 in (
          λ e. sym (value_here 3 q ∙ ap (λ (c : Bool). byte_of (truth (not c))) (one_true (truth_at vs n.a) (sym first ∙ e))),
          λ e. sym (value_here 3 q ∙ ap (λ (c : Bool). byte_of (truth (not c))) (not_one (truth_at vs n.a) (λ z. e (first ∙ z)))),
        )

    pub at_and : n.op ≡ 4 → (val n.a ≡ 1 → val n.b ≡ value_in bytes shape ds k) × ((val n.a ≡ 1 → ⊥) → 0 ≡ value_in bytes shape ds k)
    at_and q =
        let w = operands 4 q (formula ∷ formula ∷ []) refl in
        let first = truth_at_hand n.a w.0 w.1 in
        let by : (c : Bool) → truth_at vs n.a ≡ c → value_in bytes shape ds k ≡ bit (c && truth_at vs n.b) =
        λ c e.
        value_here 4 q ∙ byte_truth (truth_at vs n.a && truth_at vs n.b) ∙ ap (λ (d : Bool). bit (d && truth_at vs n.b)) e
        in (
          λ e. truth_at_hand n.b w.2.0 w.2.1 ∙ sym (by true (one_true (truth_at vs n.a) (sym first ∙ e))),
          λ e. sym (by false (not_one (truth_at vs n.a) (λ z. e (first ∙ z)))),
        )

    pub at_or : n.op ≡ 5 → (val n.a ≡ 1 → 1 ≡ value_in bytes shape ds k) × ((val n.a ≡ 1 → ⊥) → val n.b ≡ value_in bytes shape ds k)
    at_or q =
        let w = operands 5 q (formula ∷ formula ∷ []) refl in
        let first = truth_at_hand n.a w.0 w.1 in
        let by : (c : Bool) → truth_at vs n.a ≡ c → value_in bytes shape ds k ≡ bit (c || truth_at vs n.b) =
        λ c e.
        value_here 5 q ∙ byte_truth (truth_at vs n.a || truth_at vs n.b) ∙ ap (λ (d : Bool). bit (d || truth_at vs n.b)) e
        in (
          λ e. sym (by true (one_true (truth_at vs n.a) (sym first ∙ e))),
          λ e. truth_at_hand n.b w.2.0 w.2.1 ∙ sym (by false (not_one (truth_at vs n.a) (λ z. e (first ∙ z)))),
        )

    -- there is no other op
    pub no_other : (op : ℕ) → n.op ≡ op → operand_sorts (op_of op) 0 ≡ none → ⊥
    no_other op q e =
        false≢true
        (subst (λ (o : Option (List Sort)). fits (take k t) o (fields_of n) ≡ true) (ap (λ x. operand_sorts (op_of x) 0) q ∙ e) (free_fits N P t tab.free k here))
