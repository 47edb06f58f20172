-- THE LAW of kept values (02, E7), in one lane: where the nodes before a tail have the values of an assignment, the digits' cells
-- hold it, and the tail is solved, every node has its value at that assignment: the kept values equal values worked out afresh.
-- Assumes nothing.
use mathlib.Core.Path.{◌≡◌, refl, ap, sym, ◌∙◌}
use Prim.Native.Nat.{ℕ, zero, suc, ◌+◌, ◌*◌, ◌≤◌, ◌<◌}
use native.Mathlib.Omega.{arith}
use native.Mathlib.Nat.{mul-le-mul_left}
use mathlib.Core.List.{List}
use mathlib.Core.Logic.{inl, inr}
use lib.ListN.{length}
use Rattle.definitions.specs.Problem.Node.{Node, node}
use Rattle.definitions.specs.Problem.Ops.{op_of}
use Rattle.theorems.proofs.Laws.Tests.{split}
use Rattle.ranges.specs.Table.{TableIn, table_in}
use Rattle.ranges.specs.declared.Shape.{Shape}
use Rattle.walk.specs.declared.branches.Branch.{Branch}
use Rattle.walk.specs.Cells.{takes as lane_takes}
use Rattle.walk.specs.Cells.{cell, chosen, branch_by, branch_of, cell_at, Decoded, SolvedFrom, Constant, LaneHolds}
use Rattle.walk.specs.Digits.{Digits, value_in}
use Rattle.walk.proofs.Laying.{chosen_is}
use Rattle.walk.proofs.Values.{
  variable_named,
  truth_named,
  at_variable,
  at_truth,
  at_yes,
  at_no,
  at_choice,
  at_select,
  at_equal,
  at_differ,
  at_not,
  at_and,
  at_or,
  no_other,
}

module _
    {table : List ℕ}
    {shape : Shape}
    (tab : TableIn table shape)
    (pos : ℕ → ℕ)
    (inside : (k : ℕ) → k < shape.nodes → pos k < shape.nodes)
    (S : ℕ)
    (bs : List Branch)
    (long : length bs ≡ shape.nodes)
    (before cells : List ℕ)
    (from : ℕ)
    (decoded : Decoded S pos table shape bs shape.nodes)
    (solved : SolvedFrom S bs from before cells)
    (constant : Constant S cells)
    (l : ℕ)
    (low : l < S)
    (ds : List ℕ)
    (holds : LaneHolds S shape.variables (shape.variables + shape.truths) ds cells l)
    (digits : Digits shape ds) where
  abbrev nodes : ℕ
  nodes = shape.nodes

  abbrev N : ℕ
  N = shape.variables

  abbrev at : ℕ → ℕ
  at c = cell S cells c l

  abbrev val : ℕ → ℕ
  val k = at (42 + pos k)

  abbrev value : ℕ → ℕ
  value k = value_in table shape ds k

  abbrev takes : Branch → ℕ
  takes b = chosen (at b.left) (at b.right) (at b.same) (at b.apart)

  module _ (k : ℕ) (below : k < nodes) (late : from ≤ pos k) (known : (i : ℕ) → i < k → val i ≡ value i) where
    abbrev n : Node
    n = node (table_in table nodes) k

    by_branch : val k ≡ takes (branch_of (cell_at pos) N n)
    by_branch =
        let m = inside k below in
        solved.solves (pos k) l late (omega arith) low ∙ ap (λ b. lane_takes cells b l) (decoded.stored k below).is

    itself : (c r : ℕ) → at c ≡ r → chosen (at c) (at c) (at c) (at c) ≡ r
    itself c r e = chosen_is (at c) (at c) (at c) (at c) r (λ _. e) (λ _. e)

    where_one : (a p q r : ℕ) → (val a ≡ 1 → p ≡ r) × ((val a ≡ 1 → ⊥) → q ≡ r) → chosen (val a) (at 1) p q ≡ r
    where_one a p q r w =
        let yes = constant.yes l low in
        chosen_is (val a) (at 1) p q r (λ e. w.0 (e ∙ yes)) (λ e. w.1 (λ z. e (z ∙ sym yes)))

    takes_value : (op : ℕ) → n.op ≡ op → takes (branch_by (cell_at pos) N n (op_of op)) ≡ value k
    takes_value zero q =
        itself (2 + n.sym) (value k)
        (holds.variable n.sym (variable_named tab ds k below val known q) ∙ at_variable tab ds k below val known q)
    takes_value (suc zero) q = where_one n.a (val n.b) (val n.c) (value k) (at_choice tab ds k below val known q)
    takes_value (suc (suc zero)) q =
        chosen_is (val n.a) (val n.b) (at 1) (at 0) (value k)
        (λ e. constant.yes l low ∙ at_equal tab ds k below val known q e)
        (λ e. constant.no l low ∙ at_differ tab ds k below val known q e)
    takes_value (suc (suc (suc zero))) q =
        let w = at_not tab ds k below val known q in
        where_one n.a (at 0) (at 1) (value k) (λ e. constant.no l low ∙ w.0 e, λ e. constant.yes l low ∙ w.1 e)
    takes_value (suc (suc (suc (suc zero)))) q =
        let w = at_and tab ds k below val known q in
        where_one n.a (val n.b) (at 0) (value k) (w.0, λ e. constant.no l low ∙ w.1 e)
    takes_value (suc (suc (suc (suc (suc zero))))) q =
        let w = at_or tab ds k below val known q in
        where_one n.a (at 1) (val n.b) (value k) (λ e. constant.yes l low ∙ w.0 e, w.1)
    takes_value (suc (suc (suc (suc (suc (suc zero)))))) q =
        itself (2 + (N + n.sym)) (value k)
        ((let h = truth_named tab ds k below val known q in holds.truth (N + n.sym) (omega arith) (omega arith))
        ∙ at_truth tab ds k below val known digits q)
    takes_value (suc (suc (suc (suc (suc (suc (suc zero))))))) q =
        itself 1 (value k) (constant.yes l low ∙ at_yes tab ds k below val known q)
    takes_value (suc (suc (suc (suc (suc (suc (suc (suc zero)))))))) q =
        itself 0 (value k) (constant.no l low ∙ at_no tab ds k below val known q)
    takes_value (suc (suc (suc (suc (suc (suc (suc (suc (suc zero))))))))) q =
        where_one n.a (val n.b) (val n.c) (value k) (at_select tab ds k below val known q)
    takes_value (suc (suc (suc (suc (suc (suc (suc (suc (suc (suc op)))))))))) q =
        absurd (no_other tab ds k below val known _ q refl)

    -- a solved position has its node's value, where every earlier node of the table has its own
    pub solved_value : cell S cells (42 + pos k) l ≡ value_in table shape ds k
    solved_value = by_branch ∙ takes_value n.op refl

  module _ (early : (k : ℕ) → k < nodes → pos k < from → cell S before (42 + pos k) l ≡ value_in table shape ds k) where
    -- a node before the tail stays
    stays : (k : ℕ) → k < nodes → pos k < from → val k ≡ value k
    stays k h g =
        let m : S * suc (42 + pos k) ≤ S * (42 + from) = mul-le-mul_left S (let u : suc (42 + pos k) ≤ 42 + from = omega arith in u) in
        solved.kept (S * (42 + pos k) + l) (omega arith) ∙ early k h g

    -- in the table's order, in which every earlier node is known, of the tail or not
    all_before : (m k : ℕ) → k < m → k < nodes → val k ≡ value k
    all_before zero k h b = absurd (omega arith)
    all_before (suc m) k h b =
        elim (split (pos k) from) [
          | inl g ↦ stays k b g
          | inr g ↦ solved_value k b g (λ i q. all_before m i (omega arith) (omega arith))
        ]

    pub kept_fresh : (k : ℕ) → k < nodes → cell S cells (42 + pos k) l ≡ value_in table shape ds k
    kept_fresh k b = all_before (suc k) k (omega arith) b
