-- The nodes of a table as branches: what the code makes of a node's bytes is its branch, and a branch reads only cells that are
-- there before it, since operands stand earlier in the order and there are few digits. Assumes nothing.
use mathlib.Core.Path.{◌≡◌, refl, sym, ap, ◌∙◌, subst}
use Prim.Native.Nat.{ℕ, zero, suc, ◌+◌, ◌*◌, ◌≤◌, ◌<◌}
use native.Mathlib.Omega.{arith}
use native.Mathlib.Nat.{mul-le-mul_left}
use mathlib.Core.List.{List, [], ◌∷◌}
use mathlib.Core.Logic.{◌⊎◌, inl, inr}
use lib.ListN.{length, get_or, take}
use Rattle.definitions.specs.Problem.Node.{Node, node}
use Rattle.definitions.specs.Problem.Ops.{Op, choose, select, op_of, operand_sorts, count_of, fields_of}
use Rattle.problem.specs.Nodes.{node_read}
use Rattle.problem.specs.Ops.{op_read}
use Rattle.problem.specs.declared.put.Node as put
use Rattle.problem.specs.declared.ops.Op as ops
use Rattle.problem.specs.declared.ops.Op.TheVariants.{Choose, Select}
use Rattle.theorems.proofs.Accepted.{length_nodes_at}
use Rattle.theorems.proofs.Laws.Ops.{AllBelow}
use Rattle.ranges.specs.Table.{TableIn, table_in}
use Rattle.ranges.specs.declared.Shape.{Shape}
use Rattle.blocks.proofs.Depends.{Each, operands_at, operands_below}
use Rattle.walk.specs.declared.branches.Branch.{Branch}
use Rattle.walk.specs.Digits.{value_in}
use Rattle.walk.specs.Cells.{one, where_true, scaled, branch_by, branch_of, branch_in, cell_at, Decoded, Earlier, Ready, AllReady}
use Rattle.walk.specs.Reading.{InOrder}
use Rattle.walk.proofs.Values.{variable_named, truth_named}

-- a branch at position m reads cells before its own
pub record BranchBefore (m : ℕ) (b : Branch) : Type 0 where
  pub left : b.left < 42 + m
  pub right : b.right < 42 + m
  pub same : b.same < 42 + m
  pub apart : b.apart < 42 + m

one_before : (m c : ℕ) → c < 42 + m → BranchBefore m (one c)
one_before m c h = record { left = h; right = h; same = h; apart = h }

choice_before : (m c s a : ℕ) → c < 42 + m → s < 42 + m → a < 42 + m → BranchBefore m (where_true c s a)
choice_before m c s a x y z = record { left = x; right = omega arith; same = y; apart = z }

-- positions that are an order of the nodes: each has its own, every position is a node's, and operands stand before the nodes
-- that use them
pub record Ordering (bytes : List ℕ) (nodes : ℕ) (pos : ℕ → ℕ) : Type 0 where
  pub inside : (k : ℕ) → k < nodes → pos k < nodes
  pub one : (j k : ℕ) → j < nodes → k < nodes → pos j ≡ pos k → j ≡ k
  pub onto : (m : ℕ) → m < nodes → (k : ℕ) × (k < nodes) × (pos k ≡ m)
  pub operands_first : (k : ℕ) → k < nodes → Each (λ j. pos j < pos k) (operands_at (table_in bytes nodes) k)

-- the operands of a node stand at positions below m, and so its branch reads cells before position m's
module _
    {bytes : List ℕ}
    {shape : Shape}
    (tab : TableIn bytes shape)
    (pos : ℕ → ℕ)
    (k : ℕ)
    (below : k < shape.nodes)
    (m : ℕ) where
  abbrev N : ℕ
  N = shape.variables

  abbrev t : List Node
  t = table_in bytes shape.nodes

  abbrev n : Node
  n = node t k

  abbrev val : ℕ → ℕ
  val i = value_in bytes shape [] i

  by_op : (op : ℕ) → n.op ≡ op → Each (λ j. pos j < m) (take (count_of (operand_sorts (op_of op) 0)) (fields_of n))
      → BranchBefore m (branch_by (cell_at pos) N n (op_of op))
  by_op zero q w =
      let v = variable_named tab [] k below val (λ i h. refl) q in
      let few = tab.few_variables in
      one_before m (2 + n.sym) (omega arith)
  by_op (suc zero) q w =
      let a = w.0 in
      let b = w.1.0 in
      let c = w.1.1.0 in
      choice_before m (cell_at pos n.a) (cell_at pos n.b) (cell_at pos n.c) (omega arith) (omega arith) (omega arith)
  by_op (suc (suc zero)) q w =
      let a = w.0 in
      let b = w.1.0 in
      record { left = omega arith; right = omega arith; same = omega arith; apart = omega arith }
  by_op (suc (suc (suc zero))) q w = let a = w.0 in choice_before m (cell_at pos n.a) 0 1 (omega arith) (omega arith) (omega arith)
  by_op (suc (suc (suc (suc zero)))) q w =
      let a = w.0 in
      let b = w.1.0 in
      choice_before m (cell_at pos n.a) (cell_at pos n.b) 0 (omega arith) (omega arith) (omega arith)
  by_op (suc (suc (suc (suc (suc zero))))) q w =
      let a = w.0 in
      let b = w.1.0 in
      choice_before m (cell_at pos n.a) 1 (cell_at pos n.b) (omega arith) (omega arith) (omega arith)
  by_op (suc (suc (suc (suc (suc (suc zero)))))) q w =
      let v = truth_named tab [] k below val (λ i h. refl) q in
      let few = tab.few_variables in
      let less = tab.few_truths in
      one_before m (2 + (N + n.sym)) (omega arith)
  by_op (suc (suc (suc (suc (suc (suc (suc zero))))))) q w = one_before m 1 (omega arith)
  by_op (suc (suc (suc (suc (suc (suc (suc (suc zero)))))))) q w = one_before m 0 (omega arith)
  by_op (suc (suc (suc (suc (suc (suc (suc (suc (suc zero))))))))) q w =
      let a = w.0 in
      let b = w.1.0 in
      let c = w.1.1.0 in
      choice_before m (cell_at pos n.a) (cell_at pos n.b) (cell_at pos n.c) (omega arith) (omega arith) (omega arith)
  by_op (suc (suc (suc (suc (suc (suc (suc (suc (suc (suc op)))))))))) q w = one_before m 0 (omega arith)

  reads_before : Each (λ j. pos j < m) (operands_at t k) → BranchBefore m (branch_of (cell_at pos) N n)
  reads_before w = by_op n.op refl w

-- in an order, the branch of node k reads only what is there before it
pub branch_before : {bytes : List ℕ} {shape : Shape} (tab : TableIn bytes shape) (pos : ℕ → ℕ) → Ordering bytes shape.nodes pos
    → (k : ℕ) → k < shape.nodes → BranchBefore (pos k) (branch_of (cell_at pos) shape.variables (node (table_in bytes shape.nodes) k))
branch_before tab pos ordering k below =
    reads_before tab pos k below (pos k) (ordering.operands_first k below)

each_below : (Q : ℕ → Type 0) (k : ℕ) → ((j : ℕ) → j < k → Q j) → (ks : List ℕ) → AllBelow k ks → Each Q ks
each_below Q k f [] b = tt
each_below Q k f (j ∷ ks) b = (f j b.0, each_below Q k f ks b.1)

-- node k: its operands in use are earlier nodes, and so its branch reads cells of nodes
module _ {bytes : List ℕ} {shape : Shape} (tab : TableIn bytes shape) (k : ℕ) (below : k < shape.nodes) where
  abbrev here : Node
  here = node (table_in bytes shape.nodes) k

  earlier_operands : AllBelow k (operands_at (table_in bytes shape.nodes) k)
  earlier_operands =
      let l = length_nodes_at bytes 0 shape.nodes in
      operands_below shape.variables shape.truths (table_in bytes shape.nodes) tab.free k (omega arith)

  pub operands_there : (op : Op) → op_of here.op ≡ op → AllBelow k (take (count_of (operand_sorts op 0)) (fields_of here))
  operands_there op q = subst (λ x. AllBelow k (take (count_of (operand_sorts x 0)) (fields_of here))) q earlier_operands

  pub choice_operands : (op_of here.op ≡ choose) ⊎ (op_of here.op ≡ select) → AllBelow k (fields_of here)
  choice_operands q = elim q [ inl p ↦ operands_there choose p | inr p ↦ operands_there select p ]

  -- where every node's position is below their number, it reads cells of nodes
  pub branch_inside : (pos : ℕ → ℕ) (b : Branch) → b ≡ branch_of (cell_at pos) shape.variables here
      → ((j : ℕ) → j < shape.nodes → pos j < shape.nodes) → BranchBefore shape.nodes b
  branch_inside pos b is inside =
      subst (BranchBefore shape.nodes) (sym is)
      (reads_before tab pos k below shape.nodes
      (each_below (λ j. pos j < shape.nodes) k (λ j h. inside j (omega arith)) (operands_at (table_in bytes shape.nodes) k) earlier_operands))

-- an earlier node's position is there to read
pub operand_there : {table positions : List ℕ} {s : Shape} → TableIn table s → InOrder positions → length positions ≡ s.nodes → (k : ℕ) → k < s.nodes
    → (j : ℕ) → j < k → (j < length positions) × (get_or positions j 0 < 2632)
operand_there tab o long k below j g =
    let few = tab.few_nodes in
    let i = o.inside j (omega arith) in
    (omega arith, omega arith)

-- the op that the code reads is the node's
pub op_read_is : (m : put.Node) (n : Node) (r x : ops.Op) → node_read m ≡ n → op_read r ≡ op_of m.op → r ≡ x → op_of n.op ≡ op_read x
op_read_is m n r x e f g = ap (λ (y : Node). op_of y.op) (sym e) ∙ sym f ∙ ap op_read g

-- the operands of a choice
pub choice_there : {table positions : List ℕ} {s : Shape} (tab : TableIn table s) → InOrder positions → length positions ≡ s.nodes → (k : ℕ) → k < s.nodes
    → (m : put.Node) → node_read m ≡ node (table_in table s.nodes) k → (r : ops.Op) → op_read r ≡ op_of m.op → (r ≡ Choose) ⊎ (r ≡ Select)
    → (m.a < k) × (m.b < k) × (m.c < k)
choice_there {table = table} {s = s} tab o long k below m e r f h =
    let n = node (table_in table s.nodes) k in
    let u =
    choice_operands tab k below (elim h [ inl p ↦ inl (op_read_is m n r Choose e f p) | inr p ↦ inr (op_read_is m n r Select e f p) ])
    in
    let a = ap (λ (y : Node). y.a) e in
    let b = ap (λ (y : Node). y.b) e in
    let c = ap (λ (y : Node). y.c) e in
    (omega arith, omega arith, omega arith)

earlier : (S m c : ℕ) → c < 42 + m → Earlier S m (S * c)
earlier S m c h = let u : S * suc c ≤ S * (42 + m) = mul-le-mul_left S h in omega arith

-- a branch that reads cells before its own reads lanes before its own
pub laid_before : (S m : ℕ) (b : Branch) → BranchBefore m b → Ready S m (scaled S b)
laid_before S m b r =
    record { left = earlier S m b.left r.left; right = earlier S m b.right r.right; same = earlier S m b.same r.same; apart = earlier S m b.apart r.apart }

-- every position is ready: it is some node's
pub all_ready : (S : ℕ) {bytes : List ℕ} {shape : Shape} (tab : TableIn bytes shape) (pos : ℕ → ℕ) → Ordering bytes shape.nodes pos
    → (bs : List Branch) → length bs ≡ shape.nodes → Decoded S pos bytes shape bs shape.nodes → AllReady S bs
all_ready S tab pos ordering bs long d m h =
    let w = ordering.onto m (omega arith) in
    subst (λ x. Ready S x (branch_in bs x)) w.2
    (subst (Ready S (pos w.0)) (sym (d.stored w.0 w.1).is) (laid_before S (pos w.0) _ (branch_before tab pos ordering w.0 w.1)))
