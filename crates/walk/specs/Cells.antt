-- The cells that the walk works on: false, true, the values of the 40 digits, and then the nodes, each at its position. A cell has S
-- lanes, one for each place of a block, S being whole chunks of sixteen. Assumes nothing.
use Rattle.std.specs.Prelude.{◌≡◌, ℕ, ◌+◌, ◌*◌, ◌≤◌, ◌<◌, List, true, false, ◌⊎◌, length, get_or, eqb, ltb}
use Rattle.definitions.specs.Lists.{product_of}
use Rattle.definitions.specs.Places.{digits_after}
use Rattle.definitions.specs.Problem.Node.{Node, node}
use Rattle.definitions.specs.Problem.Ops.{Op, apply, choose, equal, negate, both, either, test, verum, falsum, select, unknown, op_of}
use Rattle.ranges.specs.Table.{table_in}
use Rattle.ranges.specs.declared.Shape.{Shape}
use Rattle.walk.specs.declared.branches.Branch.{Branch}

-- cell c in lane l
abbrev pub cell : ℕ → List ℕ → ℕ → ℕ → ℕ
cell S cells c l = get_or cells (S * c + l) 0

-- one of two values, by whether two others are equal
abbrev pub chosen : ℕ → ℕ → ℕ → ℕ → ℕ
chosen x y same apart = elim (eqb x y) as (λ _. ℕ) [ true ↦ same | false ↦ apart ]

-- a cell as it stands
abbrev pub one : ℕ → Branch
one c = record { left = c; right = c; same = c; apart = c }

-- the second where the first is true, else the third
abbrev pub where_true : ℕ → ℕ → ℕ → Branch
where_true c same apart = record { left = c; right = 1; same = same; apart = apart }

-- a node of an op, as a choice between two cells by whether two others are equal; node j stands in cell at j
abbrev pub branch_by : (ℕ → ℕ) → ℕ → Node → Op → Branch
branch_by at N n apply = one (2 + n.sym)
branch_by at N n choose = where_true (at n.a) (at n.b) (at n.c)
branch_by at N n equal = record { left = at n.a; right = at n.b; same = 1; apart = 0 }
branch_by at N n negate = where_true (at n.a) 0 1
branch_by at N n both = where_true (at n.a) (at n.b) 0
branch_by at N n either = where_true (at n.a) 1 (at n.b)
branch_by at N n test = one (2 + (N + n.sym))
branch_by at N n verum = one 1
branch_by at N n falsum = one 0
branch_by at N n select = where_true (at n.a) (at n.b) (at n.c)
branch_by at N n unknown = one 0

abbrev pub branch_of : (ℕ → ℕ) → ℕ → Node → Branch
branch_of at N n = branch_by at N n (op_of n.op)

-- from the cells' numbers to where their lanes begin
abbrev pub scaled : ℕ → Branch → Branch
scaled S b = record { left = S * b.left; right = S * b.right; same = S * b.same; apart = S * b.apart }

-- branches as the code has them
abbrev pub branch_in : List Branch → ℕ → Branch
branch_in bs m = get_or bs m (one 0)

-- the cell of the node at a position
abbrev pub cell_at : (ℕ → ℕ) → ℕ → ℕ
cell_at pos j = 42 + pos j

-- the branch at position m of the array: for each of the four cells, where its lanes begin
pub record Stored (S : ℕ) (bs : List Branch) (m : ℕ) (b : Branch) : Type 0 where
  pub is : branch_in bs m ≡ scaled S b

-- the branches of the first k nodes of the table, each at its node's position
pub record Decoded (S : ℕ) (pos : ℕ → ℕ) (table : List ℕ) (s : Shape) (bs : List Branch) (k : ℕ) : Type 0 where
  pub stored : (j : ℕ) → j < k → Stored S bs (pos j) (branch_of (cell_at pos) s.variables (node (table_in table s.nodes) j))

-- lanes of a cell before position m's
abbrev pub Earlier : ℕ → ℕ → ℕ → Type 0
Earlier S m at = at + S ≤ S * (42 + m)

-- a branch reads nothing but what is there before it
pub record Ready (S m : ℕ) (b : Branch) : Type 0 where
  pub left : Earlier S m b.left
  pub right : Earlier S m b.right
  pub same : Earlier S m b.same
  pub apart : Earlier S m b.apart

abbrev pub AllReady : ℕ → List Branch → Type 0
AllReady S bs = (m : ℕ) → m < length bs → Ready S m (branch_in bs m)

-- what a branch takes in lane l
abbrev pub takes : List ℕ → Branch → ℕ → ℕ
takes cells b l = chosen (get_or cells (b.left + l) 0) (get_or cells (b.right + l) 0) (get_or cells (b.same + l) 0) (get_or cells (b.apart + l) 0)

-- the sixteen lanes that a branch takes
pub record Picked (cells : List ℕ) (left right same apart : ℕ) (lanes : List ℕ) : Type 0 where
  pub lane : (l : ℕ) → l < 16
      → get_or lanes l 0 ≡ chosen (get_or cells (left + l) 0) (get_or cells (right + l) 0) (get_or cells (same + l) 0) (get_or cells (apart + l) 0)

-- the lanes at a place are what a branch takes from the cells before, and what stands before that place is as it was
pub record Chosen (S at : ℕ) (b : Branch) (before after : List ℕ) : Type 0 where
  pub inside : (l : ℕ) → l < S → get_or after (at + l) 0 ≡ takes before b l
  pub outside : (i : ℕ) → i < at → get_or after i 0 ≡ get_or before i 0

-- the positions from one on are what their branches take, in every lane, and the cells before them are as before
pub record SolvedFrom (S : ℕ) (bs : List Branch) (from : ℕ) (before after : List ℕ) : Type 0 where
  pub solves : (m l : ℕ) → from ≤ m → m < length bs → l < S → cell S after (42 + m) l ≡ takes after (branch_in bs m) l
  pub kept : (i : ℕ) → i < S * (42 + from) → get_or after i 0 ≡ get_or before i 0

-- one value in so many lanes from an offset on, and the rest as before
pub record Filled (n at value : ℕ) (before after : List ℕ) : Type 0 where
  pub inside : (l : ℕ) → l < n → get_or after (at + l) 0 ≡ value
  pub outside : (i : ℕ) → (i < at) ⊎ (at + n ≤ i) → get_or after i 0 ≡ get_or before i 0

-- the cells of false and true
pub record Constant (S : ℕ) (cells : List ℕ) : Type 0 where
  pub no : (l : ℕ) → l < S → cell S cells 0 l ≡ 0
  pub yes : (l : ℕ) → l < S → cell S cells 1 l ≡ 1

-- what is added to digit v: a variable's least value is 1, a truth variable's 0
abbrev pub least_of : ℕ → ℕ → ℕ
least_of N v = elim (ltb v N) as (λ _. ℕ) [ true ↦ 1 | false ↦ 0 ]

-- digit v of the fast ones in its lanes: in lane l as it is after l steps
abbrev pub FastHeld : ℕ → ℕ → List ℕ → ℕ → List ℕ → Type 0
FastHeld S N fast v cells = (l : ℕ) → l < product_of fast → cell S cells (2 + v) l ≡ get_or (digits_after fast l) v 0 + least_of N v

-- slow digit j, after F fast ones, in all its lanes
abbrev pub SlowHeld : ℕ → ℕ → ℕ → List ℕ → ℕ → List ℕ → Type 0
SlowHeld S N F xs j cells = (l : ℕ) → l < S → cell S cells (2 + (F + j)) l ≡ get_or xs j 0 + least_of N (F + j)

-- the digits' cells: in lane l the fast digits after l steps, and in every lane the slow digits xs
pub record DigitsHeld (S N : ℕ) (fast slow xs cells : List ℕ) : Type 0 where
  pub fast_held : (v : ℕ) → v < length fast → FastHeld S N fast v cells
  pub slow_held : (j : ℕ) → j < length slow → SlowHeld S N (length fast) xs j cells

-- the first slow digits laid anew, and nothing else changed
pub record SlowLaid (S N F : ℕ) (xs : List ℕ) (to : ℕ) (before after : List ℕ) : Type 0 where
  pub laid : (j : ℕ) → j < to → SlowHeld S N F xs j after
  pub outside : (i : ℕ) → (i < S * (2 + F)) ⊎ (S * (2 + (F + to)) ≤ i) → get_or after i 0 ≡ get_or before i 0

-- the values of so many digits in a lane: first those of the variables
pub record LaneHolds (S N count : ℕ) (ds cells : List ℕ) (l : ℕ) : Type 0 where
  pub variable : (v : ℕ) → v < N → cell S cells (2 + v) l ≡ get_or ds v 0 + 1
  pub truth : (v : ℕ) → N ≤ v → v < count → cell S cells (2 + v) l ≡ get_or ds v 0

-- the nodes' values in a lane
pub record LaneCopied (S : ℕ) (pos : ℕ → ℕ) (cells : List ℕ) (lane k : ℕ) (vals : List ℕ) : Type 0 where
  pub copied : (j : ℕ) → j < k → get_or vals j 0 ≡ cell S cells (42 + pos j) lane
