-- What the walk keeps from block to block: the odometer of the slow digits stands at a block, all places before it are true, the
-- digits' cells are laid for it, and the nodes before the tail are fresh already. Assumes nothing.
use Rattle.std.specs.Prelude.{◌≡◌, ℕ, ◌+◌, ◌*◌, ◌≤◌, ◌<◌, min, List, length, take}
use Rattle.definitions.specs.Lists.{product_of}
use Rattle.definitions.specs.Places.{digits_after}
use Rattle.theorems.specs.Searched.{AllTrue}
use Rattle.order.specs.Order.{Arranged}
use Rattle.walk.specs.Cells.{Decoded, Constant, DigitsHeld}
use Rattle.walk.specs.Digits.{digits_of, sizes_in, fast_of, slow_of}
use Rattle.walk.specs.Kept.{FreshBefore}
use Rattle.walk.specs.Reading.{positions_in}
use Rattle.walk.specs.Walked.{root_true, WalkIs}
use Rattle.walk.specs.declared.Begun.{Begun}
use Rattle.walk.specs.declared.Walked.{Walked}
use Rattle.walk.specs.declared.plan.Plan.{Plan}
use Rattle.walk.specs.declared.branches.Branch.{Branch}
use Rattle.walk.specs.declared.odometer.Odometer.{Odometer}

-- the walk of such a table: as many places as the budget allows
abbrev pub PlanWalked : Plan → ℕ → List ℕ → Walked → Type 0
PlanWalked plan budget vals r =
    WalkIs plan.table.bytes.now plan.table.shape plan.root plan.start (min budget (product_of (sizes_in plan.start))) vals r

-- what holds all the while
pub record Setting (plan : Plan) (positions starts : List ℕ) (bs : List Branch) : Type 0 where
  pub arranged : Arranged plan.table.bytes.now plan.table.shape plan.parts.fast (take (plan.table.shape.variables + plan.table.shape.truths) plan.start.sizes) positions starts
  pub decoded : Decoded (16 * plan.parts.chunks) (positions_in positions) plan.table.bytes.now plan.table.shape bs plan.table.shape.nodes
  pub positions_long : length positions ≡ plan.table.shape.nodes
  pub branches_long : length bs ≡ plan.table.shape.nodes

pub record Walking (plan : Plan) (positions : List ℕ) (budget : ℕ) (cells : List ℕ) (now : Odometer) (tried from q : ℕ) : Type 0 where
  pub reached : tried ≤ budget
  pub block_inside : q < product_of (slow_of plan.start plan.parts)
  pub passed : tried ≤ q * plan.parts.lanes
  pub going : tried < budget → tried ≡ q * plan.parts.lanes
  pub held : AllTrue (root_true plan.table.bytes.now plan.table.shape plan.root (sizes_in plan.start)) tried
  pub sizes_are : sizes_in now ≡ slow_of plan.start plan.parts
  pub digits_are : digits_of now ≡ digits_after (slow_of plan.start plan.parts) q
  pub from_few : from ≤ plan.table.shape.nodes
  pub constant : Constant (16 * plan.parts.chunks) cells
  pub digits_held :
      DigitsHeld (16 * plan.parts.chunks) plan.table.shape.variables (fast_of plan.start plan.parts) (slow_of plan.start plan.parts) (digits_after (slow_of plan.start plan.parts) q) cells
  pub early :
      FreshBefore plan.table.bytes.now plan.table.shape (16 * plan.parts.chunks) (positions_in positions) (fast_of plan.start plan.parts) (slow_of plan.start plan.parts) q from cells

-- the walk is ready for its first block
pub record Begins (plan : Plan) (positions : List ℕ) (bs : List Branch) (cells : List ℕ) (r : Begun) : Type 0 where
  pub setting : Setting plan positions r.starts bs
  pub walking : (budget : ℕ) → Walking plan positions budget cells r.slow 0 0 0
  pub root_is : r.root ≡ 16 * plan.parts.chunks * (42 + positions_in positions plan.root)
