-- What the walk needs at its calls: room in the arrays, branches that read only what stands before them, and where a tail begins.
-- Assumes nothing.
use mathlib.Core.Path.{◌≡◌}
use Prim.Native.Nat.{ℕ, ◌+◌, ◌*◌, ◌≤◌, ◌<◌, min}
use native.Mathlib.Nat.{mul-le-mul_left}
use native.Mathlib.Omega.{arith}
use mathlib.Core.List.{List}
use mathlib.Core.Logic.{inl, inr}
use lib.ListN.{length, get_or, take}
use Rattle.theorems.proofs.Laws.Tests.{split}
use Rattle.walk.specs.Cells.{AllReady, SlowLaid}
use Rattle.walk.specs.declared.branches.Branch.{Branch}
use Rattle.walk.specs.Digits.{SlowIs, fast_of}
use Rattle.walk.specs.Keeping.{Setting, Begins}
use Rattle.walk.specs.Laid.{LanesReady}
use Rattle.walk.specs.Reading.{positions_in}
use Rattle.walk.specs.declared.Begun.{Begun}
use Rattle.walk.specs.declared.plan.Plan.{Plan}
use Rattle.walk.specs.declared.odometer.Odometer.{Odometer}
use Rattle.walk.proofs.Arranging.{ordering}
use Rattle.walk.proofs.Branching.{all_ready}
use Rattle.walk.proofs.Solving.{place_fits, place_small}
use Rattle.walk.proofs.Going.{sets_out}
use Rattle.walk.proofs.Walking.{inside, lanes_few}

-- a digit and 1 more are a byte
pub digits_small : (o : Odometer) → (v : ℕ) → get_or o.digits v 0 + 1 < 256
digits_small o v =
    elim (split v o.count) [
      | inl h ↦ (let a = o.turning.within v h in let b = o.turning.sizes_small v in omega arith)
      | inr h ↦ (let a = o.turning.past v h in omega arith)
    ]

-- what has room for all cells has it for those of the digits, and for one more
pub digits_fit : (S nodes n : ℕ) → S * (42 + nodes) ≤ n → S * 42 ≤ n
digits_fit S nodes n h = let u : S * 42 ≤ S * (42 + nodes) = mul-le-mul_left S (let v : 42 ≤ 42 + nodes = omega arith in v) in omega arith

pub one_fits : (S nodes root n : ℕ) → root < nodes → S * (42 + nodes) ≤ n → S * 43 ≤ n
one_fits S nodes root n b h = let u : S * 43 ≤ S * (42 + nodes) = mul-le-mul_left S (let v : 43 ≤ 42 + nodes = omega arith in v) in omega arith

-- a lane of a node's cell is a lane of the cells
pub lanes_fit : (S m nodes n at many lanes : ℕ) → at ≡ S * (42 + m) → m < nodes → S * (42 + nodes) ≤ n → many ≤ lanes → lanes ≤ S → at + many ≤ n
lanes_fit S m nodes n at many lanes e h long few fit = let u = place_fits S m nodes n at e h long in omega arith

-- everything is ready for the first block
pub begins_with : (plan : Plan) (positions : List ℕ) (bs : List Branch) (mid cells : List ℕ) (r : Begun) → Setting plan positions r.starts bs
    → SlowIs plan.start plan.parts.fast r.slow → LanesReady (16 * plan.parts.chunks) plan.table.shape.variables (fast_of plan.start plan.parts) mid
    → SlowLaid (16 * plan.parts.chunks) plan.table.shape.variables plan.parts.fast r.slow.digits r.slow.count mid cells
    → r.root ≡ 16 * plan.parts.chunks * (42 + positions_in positions plan.root) → Begins plan positions bs cells r
begins_with plan positions bs mid cells r set sl lr la e =
    record {
      setting = set;
      walking = λ budget. sets_out plan positions r.starts bs set budget r.slow sl mid cells lr la;
      root_is = e;
    }

module _ (plan : Plan) (positions starts : List ℕ) (bs : List Branch) (set : Setting plan positions starts bs) where
  pub ready_all : AllReady (16 * plan.parts.chunks) bs
  ready_all =
      all_ready (16 * plan.parts.chunks) plan.table.well_formed (positions_in positions)
      (ordering plan.table.bytes.now plan.table.shape plan.table.well_formed plan.parts.fast (take (plan.table.shape.variables + plan.table.shape.truths) plan.start.sizes) positions starts set.arranged) bs
      set.branches_long set.decoded

-- the lanes of the root's cell that are looked at are among the cells, and not far on
module _ {plan : Plan} {positions : List ℕ} {bs : List Branch} {first : List ℕ} {begun : Begun} (b : Begins plan positions bs first begun) where
  root_inside : positions_in positions plan.root < plan.table.shape.nodes
  root_inside = inside plan positions begun.starts bs b.setting plan.root plan.planned.root_in.below

  pub root_fits : (left many : ℕ) (cells : List ℕ) → many ≡ min left plan.parts.lanes → 16 * plan.parts.chunks * (42 + plan.table.shape.nodes) ≤ length cells
      → begun.root + many ≤ length cells
  root_fits left many cells e room =
      lanes_fit (16 * plan.parts.chunks) _ plan.table.shape.nodes _ _ _ plan.parts.lanes b.root_is root_inside room (lanes_few _ _ _ e).0
      plan.planned.parts_are.parted.lanes_fit

  pub root_small : begun.root ≤ 342272
  root_small =
      let few = plan.planned.parts_are.parted.chunks_few in
      let low = root_inside in
      let e = b.root_is in
      let u = place_small (16 * plan.parts.chunks) _ plan.table.shape.nodes (omega arith) (let v : positions_in positions plan.root ≤ plan.table.shape.nodes = omega arith in v) plan.table.well_formed.few_nodes in
      omega arith
