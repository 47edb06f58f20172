-- The branches of the nodes stored, each at its node's position; the lanes of their cells begin at numbers of two bytes. Assumes
-- nothing.
use mathlib.Core.Path.{◌≡◌, ◌∙◌}
use Prim.Native.Nat.{ℕ, zero, suc, ◌+◌, ◌*◌, ◌≤◌, ◌<◌}
use native.Mathlib.Omega.{arith}
use native.Mathlib.Nat.{mul-le-mul_left}
use mathlib.Core.List.{List}
use lib.ListN.{length, get_or, set}
use lib.Seq.{get_or-set_same, get_or-set_other}
use borrow.Author.Count.{below_more}
use Rattle.definitions.specs.Problem.Node.{node}
use Rattle.ranges.specs.Table.{TableIn, table_in}
use Rattle.ranges.specs.declared.Shape.{Shape}
use Rattle.walk.specs.declared.branches.Branch.{Branch}
use Rattle.walk.specs.Cells.{one, scaled, branch_of, cell_at, Stored, Decoded}
use Rattle.walk.specs.Reading.{InOrder, positions_in}
use Rattle.walk.proofs.Branching.{branch_inside}

-- node k's branch stored as well: it leaves those at other positions as they are
pub decoded_more : (S : ℕ) (positions table : List ℕ) (s : Shape) → InOrder positions → (bs : List Branch) (k : ℕ) (b : Branch)
    → b ≡ scaled S (branch_of (cell_at (positions_in positions)) s.variables (node (table_in table s.nodes) k)) → k < length positions → length positions ≤ length bs
    → Decoded S (positions_in positions) table s bs k → Decoded S (positions_in positions) table s (set bs (get_or positions k 0) b) (k + 1)
decoded_more S positions table s o bs k b e h long d =
    let p = o.inside k h in
    record {
      stored =
          below_more (λ j. Stored S (set bs (get_or positions k 0) b) (get_or positions j 0) (branch_of (cell_at (positions_in positions)) s.variables (node (table_in table s.nodes) j))) k
          (λ j g.
          record {
            is =
                get_or-set_other bs (get_or positions k 0) (get_or positions j 0) b (one 0) (λ q. let z = o.apart j k (omega arith) h q in omega arith)
                ∙ (d.stored j g).is;
          })
          (record { is = get_or-set_same bs (get_or positions k 0) b (one 0) (omega arith) ∙ e });
    }

-- where all the cells have few enough lanes, those of a cell begin at a number of two bytes
offset_small : (chunks c nodes : ℕ) → c < 42 + nodes → chunks * (42 + nodes) ≤ 4096 → 16 * chunks * c ≤ 65535
offset_small zero c nodes h few = omega arith
offset_small (suc d) c nodes h few =
    let u : suc d * suc c ≤ suc d * (42 + nodes) = mul-le-mul_left (suc d) h in
    omega arith

-- and there are not many chunks
pub chunks_few : (chunks nodes : ℕ) → chunks * (42 + nodes) ≤ 4096 → chunks ≤ 4096
chunks_few chunks nodes few =
    let u : chunks * 42 ≤ chunks * (42 + nodes) = mul-le-mul_left chunks (let v : 42 ≤ 42 + nodes = omega arith in v) in
    omega arith

-- the lanes of each of a branch's four cells begin at a number of two bytes
pub record Small (S : ℕ) (b : Branch) : Type 0 where
  pub left : S * b.left ≤ 65535
  pub right : S * b.right ≤ 65535
  pub same : S * b.same ≤ 65535
  pub apart : S * b.apart ≤ 65535

-- so it is with a node's branch
pub offsets : (chunks : ℕ) (positions : List ℕ) {table : List ℕ} {s : Shape} → TableIn table s → InOrder positions → length positions ≡ s.nodes
    → chunks * (42 + s.nodes) ≤ 4096 → (k : ℕ) → k < s.nodes → (b : Branch)
    → b ≡ branch_of (cell_at (positions_in positions)) s.variables (node (table_in table s.nodes) k) → Small (16 * chunks) b
offsets chunks positions {s = s} tab o long few k h b is =
    let w = branch_inside tab k h (positions_in positions) b is (λ j g. let i = o.inside j (omega arith) in omega arith) in
    record {
      left = offset_small chunks b.left s.nodes w.left few;
      right = offset_small chunks b.right s.nodes w.right few;
      same = offset_small chunks b.same s.nodes w.same few;
      apart = offset_small chunks b.apart s.nodes w.apart few;
    }
