use Rattle.std.proofs.Common.{◌≡◌, ℕ, arith}
use lib.Dec.{eqb}
use Rattle.theorems.proofs.Laws.Entries.{set_more}
use Rattle.ranges.specs.Sets.{in_set}
use Rattle.ranges.proofs.SetLaws.{in_only}
use Rattle.ranges.proofs.components.alone.Goals as goal

pub loop-v-preserved : goal.loop-v-preserved
loop-v-preserved c =
    let l = c.loop-v in
    set_more (λ (u set : ℕ). (w : ℕ) → in_set set w ≡ eqb u w) l.set-items l.v _ (omega arith) l.invariant
    (λ w. in_only 32 l.v w (omega arith))
