use Rattle.std.proofs.Common.{ℕ, List, ◌∙◌, ap₂, arith, set}
use Rattle.ranges.specs.Sets.{rank_in}
use Rattle.ranges.proofs.TopLaws.{padded_next}
use Rattle.ranges.proofs.sizes.tops.Goals as goal

pub loop-v-preserved : goal.loop-v-preserved
loop-v-preserved c =
    let l = c.loop-v in
    ap₂ (λ (xs : List ℕ) (n : ℕ). set xs l.v n) l.invariant c.rank.ensures
    ∙ padded_next (rank_in c.args.components) l.v (omega arith)
