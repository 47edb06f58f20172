use Rattle.std.proofs.Common.{sym, ◌∙◌}
use Rattle.ranges.proofs.Unions.{union_more, union_same}
use Rattle.ranges.proofs.components.union.Goals as goal
use Rattle.ranges.proofs.components.union.Goals.{then-has, else-has}

pub loop-v-preserved : goal.loop-v-preserved
loop-v-preserved c =
    let sets = c.args.sets.now in
    let l = c.loop-v in
    let e = sym c.has.ensures in
    elim c.if-has.branch [
      | then-has w ↦ rw w.all-is (union_more sets c.args.these l.v l.all l.invariant (e ∙ w.if-has.true))
      | else-has w ↦ rw w.all-is (union_same sets c.args.these l.v l.all l.invariant (e ∙ w.if-has.false))
    ]
