use Rattle.ranges.specs.Sets.{UnionIs}
use Rattle.ranges.proofs.components.union.Given as goal

-- the classes of the variables below v that are in the set
abbrev pub invariant-loop-v : goal.invariant-loop-v
invariant-loop-v l = UnionIs l.sets l.these l.v l.all
