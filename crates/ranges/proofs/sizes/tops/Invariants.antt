use Rattle.std.proofs.Common.{◌≡◌, map}
use Rattle.definitions.specs.Lists.{below}
use Rattle.definitions.specs.Ranges.{padded}
use Rattle.ranges.specs.Sets.{rank_in}
use Rattle.ranges.proofs.sizes.tops.Given as goal

-- the ranks of the variables below v stand at the start, and 0 after them
abbrev pub invariant-loop-v : goal.invariant-loop-v
invariant-loop-v l = l.tops ≡ padded (map (rank_in l.components) (below l.v))
