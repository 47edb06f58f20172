use Rattle.std.proofs.Common.{◌≡◌, ℕ, ◌<◌, ◌≤◌, cond, get_or}
use Rattle.ranges.specs.Sets.{in_set}
use Rattle.ranges.proofs.components.merge.Given as goal

-- the classes of the variables below v are merged, and the others are as they were
abbrev pub invariant-loop-v : goal.invariant-loop-v
invariant-loop-v l =
    ((u : ℕ) → u < l.v → get_or l.sets u 0 ≡ cond (in_set l.all u) l.all (get_or l.initial.sets u 0))
    × ((u : ℕ) → l.v ≤ u → get_or l.sets u 0 ≡ get_or l.initial.sets u 0)
