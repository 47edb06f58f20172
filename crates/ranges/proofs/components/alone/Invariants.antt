use Rattle.std.proofs.Common.{◌≡◌, ℕ, ◌<◌, get_or}
use lib.Dec.{eqb}
use Rattle.ranges.specs.Sets.{in_set}
use Rattle.ranges.proofs.components.alone.Given as goal

-- every variable below v is alone
abbrev pub invariant-loop-v : goal.invariant-loop-v
invariant-loop-v l = (u : ℕ) → u < l.v → (w : ℕ) → in_set (get_or l.set-items u 0) w ≡ eqb u w
