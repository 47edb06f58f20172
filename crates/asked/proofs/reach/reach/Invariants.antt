use Rattle.std.proofs.Common.{◌+◌, ◌≤◌}
use Rattle.asked.proofs.Walking.{Walking}
use Rattle.asked.proofs.reach.reach.Given as goal

abbrev pub invariant-loop-k : goal.invariant-loop-k
invariant-loop-k l = (l.count + l.k ≤ l.root + 1) × Walking l.problem l.root l.marks l.count l.k
