-- The names from a number on are those of the tokens from an offset on. Assumes nothing.
use Rattle.std.proofs.Common.{length, ◌-◌}
use Rattle.solve_lines.proofs.Passing.{Passed}
use Rattle.solve_lines.proofs.names.behind_declaring.Given as goal

abbrev pub invariant-loop-at : goal.invariant-loop-at
invariant-loop-at l = Passed l.text l.k l.at l.number

abbrev pub decreases-loop-at : goal.decreases-loop-at
decreases-loop-at l = length l.text - l.at
