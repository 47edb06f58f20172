-- What is passed and what is still to come make up the whole.
use Rattle.std.proofs.Common.{◌≡◌, ◌+◌, ◌-◌, ◌≤◌, false, drop, length}
use Rattle.definitions.specs.Text.Tokens.{blank}
use Rattle.terms.proofs.tokens.blank_end.Given as goal

abbrev pub invariant-loop-at : goal.invariant-loop-at
invariant-loop-at l =
    (l.at ≤ length l.text) × (l.from + blank false (drop l.from l.text) ≡ l.at + blank false (drop l.at l.text))

abbrev pub decreases-loop-at : goal.decreases-loop-at
decreases-loop-at l = length l.text - l.at
