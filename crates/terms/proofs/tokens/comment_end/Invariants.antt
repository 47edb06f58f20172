-- No byte passed breaks the line, so the comment still runs.
use Rattle.std.proofs.Common.{◌≡◌, ◌+◌, ◌-◌, ◌≤◌, true, drop, length}
use Rattle.definitions.specs.Text.Tokens.{blank}
use Rattle.terms.proofs.tokens.comment_end.Given as goal

abbrev pub invariant-loop-at : goal.invariant-loop-at
invariant-loop-at l =
    (l.from ≤ l.at) × (l.at ≤ length l.text) × (l.from + blank true (drop l.from l.text) ≡ l.at + blank true (drop l.at l.text))

abbrev pub decreases-loop-at : goal.decreases-loop-at
decreases-loop-at l = length l.text - l.at
