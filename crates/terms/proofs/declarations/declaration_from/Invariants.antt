-- No token passed is the word.
use Rattle.std.proofs.Common.{◌≡◌, ◌≤◌, ◌-◌, ℕ, List, length}
use Rattle.terms.specs.Declarations.{declared_in, plain_at}
use Rattle.terms.proofs.declarations.declaration_from.Given as goal

abbrev pub invariant-loop-lexeme : goal.invariant-loop-lexeme
invariant-loop-lexeme l =
    (l.at ≤ length l.text) × ((sort_name : List ℕ) → declared_in sort_name (plain_at l.text l.from) ≡ declared_in sort_name (plain_at l.text l.at))

abbrev pub decreases-loop-lexeme : goal.decreases-loop-lexeme
decreases-loop-lexeme l = length l.text - l.at
