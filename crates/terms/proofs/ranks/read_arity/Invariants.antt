-- So many arguments are taken.
use Rattle.std.proofs.Common.{◌≤◌, ℕ, List, length}
use Rattle.definitions.specs.Text.Grammar.{Command}
use Rattle.terms.specs.Reading.{Reached}
use Rattle.terms.specs.Ranks.{in_taking}
use Rattle.terms.proofs.ranks.read_arity.Given as goal

abbrev pub invariant-loop-arity : goal.invariant-loop-arity
invariant-loop-arity l =
    (l.at ≤ length l.text) × (l.from ≤ l.at)
    × ((cs : List Command) (name : List ℕ) → Reached l.text (in_taking l.sort cs name 0) l.from
    → Reached l.text (in_taking l.sort cs name l.arity) l.at)
