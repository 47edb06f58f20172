-- The tokens that are left must come yet.
use Rattle.std.proofs.Common.{◌≤◌, map, drop, length}
use Rattle.definitions.specs.Text.Reader.{State, Stage, goes, each, level_of}
use Rattle.terms.specs.Reading.{Reached, due_read}
use Rattle.terms.proofs.exact.exact_all.Given as goal

abbrev pub invariant-loop-due : goal.invariant-loop-due
invariant-loop-due l =
    (l.at ≤ length l.text)
    × ((st : State) (then : Stage) → level_of then ≤ 64 → Reached l.text (goes st (each (map due_read l.dues) then)) l.from
    → Reached l.text (goes st (each (map due_read (drop l.due-index l.dues)) then)) l.at)
