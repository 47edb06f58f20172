use Rattle.std.proofs.Common.{◌≡◌, ◌+◌, length, drop}
use Rattle.elimination.proofs.Pairwise.{Conditioned}
use Rattle.elimination.proofs.conditions.lay_condition.Given as goal

abbrev pub invariant-loop-x : goal.invariant-loop-x
invariant-loop-x l =
    Conditioned l.xs l.ys l.fn.work l.count l.work l.at (length l.yielded + 1)
    × (l.x-iterator.a.rest.now ≡ drop (length l.yielded + 1) l.xs)
    × (l.x-iterator.b.rest.now ≡ drop (length l.yielded + 1) l.ys)
