use Rattle.std.proofs.Common.{◌≡◌, length, take}
use Rattle.asked.specs.Reached.{operands_at, Marked}
use Rattle.asked.proofs.reach.mark_operands.Given as goal

abbrev pub invariant-loop-operand : goal.invariant-loop-operand
invariant-loop-operand l =
    Marked (take l.operand-index (operands_at l.problem l.k)) l.fn.marks l.marks × (length l.marks ≡ 256)
