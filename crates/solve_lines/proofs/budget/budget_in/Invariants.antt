-- So many digits are read. Assumes nothing.
use Rattle.solve_lines.proofs.Budgets.{Digits}
use Rattle.solve_lines.proofs.budget.budget_in.Given as goal

abbrev pub invariant-loop-digit : goal.invariant-loop-digit
invariant-loop-digit l = Digits l.argument l.digit-index l.n
