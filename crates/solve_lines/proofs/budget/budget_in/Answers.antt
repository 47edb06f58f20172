-- Digit by digit. Assumes nothing.
use Rattle.std.proofs.Common.{arith, rules}
use Rattle.std.proofs.lemmas.Bool.Decides.{nat_tests}
use Rattle.solve_lines.proofs.Budgets.{budget_none, budget_long, digits_fit, digits_wrong, digits_all}
use Rattle.solve_lines.proofs.budget.budget_in.Goals as goal

pub returns-then-is_empty : goal.returns-then-is_empty
returns-then-is_empty c = budget_none c.args.argument.now (search rules)

pub returns-then-argument-ge20 : goal.returns-then-argument-ge20
returns-then-argument-ge20 c = budget_long c.args.argument.now c.if-argument-ge20.true

pub returns-then-not-is_ascii_digit : goal.returns-then-not-is_ascii_digit
returns-then-not-is_ascii_digit c = digits_wrong _ _ _ (omega arith) c.loop-digit.invariant c.loop-digit-test.true (search rules)

pub overflow_mul-n : goal.overflow_mul-n
overflow_mul-n c =
    let small = digits_fit _ _ _ (omega arith) c.loop-digit.invariant c.loop-digit-test.true in
    omega arith

pub overflow_add-n : goal.overflow_add-n
overflow_add-n c =
    let small = digits_fit _ _ _ (omega arith) c.loop-digit.invariant c.loop-digit-test.true in
    omega arith

pub returns : goal.returns
returns c = digits_all _ _ _ (omega arith) c.loop-digit.invariant (λ e. grind (arith, nat_tests)) (omega arith)
