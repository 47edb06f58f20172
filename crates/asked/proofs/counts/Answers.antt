use Rattle.asked.proofs.Asking.{many_functions, many_predicates, within_limits_lem}
use Rattle.asked.proofs.counts.Goals as goal

pub returns-then-functions-gt24 : goal.returns-then-functions-gt24
returns-then-functions-gt24 c = record { answers = many_functions _ c.distinct-functions.ensures c.if-functions-gt24.true }

pub returns-then-predicates-gt16 : goal.returns-then-predicates-gt16
returns-then-predicates-gt16 c =
    record { answers = many_predicates _ c.distinct-functions.ensures c.if-functions-gt24.false c.distinct-predicates.ensures c.if-predicates-gt16.true }

pub returns : goal.returns
returns c =
    record { answers = within_limits_lem _ c.distinct-functions.ensures c.if-functions-gt24.false c.distinct-predicates.ensures c.if-predicates-gt16.false }
