-- Token by token. Assumes nothing.
use Rattle.std.proofs.Common.{sym, ◌∙◌}
use Rattle.solve_lines.proofs.Passing.{passed_none, passed_end, passed_here, passed_one}
use Rattle.solve_lines.proofs.names.behind_declaring.Goals as goal

pub loop-at-init : goal.loop-at-init
loop-at-init c = passed_none _ _

pub returns-in-End : goal.returns-in-End
returns-in-End c = passed_end _ _ _ _ c.loop-at.invariant c.next-token.result c.next-token.ensures c.in-End.is

pub returns-then-number-k : goal.returns-then-number-k
returns-then-number-k c = (
  passed_here _ _ _ _ c.loop-at.invariant c.next-token.result c.next-token.ensures c.in_default.not-End
      (sym c.is_declaring.ensures ∙ c.if-not-is_declaring.false) c.if-number-k.true,
  c.next-token.ensures.inside,
)

pub loop-at-preserved : goal.loop-at-preserved
loop-at-preserved c =
    passed_one _ _ _ _ c.loop-at.invariant c.next-token.result c.next-token.ensures c.in_default.not-End
    (sym c.is_declaring.ensures ∙ c.if-not-is_declaring.false) c.if-number-k.false
