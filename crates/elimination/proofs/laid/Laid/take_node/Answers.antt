use Rattle.std.proofs.Common.{sym, ap, ◌∙◌}
use Rattle.definitions.specs.Problem.Node.{Node}
use Rattle.definitions.specs.Problem.Ops.{op_of, is_app}
use Rattle.elimination.proofs.Taking.{repeat_noted, repeat_lays}
use Rattle.elimination.proofs.laid.Laid.take_node.Goals as goal

pub returns-in-Some-clause-noted : goal.returns-in-Some-clause-noted
returns-in-Some-clause-noted c =
    repeat_noted c.requires (sym c.in-Some.ensures)
    (ap (λ (n : Node). is_app (op_of n.op)) (sym c.node.ensures) ∙ ap is_app (sym c.from.ensures) ∙ sym c.if-not-is_application.ensures)

pub returns-in-Some-clause-lays : goal.returns-in-Some-clause-lays
returns-in-Some-clause-lays c =
    repeat_lays c.requires (sym c.in-Some.ensures)
    (ap (λ (n : Node). is_app (op_of n.op)) (sym c.node.ensures) ∙ ap is_app (sym c.from.ensures) ∙ sym c.if-not-is_application.ensures)
