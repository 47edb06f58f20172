use Rattle.elimination.proofs.Applying.{application_lays}
use Rattle.elimination.proofs.laid.Laid.lay_application.Goals as goal

pub returns-clause-lays : goal.returns-clause-lays
returns-clause-lays c =
    (application_lays c.requires.0 c.requires.1 c.node-op.ensures c.next.ensures c.lay.ensures c.lay_choices.ensures.0).0

pub returns-clause-reached : goal.returns-clause-reached
returns-clause-reached c =
    (application_lays c.requires.0 c.requires.1 c.node-op.ensures c.next.ensures c.lay.ensures c.lay_choices.ensures.0).1
