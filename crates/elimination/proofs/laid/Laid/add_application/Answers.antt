use Rattle.std.proofs.Common.{ap, arith}
use Rattle.elimination.proofs.Applying.{place_there, kinds_few, application_noted}
use Rattle.elimination.proofs.laid.Laid.add_application.Goals as goal

pub count_one-requires : goal.count_one-requires
count_one-requires c =
    let kinds = kinds_few c.requires.0 c.requires.1 in
    (omega (arith, place_there c.requires.0 c.requires.1), kinds.0, kinds.1)

pub returns-clause-noted : goal.returns-clause-noted
returns-clause-noted c =
    rw c.count_one.ensures
    (application_noted c.requires.0 c.requires.1 _ _ (ap (λ n. n.op) c.node.ensures) c.lay_application-at.ensures.reached)
