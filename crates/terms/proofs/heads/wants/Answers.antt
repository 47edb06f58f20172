-- By the head. Assumes nothing.
use Rattle.terms.proofs.WantedLaws.{wants_applied, wants_not, wants_choice, wants_equals, wants_formulas, wants_nothing}
use Rattle.terms.proofs.heads.wants.Goals as goal

pub returns-in-Applied : goal.returns-in-Applied
returns-in-Applied c =
    let head = c.in-Applied in rw head.is (wants_applied c.args.seen _ head.number head.sort head.arity c.below.ensures)

pub returns-in-Choice-2 : goal.returns-in-Choice-2
returns-in-Choice-2 c =
    let head = c.in-Choice-2 in rw head.is (wants_choice c.args.seen _ head.sort c.if-seen-eq0.false c.below-in-Choice-2.ensures)

pub returns-in-Equals : goal.returns-in-Equals
returns-in-Equals c = rw c.in-Equals.is (wants_equals c.args.seen)

pub returns-in-Not : goal.returns-in-Not
returns-in-Not c = rw c.in-Not.is (wants_not c.args.seen _ c.below-in-Not.ensures)

pub returns-in-And : goal.returns-in-And
returns-in-And c = wants_formulas c.args.seen c.in-And.is

pub returns-in-True : goal.returns-in-True
returns-in-True c = wants_nothing c.args.seen c.in-True.is
