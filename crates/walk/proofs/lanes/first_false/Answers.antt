-- Where no lane is 0, none is found; else the place found is the position of the first.
use Rattle.std.proofs.Common.{rules, tests, true, false, ◌∙◌, sym}
use lib.Dec.{eqb}
use Rattle.std.proofs.lemmas.Iterator.{first_from_Range}
use Rattle.problem.proofs.Finding.{tested, range_position}
use Rattle.walk.proofs.Found.{none_any, none_found}
use Rattle.walk.proofs.lanes.first_false.Goals as goal

pub returns-then-not-contains : goal.returns-then-not-contains
returns-then-not-contains c =
    sym
    (none_found (λ x. eqb x 0) c.args.lanes.now
    (none_any (λ x. eqb x 0) c.args.lanes.now (sym c.contains.ensures.value ∙ c.if-not-contains.true)))

pub returns : goal.returns
returns c =
    let ls = c.args.lanes.now in
    range_position (λ x. eqb x 0) ls 0 c.find.result
    (first_from_Range _ _ _ c.find.result (tested (λ x. eqb x 0) ls 0 true) (tested (λ x. eqb x 0) ls 0 false) c.find.ensures.ran
    (λ x q k h. search (rules, tests)) (λ x q k. (search rules, λ h. search (rules, tests))))
