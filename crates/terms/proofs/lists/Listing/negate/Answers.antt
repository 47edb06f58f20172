-- The negation waits, where there is room for it. Assumes nothing.
use Rattle.std.proofs.Common.{arith, ◌<◌}
use Rattle.terms.specs.Padded.{filled_more}
use Rattle.terms.proofs.RowLaws.{negation_waits}
use Rattle.terms.proofs.lists.Listing.negate.Goals as goal

pub returns-clause-lays : goal.returns-clause-lays
returns-clause-lays c =
    rw (← c.self.view_is) (negation_waits c.self.inside.first c.self.inside.pending (omega arith) c.if-self-eq0.false c.pair-negation.ensures)

pub invariant_of-self : goal.invariant_of-self
invariant_of-self c =
    let l = c.self.inside in
    let h = c.self.invariant in
    let room : l.waiting < 256 = omega (arith, h.1, c.if-self-eq256.false) in
    (h.0, omega (arith, room), h.2, filled_more 0 256 l.pending l.waiting c.pair-negation.result room h.3)
