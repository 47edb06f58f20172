-- One byte more is in use. Assumes nothing.
use Rattle.std.proofs.Common.{arith, ◌<◌}
use Rattle.terms.specs.Padded.{filled_more}
use Rattle.text.proofs.bytes.Bytes.push.Goals as goal

pub invariant_of-self : goal.invariant_of-self
invariant_of-self g c =
    let b = c.self.inside in
    let room : b.count < g.row.N = omega (arith, c.self.invariant.0, c.if-self.false) in
    (omega (arith, room), filled_more 0 g.row.N b.bytes b.count c.args.byte room c.self.invariant.1)
