-- One node more is in use. Assumes nothing.
use Rattle.std.proofs.Common.{arith, subst, ◌<◌, ◌≤◌, ◌∙◌}
use Rattle.std.proofs.lemmas.List.{length-set}
use Rattle.terms.specs.Laying.{FewCounted}
use Rattle.terms.specs.Padded.{filled_more}
use Rattle.terms.specs.Tables.{nought, ZerosPast}
use Rattle.terms.proofs.nodes.Table.append.Goals as goal

pub invariant_of-self : goal.invariant_of-self
invariant_of-self c =
    let t = c.self.inside in
    let n = c.in-Some.count in
    let few : n ≤ 256 = subst FewCounted c.in-Some.is c.self.invariant.1 in
    let rest = subst (ZerosPast t.nodes) c.in-Some.is c.self.invariant.2 in
    let room : n < 256 = omega (arith, few, c.if-count-eq256.false) in
    (length-set t.nodes n c.args.node ∙ c.self.invariant.0, omega (arith, room), filled_more nought 256 t.nodes n c.args.node room rest)
