use Rattle.std.proofs.Common.{◌≤◌, length, sym, ap₂, ◌∙◌, arith}
use Rattle.definitions.specs.Problem.Node.{same}
use Rattle.definitions.specs.Problem.Check.{nodes_of}
use Rattle.problem.proofs.NodeLaws.{length_nodes_of}
use Rattle.problem.proofs.Scans.{same_fields, same_here, same_later}
use Rattle.problem.proofs.head.Problem.earliest.Goals as goal

pub loop-j-preserved : goal.loop-j-preserved
loop-j-preserved c =
    let t = nodes_of c.args.self.now in
    let within : c.args.k ≤ length t = omega (arith, length_nodes_of c.args.self.now, c.requires) in
    let apart = sym (ap₂ same c.node-node.ensures c.node.ensures) ∙ sym (same_fields c.node-node.result c.node.result) ∙ sym c.eq.ensures ∙ c.if-eq.false in
    sym (same_later t c.args.k within c.loop-j.j c.loop-j-test.true apart) ∙ c.loop-j.invariant

pub returns-then-eq : goal.returns-then-eq
returns-then-eq c =
    let t = nodes_of c.args.self.now in
    let within : c.args.k ≤ length t = omega (arith, length_nodes_of c.args.self.now, c.requires) in
    let alike = sym (ap₂ same c.node-node.ensures c.node.ensures) ∙ sym (same_fields c.node-node.result c.node.result) ∙ sym c.eq.ensures ∙ c.if-eq.true in
    sym (same_here t c.args.k within c.loop-j.j c.loop-j-test.true alike) ∙ c.loop-j.invariant
