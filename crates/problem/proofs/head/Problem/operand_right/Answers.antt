use Rattle.std.proofs.Common.{arith, ◌≤◌, ◌<◌, length, sym, ◌∙◌}
use Rattle.definitions.specs.Problem.Check.{nodes_of}
use Rattle.problem.specs.Wanted.{sort_read}
use Rattle.problem.proofs.NodeLaws.{length_nodes_of, slot_earlier}
use Rattle.problem.proofs.head.Problem.operand_right.Goals as goal

pub returns-then-operand-k : goal.returns-then-operand-k
returns-then-operand-k c =
    let t = nodes_of c.args.self.now in
    let among : c.args.k ≤ length t = omega (arith, length_nodes_of c.args.self.now, c.requires) in
    let earlier : c.args.operand < c.args.k = omega (arith, c.from-operand.ensures, c.if-operand-k.true) in
    rw (c.in-Some.is) (c.has_sort.ensures ∙ rw c.from-operand.ensures (sym (slot_earlier t c.args.k c.args.operand (sort_read c.in-Some.sort) among earlier)))
