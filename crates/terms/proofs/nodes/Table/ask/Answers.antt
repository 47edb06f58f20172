-- By whether an equal node stands. Assumes nothing.
use Rattle.std.proofs.Common.{◌<◌, rules}
use Rattle.problem.specs.Nodes.{node_read}
use Rattle.terms.proofs.NodeLaws.{number_small, found_there, appended_there}
use Rattle.terms.proofs.nodes.Table.ask.Goals as goal

pub overflow_cast-result : goal.overflow_cast-result
overflow_cast-result c =
    let small : c.in-Some-find.number < 256 = number_small c.self.inside.nodes c.self.view_is c.in-Some.is (node_read c.args.node) c.in-Some-find.ensures c.self.invariant.1 in
    search rules

pub returns-in-Some-find : goal.returns-in-Some-find
returns-in-Some-find c = found_there c.self.inside.nodes c.self.view_is c.in-Some.is (node_read c.args.node) c.in-Some-find.ensures

pub returns-in-None : goal.returns-in-None
returns-in-None c = appended_there c.self.inside.nodes c.self.view_is c.in-Some.is (node_read c.args.node) c.in-None.ensures c.append.ensures
