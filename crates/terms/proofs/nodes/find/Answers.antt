-- The place found is the position of an equal node. Assumes nothing.
use Rattle.std.proofs.Common.{rules, tests, true, false}
use Rattle.std.proofs.lemmas.Iterator.{first_from_Range}
use Rattle.problem.specs.declared.put.Node.{Node}
use Rattle.problem.specs.Nodes.{node_read}
use Rattle.problem.proofs.Finding.{tested, range_position}
use Rattle.terms.proofs.NodeLaws.{equals, place_found}
use Rattle.terms.proofs.nodes.find.Goals as goal

-- what an index outside the nodes reads
abbrev nought : Node
nought = record { op = 0; symbol = 0; a = 0; b = 0; c = 0 }

pub returns : goal.returns
returns c =
    let ns = c.args.nodes.now in
    let like = equals (node_read c.args.node) in
    place_found (node_read c.args.node) ns
    (range_position like ns nought c.find.result
    (first_from_Range _ _ _ c.find.result (tested like ns nought true) (tested like ns nought false) c.find.ensures.ran
    (λ x q k h. search (rules, tests)) (λ x q k. (search rules, λ h. search (rules, tests)))))
