use Rattle.std.proofs.Common.{rules, tests, ℕ, Bool, true, false, ◌≡◌, take, arith}
use Rattle.std.proofs.lemmas.Iterator.{first_from_Range}
use Rattle.definitions.specs.Problem.Node.{node}
use Rattle.definitions.specs.Problem.Ops.{node_right}
use Rattle.definitions.specs.Problem.Check.{symbols_of, nodes_of}
use Rattle.theorems.proofs.Laws.Scans.{wrong_from, wrong_here, wrong_later, wrong_nowhere}
use Rattle.problem.proofs.NodeLaws.{inside_nodes}
use Rattle.problem.proofs.Scans.{scan_found}
use Rattle.problem.proofs.head.Problem.first_wrong.Goals as goal

pub returns : goal.returns
returns c =
    let symbols = symbols_of c.args.self.now in
    let t = nodes_of c.args.self.now in
    let right : ℕ → Bool = λ k. node_right symbols (take k t) (node t k) in
    let many = inside_nodes c.self.invariant c.self.view_is in
    scan_found c.self.inside.nodes (λ k. right k ≡ false) (λ k. right k ≡ true) (wrong_from symbols t)
    (λ k h e. wrong_here symbols t k (omega (arith, many, h)) e)
    (λ k h e. wrong_later symbols t k (omega (arith, many, h)) e)
    (wrong_nowhere symbols t c.self.inside.nodes (omega (arith, many)))
    c.find.result
    (first_from_Range _ _ _ c.find.result (λ x. right x ≡ false) (λ x. right x ≡ true) c.find.ensures.ran
    (λ x q k. search (rules, tests)) (λ x q k. search (rules, tests)))
