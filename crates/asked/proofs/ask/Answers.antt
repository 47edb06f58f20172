use Rattle.std.proofs.Common.{List, ℕ, ap, sym, ◌∙◌, subst, arith}
use Rattle.std.proofs.lemmas.Result.{err_from_is_err_and}
use Rattle.definitions.specs.Problem.Check.{node_count, nodes_of, is_term}
use Rattle.definitions.specs.Problem.Node.{node}
use Rattle.theorems.specs.Asking.{Asks}
use Rattle.theorems.proofs.Accepted.{Formed}
use Rattle.asked.specs.Reached.{Reaching}
use Rattle.theorems.proofs.Asked.Formed.{Named}
use Rattle.asked.proofs.Asking.{table_refused, no_node, no_formula, is_named, whole_asked}
use Rattle.asked.proofs.ask.Goals as goal
use Rattle.asked.proofs.ask.Goals.{then-problem-root-via-then-problem-root, then-problem-root-via-else-problem-root+then-is_term}

pub returns-in_err-problem : goal.returns-in_err-problem
returns-in_err-problem c =
    let p = err_from_is_err_and c.from_residual.result c.from_residual.ensures.1 in
    rw (p.1, p.2) (table_refused c.args.root c.args.bytes.now c.in_err-problem.field-0.0 c.in_err-problem.ensures)

pub returns-then-problem-root : goal.returns-then-problem-root
returns-then-problem-root c =
    let l = c.in_ok-problem.ensures in
    let are = l.0 in
    let many = c.problem.invariant.nodes_are ∙ ap node_count (c.problem.view_is ∙ are) in
    elim c.then-problem-root.branch [
      | then-problem-root-via-then-problem-root w ↦ no_node c.args.root l.1 (omega (arith, many, w.if-problem-root.true))
      | then-problem-root-via-else-problem-root+then-is_term w ↦
          no_formula c.args.root l.1 (omega (arith, many, w.if-problem-root.false))
          (ap (λ s. is_term (node (nodes_of s) c.args.root)) (sym are) ∙ sym w.is_term.ensures ∙ w.if-is_term.true)
    ]

pub returns-then-reach-problem : goal.returns-then-reach-problem
returns-then-reach-problem c =
    let s : List ℕ = c.args.bytes.now in
    let root : ℕ = c.args.root in
    let l = c.in_ok-problem.ensures in
    let are = l.0 in
    let many = c.problem.invariant.nodes_are ∙ ap node_count (c.problem.view_is ∙ are) in
    let ok : Named s root =
    is_named root l.1 (omega (arith, many, c.if-problem-root.false))
    (ap (λ s. is_term (node (nodes_of s) root)) (sym are) ∙ sym c.is_term.ensures ∙ c.if-is_term.false) in
    let whole = whole_asked ok (λ i. omega (arith, c.type_inv.bytes i)) (subst (λ a. Reaching a root c.reach.new.marks c.reach.result) are c.reach.ensures) (omega (arith, c.if-reach-problem.true, many)) in
    (are, subst (λ a. Asks s root a) (sym are) whole.0, subst Formed (sym are) whole.1)
