use Rattle.std.proofs.Common.{ℕ, ap, ◌∙◌, subst, arith}
use Rattle.std.proofs.lemmas.List.{length-replicate}
use Rattle.definitions.specs.Problem.Check.{node_count}
use Rattle.walk.specs.Walked.{Ends}
use Rattle.decision.proofs.SearchLaws.{tops_long, few_variables, few_truths, tops_low, root_is, root_in, values_left, answers_falsified, answers_valid, answers_stopped}
use Rattle.decision.proofs.search_with.Goals as goal

pub odometer-start-requires : goal.odometer-start-requires
odometer-start-requires g c =
    let l = c.requires.laying in
    (tops_long l, few_variables l, few_truths l, tops_low l)

pub walk-walked-requires : goal.walk-walked-requires
walk-walked-requires g c =
    let l = c.requires.laying in
    let nodes = c.problem.invariant.nodes_are ∙ ap node_count c.problem.view_is in
    (root_in l (root_is l nodes c.from-root.ensures), c.odometer-start.ensures.0, omega (arith, length-replicate {A = ℕ} g.row.N 0, c.requires.nodes.0))

pub returns-then-walked : goal.returns-then-walked
returns-then-walked g c =
    let l = c.requires.laying in
    let nodes = c.problem.invariant.nodes_are ∙ ap node_count c.problem.view_is in
    let root = root_is l nodes c.from-root.ensures in
    let tried = c.walk-walked.result.tried in
    let vals = values_left l c.odometer-start.result c.odometer-start.ensures.1 _ root tried _ (c.walk-walked.ensures.values_are c.if-walked.true) in
    let written = c.write_witness-written.ensures tried vals in
    answers_falsified l c.odometer-start.result c.odometer-start.ensures.1 _ root _ _ _ (subst (Ends _ _ _) c.if-walked.true c.walk-walked.ensures.ends) written.1 written.0

pub returns-then-product-budget : goal.returns-then-product-budget
returns-then-product-budget g c =
    let l = c.requires.laying in
    let nodes = c.problem.invariant.nodes_are ∙ ap node_count c.problem.view_is in
    answers_valid l c.odometer-start.result c.odometer-start.ensures.1 _ (root_is l nodes c.from-root.ensures) _ _ _
    (subst (Ends _ _ _) c.if-walked.false c.walk-walked.ensures.ends) (omega arith)

pub returns-else-product-budget : goal.returns-else-product-budget
returns-else-product-budget g c =
    let l = c.requires.laying in
    let nodes = c.problem.invariant.nodes_are ∙ ap node_count c.problem.view_is in
    answers_stopped l c.odometer-start.result c.odometer-start.ensures.1 _ (root_is l nodes c.from-root.ensures) _ _ _
    (subst (Ends _ _ _) c.if-walked.false c.walk-walked.ensures.ends) (omega arith)
