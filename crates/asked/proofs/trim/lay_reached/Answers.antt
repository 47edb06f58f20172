use Rattle.std.proofs.Common.{ℕ, List, sym, subst, ◌+◌, ◌≤◌, arith, slice_set}
use Rattle.std.proofs.lemmas.List.{length-replicate}
use Rattle.theorems.proofs.Asked.Marks.{mark}
use Rattle.problem.proofs.NodeLaws.{length_nodes_of}
use Rattle.asked.specs.Reached.{reached_of}
use Rattle.asked.proofs.Renumbering.{Laying, marked_true, marked_false, laying_begins, laying_marked, laying_passed, laying_ends}
use Rattle.asked.proofs.trim.lay_reached.Goals as goal
use Rattle.asked.proofs.trim.lay_reached.Goals.{then-mark-eq1, else-mark-eq1}

pub loop-k-init : goal.loop-k-init
loop-k-init c = (
  laying_begins c.requires.0 _ _ (length-replicate {A = ℕ} 256 0),
  omega (arith, length_nodes_of c.args.problem.now, c.requires.0.is_node, c.requires.0.table.few_nodes),
)

pub overflow_add-k-end : goal.overflow_add-k-end
overflow_add-k-end c = omega (arith, length_nodes_of c.args.problem.now, c.requires.0.is_node, c.requires.0.table.few_nodes)

pub lay_renumbered-requires : goal.lay_renumbered-requires
lay_renumbered-requires c =
    let v = c.loop-k.invariant.0 in
    let few = v.few in
    let b = c.loop-k.invariant.1 in (
      c.requires.0.table,
      omega (arith, length_nodes_of c.args.problem.now, c.requires.0.is_node),
      omega (arith, v.kept, c.requires.2),
      omega arith,
    )

pub loop-k-preserved : goal.loop-k-preserved
loop-k-preserved c =
    let l = c.loop-k in
    let s : List ℕ = c.args.problem.now in
    let root : ℕ = c.args.root in
    let b = l.invariant.1 in
    let h : l.k ≤ root = omega arith in
    let is = c.requires.1 l.k (omega arith) in
    let Next : List ℕ → ℕ → Type 0 = λ nodes count. Laying s root c.args.nodes.now nodes (slice_set l.numbers l.k l.count) count (l.k + 1) in (
      elim c.if-mark-eq1.branch [
        | then-mark-eq1 w ↦ subst (λ nodes. Next nodes c.if-mark-eq1.count) (sym w.nodes-is)
            (subst (λ n. Next w.lay_renumbered.new.nodes n) (sym w.count-is)
            (laying_marked c.requires.0 l.invariant.0 h _ (marked_true (mark (reached_of s root) l.k) _ is w.if-mark-eq1.true) w.lay_renumbered.ensures w.lay_renumbered.auto.nodes))
        | else-mark-eq1 w ↦ subst (λ nodes. Next nodes c.if-mark-eq1.count) (sym w.nodes-is)
            (subst (λ n. Next l.nodes n) (sym w.count-is)
            (laying_passed c.requires.0 l.invariant.0 h (marked_false (mark (reached_of s root) l.k) _ is w.if-mark-eq1.false)))
      ],
      l.invariant.1,
    )

pub returns : goal.returns
returns c = laying_ends c.requires.0 c.loop-k.invariant.0 (omega arith)
