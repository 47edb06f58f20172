use Rattle.std.proofs.Common.{◌<◌, ◌≤◌, length, sym, ap, ◌∙◌, arith}
use Rattle.definitions.specs.Problem.Check.{nodes_of}
use Rattle.problem.specs.Ops.{byte_of}
use Rattle.problem.proofs.NodeLaws.{inside_nodes}
use Rattle.problem.proofs.Scans.{none_found, some_found, distinct_other, distinct_first, distinct_repeat, distinct_end}
use Rattle.problem.proofs.head.Problem.distinct.Goals as goal
use Rattle.problem.proofs.head.Problem.distinct.Goals.{
  then-node-byte+then-is_none,
  else-node-byte,
  else-node-byte-via-then-node-byte+else-is_none,
  else-node-byte-via-else-node-byte,
}

pub loop-k-preserved : goal.loop-k-preserved
loop-k-preserved c =
    let t = nodes_of c.args.self.now in
    let here : c.loop-k.k < length t = omega (arith, inside_nodes c.self.invariant c.self.view_is, c.loop-k-test.true) in
    let op-is = ap (λ n. n.op) c.node.ensures in
    elim c.if-node-byte.branch [
      | then-node-byte+then-is_none w ↦
          let op-is' = sym op-is ∙ w.if-node-byte.true ∙ c.byte.ensures in
          let first = sym w.earliest.ensures ∙ none_found w.earliest.result w.is_none.ensures w.if-is_none.true in
          (omega (arith, c.loop-k.invariant.0, distinct_first (byte_of c.args.op) t c.loop-k.k here op-is' first, w.count-is), omega (arith, c.loop-k.invariant.1, w.count-is))
      | else-node-byte w ↦
          elim w.else-node-byte.branch [
            | else-node-byte-via-then-node-byte+else-is_none w' ↦
                let (j, found) = some_found w'.earliest.result w'.is_none.ensures w'.if-is_none.false in
                (omega (arith, c.loop-k.invariant.0, distinct_repeat (byte_of c.args.op) t c.loop-k.k here j (sym w'.earliest.ensures ∙ found), w.count-is), omega (arith, c.loop-k.invariant.1, w.count-is))
            | else-node-byte-via-else-node-byte w' ↦
                (omega (arith, c.loop-k.invariant.0, distinct_other (byte_of c.args.op) t c.loop-k.k here (λ e. w'.if-node-byte.false (op-is ∙ e ∙ sym c.byte.ensures)), w.count-is), omega (arith, c.loop-k.invariant.1, w.count-is))
          ]
    ]

pub returns : goal.returns
returns c =
    let t = nodes_of c.args.self.now in
    let past : length t ≤ c.loop-k.k = omega (arith, inside_nodes c.self.invariant c.self.view_is, c.loop-k-test.false) in
    omega (arith, c.loop-k.invariant.0, distinct_end (byte_of c.args.op) t c.loop-k.k past)
