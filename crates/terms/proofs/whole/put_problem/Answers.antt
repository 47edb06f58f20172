-- What stands before the nodes, and then the nodes. Assumes nothing.
use Rattle.std.proofs.Common.{◌+◌, [], ◌∷◌, ◌++◌, length, ap, ◌∙◌, length-append}
use Rattle.definitions.specs.Bytes.{EQP, two}
use Rattle.definitions.specs.Problem.Node.{table_bytes}
use Rattle.definitions.specs.Operations.Buffers.{over}
use Rattle.problem.proofs.Putting.{put_more}
use Rattle.terms.specs.Laying.{standing}
use Rattle.terms.proofs.NodeLaws.{standing_counted}
use Rattle.terms.proofs.whole.put_problem.Goals as goal

pub returns : goal.returns
returns c =
    let symbols = c.args.symbols.now in
    let head = EQP ++ two 1 ++ (length symbols ∷ []) ++ two c.unwrap_or-count.result in
    put_more _ (head ++ symbols) c.args.whole.now _ _ (8 + length symbols) (length-append head symbols) c.put_front.ensures c.put.ensures
    ∙ ap (λ n. over (EQP ++ two 1 ++ (length symbols ∷ []) ++ two n ++ symbols ++ table_bytes (standing c.args.table.now)) c.args.whole.now)
    (standing_counted c.args.table.now c.count.ensures.counts c.unwrap_or-count.ensures)
