-- By what joins the asserts, and by the negation behind it. Assumes nothing.
use Rattle.text.proofs.EndLaws.{out_promised}
use Rattle.text.proofs.ending.end.Goals as goal

pub returns : goal.returns
returns c =
    let negated = rw (c.plain-negation.ensures, c.from.ensures) at c.append.ensures in
    let one = rw c.as_slice.ensures.all at c.join-joined.ensures in
    let d = rw c.as_slice-2.ensures.all at c.deliver.ensures in
    λ text shelf out. out_promised text c.args.problem.now shelf c.args.script.now one negated c.requires out d
