use Rattle.std.proofs.Common.{◌≡◌, ◌+◌, [], ◌∷◌, ◌++◌, length, sym, ◌∙◌, arith}
use Rattle.std.proofs.lemmas.List.{length-append}
use Rattle.elimination.proofs.Pairwise.{paired_next}
use Rattle.elimination.proofs.conditions.lay_condition.Goals as goal

pub loop-x-preserved : goal.loop-x-preserved
loop-x-preserved c =
    let l = c.loop-x in
    let more : length (l.yielded ++ (c.in-Some.x, c.in-Some.y) ∷ []) ≡ length l.yielded + 1 = length-append l.yielded _ in
    rw more (paired_next (length l.yielded + 1) c.in-Some.x.now c.in-Some.y.now _ _ c.requires.2 l.invariant.0 (omega arith)
    (sym l.invariant.1 ∙ c.in-Some.ensures.steps.0) (sym l.invariant.2 ∙ c.in-Some.ensures.steps.1) c.lay_further.auto.work c.lay_further.ensures)
