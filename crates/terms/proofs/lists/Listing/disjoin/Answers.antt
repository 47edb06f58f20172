-- What waits is joined from the last one on. Assumes nothing.
use Rattle.std.proofs.Common.{◌≡◌, take, ap, ◌∙◌, arith}
use Rattle.terms.proofs.RowLaws.{disjoins_all, disjoins_one, none_left}
use Rattle.terms.proofs.lists.Listing.disjoin.Goals as goal

pub loop-negation-init : goal.loop-negation-init
loop-negation-init c =
    let row = c.self.inside in
    let all : c.into_iter-negation-iterator.result.iter.rest.now ≡ take row.waiting row.pending =
    ap (λ it. it.iter.rest.now) c.into_iter-negation-iterator.ensures.into_iter_gives ∙ ap (λ it. it.rest.now) c.rev-negation-items.ensures.source ∙ c.iter.ensures.rest in
    rw (← c.self.view_is) (λ r after. disjoins_all row.pending row.waiting row.last (omega arith) all)

pub loop-negation-preserved : goal.loop-negation-preserved
loop-negation-preserved c =
    λ r after rest. c.loop-negation.invariant r after (disjoins_one _ _ _ c.in-Some.ensures.steps c.pair-number.ensures rest)

pub returns : goal.returns
returns c = c.loop-negation.invariant _ _ (none_left _ _ c.in-None.ensures.steps.0)
