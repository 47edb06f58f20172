-- Whatever lays the rest lays the whole. Assumes nothing.
use Rattle.std.proofs.Common.{ℕ, List, Option}
use Rattle.definitions.specs.Problem.Node.{Node}
use Rattle.definitions.specs.Text.Nodes.{laid}
use Rattle.terms.specs.Laying.{Performs}
use Rattle.terms.specs.Lists.{disjoined}
use Rattle.terms.proofs.RowLaws.{disjoining}
use Rattle.terms.proofs.lists.Listing.disjoin.Given as goal

abbrev pub invariant-loop-negation : goal.invariant-loop-negation
invariant-loop-negation l =
    (r : ℕ) (after : Option (List Node)) → Performs (disjoining l.negation-iterator.iter.rest.now l.number) l.table r after
    → Performs (λ t. disjoined l.self.pending (laid l.self.last t)) l.fn.table r after
