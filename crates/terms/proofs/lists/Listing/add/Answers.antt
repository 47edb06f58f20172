-- The argument takes its place, where one is left. Assumes nothing.
use Rattle.terms.specs.Heads.{head_read}
use Rattle.terms.specs.Rowing.{waiting_in}
use Rattle.terms.proofs.AddLaws.{one_added}
use Rattle.terms.proofs.lists.Listing.add.Goals as goal

pub returns-then-self-lt3-clause-lays : goal.returns-then-self-lt3-clause-lays
returns-then-self-lt3-clause-lays c =
    let l = c.self.inside in
    one_added (head_read c.args.head) l.first (waiting_in l.pending l.waiting) c.self.view_is c.self.invariant.2 c.if-self-lt3.true c.join-self-inside.ensures
