-- By how many arguments must come. Assumes nothing.
use Rattle.terms.proofs.WantedLaws.{ready_by}
use Rattle.terms.proofs.heads.ready.Goals as goal

pub returns : goal.returns
returns c = rw c.least.ensures (ready_by c.args.head c.args.seen)
