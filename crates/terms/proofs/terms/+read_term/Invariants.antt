-- The levels left fall at each call; some of the arguments are read and laid. Assumes nothing.
use Rattle.terms.specs.Terms.{ArgumentsSo, left_from}
use Rattle.terms.proofs.terms.+read_term.Given as goal

abbrev pub decreases-read_term : goal.decreases-read_term
decreases-read_term l = l.levels

abbrev pub invariant-loop-wanted : goal.invariant-loop-wanted
invariant-loop-wanted l =
    ArgumentsSo l.signature.text.now l.signature.shelf.now l.signature.declared l.fn.token l.fn.sort l.levels l.head l.fn.table l.table l.listing l.following

abbrev pub decreases-loop-wanted : goal.decreases-loop-wanted
decreases-loop-wanted l = left_from l.text l.following
