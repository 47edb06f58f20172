-- The token that is due is the first one.
use Rattle.std.proofs.Common.{refl, sym}
use Rattle.terms.proofs.LexemeLaws.{token_is}
use Rattle.terms.proofs.exact.exact.Goals as goal

pub returns-then-is_due : goal.returns-then-is_due
returns-then-is_due c =
    ((c.next-token.result, c.next-token.ensures, token_is _ _ (sym c.if-is_due.ensures), refl), c.next-token.ensures.inside)
