-- A later argument makes an equation, which is joined. Assumes nothing.
use Rattle.terms.proofs.RowLaws.{equations_joined}
use Rattle.terms.proofs.lists.Listing.equate.Goals as goal

pub returns : goal.returns
returns c = rw (← c.self.view_is) (equations_joined _ _ c.if-self-eq0.false c.if-self-eq1.false c.pair-equation.ensures c.pair.ensures)
