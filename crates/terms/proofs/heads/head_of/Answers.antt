-- By Core's names, and then by the declared symbols. Assumes nothing.
use Rattle.terms.proofs.HeadedLaws.{heads_core, heads_known}
use Rattle.terms.proofs.heads.head_of.Goals as goal

pub returns-in-Some : goal.returns-in-Some
returns-in-Some c =
    let a = c.args in
    heads_core a.signature.text.now a.signature.shelf.now a.signature.declared a.name.now a.place a.sort _ _ c.in-Some.ensures c.core_head.ensures

pub returns-in-None : goal.returns-in-None
returns-in-None c =
    let a = c.args in
    heads_known a.signature.text.now a.signature.shelf.now a.signature.declared a.name.now a.place a.sort _ _ c.in-None.ensures c.find.ensures
    c.known_head.ensures
