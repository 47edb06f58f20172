-- Only a symbol names a head. Assumes nothing.
use Rattle.terms.proofs.OtherLexemes.{not_symbol}
use Rattle.terms.proofs.HeadAtLaws.{none_at, named_there}
use Rattle.terms.proofs.arguments.head_at.Goals as goal

pub returns-in_default : goal.returns-in_default
returns-in_default c =
    let a = c.args in none_at a.signature.text.now a.signature.shelf.now a.signature.declared a.sort a.lexeme (not_symbol a.lexeme c.in_default.not-Symbol)

pub returns : goal.returns
returns c =
    let a = c.args in named_there a.signature.text.now a.signature.shelf.now a.signature.declared a.sort a.lexeme c.in-Symbol.name c.in-Symbol.is _ c.head_of.ensures
