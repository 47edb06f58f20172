-- The shelf is searched first, and where it does not have them all, the text. Both find the symbol that the commands declare.
use Rattle.std.proofs.Common.{arith}
use Rattle.terms.proofs.SymbolLaws.{finds_in_text, finds_on_shelf, finds_nothing}
use Rattle.terms.proofs.declared.Signature.find.Goals as goal

pub returns-in-Some : goal.returns-in-Some
returns-in-Some c =
    let a = c.args in
    finds_on_shelf a.self.text.now a.self.shelf.now a.self.declared a.name.now c.min-held.result (omega arith) (omega arith) c.in-Some.number a.self.sound.sound
    c.in-Some.ensures

pub returns-in-None : goal.returns-in-None
returns-in-None c = let a = c.args in finds_in_text a.self.text.now a.self.shelf.now a.self.declared a.name.now c.find_in_text.result c.find_in_text.ensures

pub returns-in-None-2 : goal.returns-in-None-2
returns-in-None-2 c =
    let a = c.args in
    finds_nothing a.self.text.now a.self.shelf.now a.self.declared a.name.now c.min-held.result (omega arith) (omega arith) c.if-held-self.false c.in-None-2.ensures
