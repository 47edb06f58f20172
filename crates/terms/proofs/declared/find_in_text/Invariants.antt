-- The tokens passed declare the symbols counted, and none of those has the name.
use Rattle.terms.proofs.SymbolLaws.{Scanning}
use Rattle.terms.proofs.declared.find_in_text.Given as goal

abbrev pub invariant-loop-number : goal.invariant-loop-number
invariant-loop-number l = Scanning l.text l.declared.sort.now l.declared.count l.name l.at l.number
