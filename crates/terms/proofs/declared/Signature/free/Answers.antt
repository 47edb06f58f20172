-- By the three searches.
use Rattle.std.proofs.Common.{ap, ◌∙◌, not}
use Rattle.definitions.specs.Text.Grammar.{symbols_in}
use Rattle.terms.proofs.SymbolLaws.{declared_taken, untaken}
use Rattle.terms.proofs.declared.Signature.free.Goals as goal

pub returns-then-is_some-2 : goal.returns-then-is_some-2
returns-then-is_some-2 c =
    λ sn cs symbols.
    declared_taken (symbols_in cs) c.args.name.now c.core.result c.core.ensures c.if-is_some.ensures c.find.result
    (c.find.ensures.known sn cs symbols) c.if-is_some-2.ensures

pub returns : goal.returns
returns c =
    λ sn cs symbols.
    ap not c.solvers_own.ensures
    ∙ untaken (symbols_in cs) c.args.name.now c.core.result c.core.ensures c.if-is_some.ensures c.find.result
    (c.find.ensures.known sn cs symbols) c.if-is_some-2.ensures
