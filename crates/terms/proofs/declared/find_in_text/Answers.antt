-- By the next declaration.
use Rattle.std.proofs.Common.{sym, subst, take}
use Rattle.terms.specs.Declarations.{declared_in, plain_at}
use Rattle.terms.specs.Symbols.{KnownIn}
use Rattle.terms.proofs.SymbolLaws.{scan_ends, scan_finds, scan_later}
use Rattle.terms.proofs.declared.find_in_text.Goals as goal

pub returns-in_err-at : goal.returns-in_err-at
returns-in_err-at c =
    subst (KnownIn (take c.args.declared.count (declared_in c.args.declared.sort.now (plain_at c.args.text.now 0))) c.args.name.now)
    (sym c.from_residual.ensures) (scan_ends _ _ _ _ _ _ c.loop-number.invariant (c.in_err-at.ensures _))

pub returns-then-declares : goal.returns-then-declares
returns-then-declares c =
    scan_finds _ _ _ _ _ _ c.loop-number.invariant c.in_ok-at.at c.in_ok-at.ensures c.loop-number-test.true c.if-declares.ensures _ c.byte_at.ensures

pub loop-number-preserved : goal.loop-number-preserved
loop-number-preserved c = scan_later _ _ _ _ _ _ c.loop-number.invariant c.in_ok-at.at c.in_ok-at.ensures c.loop-number-test.true c.if-declares.ensures
