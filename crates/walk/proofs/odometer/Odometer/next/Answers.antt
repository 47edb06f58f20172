-- A digit that is not at its top turns; where all are, all go back to 0.
use Rattle.std.proofs.Common.{refl}
use Rattle.walk.proofs.Carrying.{turned, wrapped}
use Rattle.walk.proofs.odometer.Odometer.next.Goals as goal

pub returns-then-digits-i : goal.returns-then-digits-i
returns-then-digits-i c =
    let v = c.loop-i.invariant in
    turned _ _ _ v.carrying _ c.loop-i-test.true c.if-digits-i.true refl refl refl

pub returns : goal.returns
returns c =
    let v = c.loop-i.invariant in
    wrapped _ _ _ v.carrying _ c.loop-i-test.false refl refl refl
