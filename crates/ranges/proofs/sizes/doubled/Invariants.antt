use Rattle.std.proofs.Common.{◌*◌}
use Rattle.definitions.specs.Lists.{product_of}
use Rattle.ranges.proofs.SizeLaws.{Multiplied, twos}
use Rattle.ranges.proofs.sizes.doubled.Given as goal

-- what is multiplied, times the factors that are left, is the whole product
abbrev pub invariant-loop : goal.invariant-loop
invariant-loop l = Multiplied (twos l.truths) (l.product * product_of (twos l.truths)) l.counter l.all
