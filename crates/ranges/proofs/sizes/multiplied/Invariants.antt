use Rattle.definitions.specs.Lists.{product_of}
use Rattle.definitions.specs.Ranges.{sizes}
use Rattle.ranges.proofs.SizeLaws.{Multiplied}
use Rattle.ranges.proofs.sizes.multiplied.Given as goal

-- what is multiplied, times the factors that are left, is the whole product
abbrev pub invariant-loop-top : goal.invariant-loop-top
invariant-loop-top l = Multiplied (sizes l.tops l.truths) (product_of (sizes l.tops l.truths)) l.top-index l.all
