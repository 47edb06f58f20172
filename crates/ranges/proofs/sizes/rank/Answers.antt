use Rattle.std.proofs.Common.{arith}
use Rattle.theorems.proofs.Fits.{how_many_le}
use Rattle.ranges.specs.Sets.{in_set}
use Rattle.ranges.proofs.TopLaws.{how_many_counted}
use Rattle.ranges.proofs.sizes.rank.Goals as goal

pub overflow_cast-result : goal.overflow_cast-result
overflow_cast-result c =
    let f = in_set c.args.component in
    let v = c.args.v in
    omega (arith, c.count_below.ensures, how_many_counted f v, how_many_le f v)

pub overflow_add-result : goal.overflow_add-result
overflow_add-result c =
    let f = in_set c.args.component in
    let v = c.args.v in
    omega (arith, c.count_below.ensures, how_many_counted f v, how_many_le f v)

pub returns : goal.returns
returns c = omega (arith, c.count_below.ensures, how_many_counted (in_set c.args.component) c.args.v)
