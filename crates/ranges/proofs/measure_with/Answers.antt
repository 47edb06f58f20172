use Rattle.std.proofs.Common.{ℕ, List, ap, subst, ◌∙◌, take}
use Rattle.definitions.specs.Lists.{product_of}
use Rattle.definitions.specs.Ranges.{sizes, padded}
use Rattle.ranges.specs.Sets.{rank_in}
use Rattle.ranges.specs.Spans.{ProductIs}
use Rattle.ranges.specs.Table.{table_in}
use Rattle.ranges.proofs.TopLaws.{tops_positive, take_padded, ranks_are}
use Rattle.ranges.proofs.measure_with.Goals as goal

pub multiplied-requires : goal.multiplied-requires
multiplied-requires g c = tops_positive c.classes-joined.result c.args.table.shape.variables c.tops-tops.result c.tops-tops.ensures

pub returns : goal.returns
returns g c =
    let a = c.args.table in
    let joined = c.classes-joined in
    let ranks = ranks_are (table_in a.bytes.now a.shape.nodes) a.shape.variables joined.result joined.ensures.0 in
    let shown = c.tops-tops.ensures in
    record {
      tops_are = shown ∙ ap padded ranks;
      product_is =
          subst (λ (ts : List ℕ). ProductIs (product_of (sizes ts a.shape.truths)) c.multiplied.result)
          (ap (take a.shape.variables) shown ∙ take_padded (rank_in joined.result) a.shape.variables ∙ ranks)
          c.multiplied.ensures;
    }
