-- The tops and the product of a table, against the definitions. Assumes nothing.
use Rattle.std.specs.Prelude.{◌≡◌, ℕ, ◌^◌, ◌≤◌, ◌<◌, List, Option, None, Some}
use Rattle.definitions.specs.Lists.{product_of}
use Rattle.definitions.specs.Ranges.{tops, sizes, padded}
use Rattle.ranges.specs.Table.{table_in}
use Rattle.ranges.specs.declared.Shape.{Shape}
use Rattle.ranges.specs.declared.Spans.{Spans}

-- a product is given where it is at most 10^18
abbrev pub ProductIs : ℕ → Option ℕ → Type 0
ProductIs n (Some p) = (p ≡ n) × (n ≤ 10 ^ 18)
ProductIs n None = 10 ^ 18 < n

pub record SpansAre (bytes : List ℕ) (s : Shape) (r : Spans) : Type 0 where
  pub tops_are : r.tops ≡ padded (tops (table_in bytes s.nodes) s.variables)
  pub product_is : ProductIs (product_of (sizes (tops (table_in bytes s.nodes) s.variables) s.truths)) r.product
