-- Digits, their successor, and the values at an assignment, as the code has them. Assumes nothing.
use Rattle.std.specs.Prelude.{◌≡◌, ℕ, ◌+◌, ◌*◌, ◌-◌, ◌≤◌, ◌<◌, List, [], map, Option, MatchOption, get_or, take, drop}
use Rattle.definitions.specs.Logic.{value_at, values}
use Rattle.definitions.specs.Lists.{product_of}
use Rattle.definitions.specs.Places.{next, first, assignment}
use Rattle.definitions.specs.Witness.{byte_of}
use Rattle.ranges.specs.Table.{table_in}
use Rattle.ranges.specs.declared.Shape.{Shape}
use Rattle.blocks.specs.Moves.{turning as moved}
use Rattle.walk.specs.declared.odometer.Odometer.{Odometer}
use Rattle.walk.specs.declared.split.Parts.{Parts}

-- the digits of the truth variables are 0 or 1
pub record Digits (s : Shape) (ds : List ℕ) : Type 0 where
  pub bits : (v : ℕ) → v < s.truths → get_or ds (s.variables + v) 0 < 2

-- the value of node k at an assignment, as a byte
abbrev pub value_in : List ℕ → Shape → List ℕ → ℕ → ℕ
value_in table s ds k = byte_of (value_at (values (assignment s.variables ds) [] (table_in table s.nodes)) k)

-- the values of the nodes are those of the definition, as bytes
abbrev pub ValuesAre : List ℕ → Shape → List ℕ → List ℕ → Type 0
ValuesAre table s ds vals =
    take s.nodes vals ≡ map byte_of (take s.nodes (values (assignment s.variables ds) [] (table_in table s.nodes)))

-- the digits in use, and their sizes
abbrev pub digits_of : Odometer → List ℕ
digits_of o = take o.count o.digits

abbrev pub sizes_in : Odometer → List ℕ
sizes_in o = take o.count o.sizes

-- the sizes of the fast digits, and of the slow ones
abbrev pub fast_of : Odometer → Parts → List ℕ
fast_of o p = take p.fast (sizes_in o)

abbrev pub slow_of : Odometer → Parts → List ℕ
slow_of o p = drop p.fast (sizes_in o)

-- the successor: the same sizes, the next digits, and which one turned, or none where it comes to its end
pub record NextIs (o next' : Odometer) (turned : Option ℕ) : Type 0 where
  pub same_sizes : next'.sizes ≡ o.sizes
  pub same_count : next'.count ≡ o.count
  pub digits_next : digits_of next' ≡ next (sizes_in o) (digits_of o)
  pub turned_is : MatchOption turned (moved (sizes_in o) (digits_of o) ≡ o.count) (λ i. (i ≡ moved (sizes_in o) (digits_of o)) × (i < o.count))

-- the odometer of the digits after the first F, at its first place
pub record SlowIs (o : Odometer) (F : ℕ) (r : Odometer) : Type 0 where
  pub count_is : r.count ≡ o.count - F
  pub sizes_are : sizes_in r ≡ drop F (sizes_in o)
  pub at_first : digits_of r ≡ first (sizes_in r)

-- the digits in two parts, with a lane for each assignment of the first; a cell has whole chunks of sixteen lanes
pub record Parted (o : Odometer) (p : Parts) : Type 0 where
  pub fast_few : p.fast ≤ o.count
  pub lanes_are : p.lanes ≡ product_of (fast_of o p)
  pub lanes_some : 1 ≤ p.lanes
  pub lanes_fit : p.lanes ≤ 16 * p.chunks
  pub chunks_few : p.chunks ≤ 8

-- and all cells have room in 57,344 bytes
pub record PartsAre (o : Odometer) (nodes : ℕ) (p : Parts) : Type 0 where
  pub parted : Parted o p
  pub room : p.chunks * (42 + nodes) ≤ 3584
