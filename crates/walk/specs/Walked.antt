-- What the walk promises: every place up to the count was looked at, all before the last are true, and the last is false exactly
-- where it says so. Assumes nothing.
use Rattle.std.specs.Prelude.{◌≡◌, ℕ, ◌+◌, ◌≤◌, ◌<◌, List, [], Bool, true, false, get_or}
use Rattle.definitions.specs.Problem.Ops.{formula}
use Rattle.definitions.specs.Logic.{truth_at, values}
use Rattle.definitions.specs.Places.{first, digits_at, assignment}
use Rattle.theorems.proofs.Laws.Ops.{sort_at}
use Rattle.theorems.specs.Searched.{AllTrue, FirstFalse}
use Rattle.ranges.specs.Table.{table_in}
use Rattle.ranges.specs.declared.Shape.{Shape}
use Rattle.walk.specs.Digits.{ValuesAre, digits_of, sizes_in}
use Rattle.walk.specs.declared.odometer.Odometer.{Odometer}
use Rattle.walk.specs.declared.Walked.{Walked}

-- the root is true at a place of the table
abbrev pub root_true : List ℕ → Shape → ℕ → List ℕ → ℕ → Bool
root_true table s root sizes p =
    truth_at (values (assignment s.variables (digits_at sizes p)) [] (table_in table s.nodes)) root

-- the root is a formula of the table
pub record RootIn (table : List ℕ) (s : Shape) (root : ℕ) : Type 0 where
  pub below : root < s.nodes
  pub is_formula : sort_at (table_in table s.nodes) root ≡ formula

-- the odometer stands at place 1, with a digit for each variable and truth variable
pub record Starts (s : Shape) (o : Odometer) : Type 0 where
  pub count_is : o.count ≡ s.variables + s.truths
  pub at_first : digits_of o ≡ first (sizes_in o)
  pub small : (v : ℕ) → v < s.variables → get_or o.sizes v 0 ≤ 24
  pub bits : (v : ℕ) → v < s.truths → get_or o.sizes (s.variables + v) 0 ≡ 2

-- the outcome of the walk, by whether it ended at a false place
abbrev pub Ends : (ℕ → Bool) → ℕ → ℕ → Bool → Type 0
Ends good limit tried true = FirstFalse good limit tried
Ends good limit tried false = (tried ≡ limit) × AllTrue good limit

pub record WalkIs (table : List ℕ) (s : Shape) (root : ℕ) (o : Odometer) (limit : ℕ) (vals : List ℕ) (r : Walked) : Type 0 where
  pub ends : Ends (root_true table s root (sizes_in o)) limit r.tried r.falsified
  -- where it is false, the values of that place are at hand
  pub values_are : r.falsified ≡ true
      → ValuesAre table s (digits_at (sizes_in o) r.tried) vals
