-- What a walk is planned from. Assumes nothing.
use Rattle.std.specs.Prelude.{ℕ, List}
use Rattle.ranges.specs.declared.Shape.{Shape}
use Rattle.walk.specs.Digits.{PartsAre}
use Rattle.walk.specs.Walked.{RootIn, Starts}
use Rattle.walk.specs.declared.odometer.Odometer.{Odometer}
use Rattle.walk.specs.declared.split.Parts.{Parts}

-- a table, its root, and an odometer at place 1 whose digits are split
pub record Planned (table : List ℕ) (s : Shape) (root : ℕ) (start : Odometer) (parts : Parts) : Type 0 where
  pub root_in : RootIn table s root
  pub begins : Starts s start
  pub parts_are : PartsAre start s.nodes parts
