-- Cells filled with one value, and the least value of a variable. Assumes nothing.
use Prim.Native.Nat.{ℕ, ◌≤◌}
use native.Mathlib.Omega.{arith}
use mathlib.Core.Bool.{Bool, true, false}
use lib.Dec.{ltb}
use Rattle.walk.specs.Cells.{least_of}

abbrev least_by : Bool → ℕ
least_by b = elim b as (λ _. ℕ) [ true ↦ 1 | false ↦ 0 ]

pub least_small : (N v : ℕ) → least_of N v ≤ 1
least_small N v = go (ltb v N)
  where
    go : (b : Bool) → least_by b ≤ 1
    go true = omega arith
    go false = omega arith
