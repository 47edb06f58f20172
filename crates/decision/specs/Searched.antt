-- What is at hand when the places are searched, and what the search answers. Assumes nothing.
use Rattle.std.specs.Prelude.{◌≡◌, ℕ, List, Ok}
use Rattle.definitions.specs.Ranges.{tops_of, product, padded}
use Rattle.definitions.specs.Verdict.{outcome_of}
use Rattle.definitions.specs.Operations.Answers.{given, decided}
use Rattle.definitions.specs.Operations.Buffers.{witness_written}
use Rattle.definitions.specs.Operations.Readings.{decision_read}
use Rattle.definitions.specs.declared.Decision.{Decision}
use Rattle.theorems.proofs.Accepted.{Accepted}
use Rattle.elimination.specs.State.{AllLaid}
use Rattle.ranges.specs.Table.{shape_of}
use Rattle.decision.specs.declared.Scope.{Scope}

-- an accepted problem whose table is laid and measured
pub record Laying (x : Scope) : Type 0 where
  pub accepted : Accepted x.problem.now
  pub work : List ℕ
  pub laid : AllLaid x.problem.now work x.laid.now x.table.bytes.now
  pub shape_is : x.table.shape ≡ shape_of x.laid.now
  pub tops_are : x.tops ≡ padded (tops_of x.problem.now)
  pub places_are : x.product ≡ product x.problem.now

-- the search answers the outcome, and writes the witness where it is falsified
pub record SearchIs (budget : ℕ) (s witness : List ℕ) (r : Decision) (witness' : List ℕ) : Type 0 where
  pub answers : decision_read (Ok r) ≡ given (decided s (outcome_of s budget))
  pub witness_after_is : witness' ≡ witness_written s (outcome_of s budget) witness
