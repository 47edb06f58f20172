-- A witness written at a false place makes the original formula false, read back from its bytes and whatever stands after them
-- (01, demand 2). Assumes nothing.
use mathlib.Core.Path.{◌≡◌, sym, ap, ◌∙◌}
use Prim.Native.Nat.{ℕ, ◌≤◌}
use native.Mathlib.Omega.{arith}
use mathlib.Core.List.{List, ◌++◌}
use lib.ListN.{length}
use Rattle.definitions.specs.Problem.Check.{symbols_of, nodes_of}
use Rattle.definitions.specs.Logic.{Interpretation, truth_of, truth_at, holds}
use Rattle.definitions.specs.Elimination.{eliminated}
use Rattle.definitions.specs.Places.{assignment_at, values_at, true_at}
use Rattle.definitions.specs.Witness.{tables, tables_of, rows_at, witness_at}
use Rattle.theorems.proofs.Accepted.{Accepted}
use Rattle.theorems.proofs.Truth.{final, final_below, root_image}
use Rattle.theorems.proofs.Fits.{rows_few}
use Rattle.theorems.proofs.Witness.ReadBack.{witness_length, tables_back}
use Rattle.theorems.proofs.Witness.Tables.{tables_value}

module _ (s : List ℕ) (ok : Accepted s) (p : ℕ) where
  -- at most 206 bytes
  pub witness_short : length (witness_at s p) ≤ 206
  unfolding witness_at
  witness_short = let h = rows_few s ok p in omega (arith, witness_length (rows_at s p))

  -- the tables of the rows at a place give the formula its truth there
  tables_truth : holds (tables (rows_at s p)) s ≡ true_at s p
  unfolding holds rows_at true_at values_at eliminated
  tables_truth =
      ap truth_of (tables_value (assignment_at s p) (symbols_of s) (nodes_of s) ok.layout.nodes_right (final s ok) (final_below s ok))
      ∙ ap (λ (k : ℕ). truth_at (values_at s p) k) (sym (root_image s ok))

  pub witness_truth : (rest : List ℕ) → holds (tables_of (witness_at s p ++ rest)) s ≡ true_at s p
  unfolding witness_at
  witness_truth rest = ap (λ (I : Interpretation). holds I s) (tables_back (rows_at s p) rest) ∙ tables_truth
