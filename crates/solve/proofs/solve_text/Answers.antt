-- What is read is a problem of at most 2088 bytes, which the buffer has. Assumes nothing.
use Rattle.std.specs.Prelude.{Result, Ok}
use Rattle.std.proofs.Common.{◌≡◌, ℕ, ◌≤◌, List, length, sym, arith}
use Rattle.std.proofs.Math.Seq.{length-take-le}
use Rattle.definitions.specs.Operations.Promises.{ReadPromise}
use Rattle.definitions.specs.declared.Refusal.{Refusal}
use Rattle.theorems.proofs.Text.Refused.{problem_short}
use Rattle.theorems.proofs.Text.Top.{read_taken_means}
use Rattle.solve.proofs.solve_text.Goals as goal

-- a problem that is read lies within the buffer
within : (text before : List ℕ) (r : Result ℕ Refusal) (after : List ℕ) → ReadPromise text before r after → length after ≡ length before
    → (written : ℕ) → r ≡ Ok written → written ≤ length after
within text before r after p same written e =
    let taken = (read_taken_means text before r after p written).0.0 e in
    let fits = problem_short text _ taken.0 taken.1.0 in
    omega (arith, taken.1.1)

pub slice_bounds-problem-end : goal.slice_bounds-problem-end
slice_bounds-problem-end g c = within c.args.text.now _ c.read.result _ c.read.ensures c.read.auto.problem _ c.in-Ok.is

pub slice_bounds-answer-end : goal.slice_bounds-answer-end
slice_bounds-answer-end g c =
    sym (length-take-le _ _ (within c.args.text.now _ c.read.result _ c.read.ensures c.read.auto.problem _ c.in-Ok.is))
