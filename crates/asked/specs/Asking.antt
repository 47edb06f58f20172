-- What a root comes to, and what the problem asked is checked for (02, E2). Assumes nothing.
use Rattle.std.specs.Prelude.{◌≡◌, ℕ, List, Result, Ok, Err}
use Rattle.std.proofs.Math.Option.{some}
use Rattle.definitions.specs.Problem.Asked.{ask_refusal, limit_refusal}
use Rattle.definitions.specs.Operations.Answers.{unless, counts}
use Rattle.definitions.specs.Operations.Readings.{refusal_read, checked_read}
use Rattle.definitions.specs.declared.Counts.{Counts}
use Rattle.definitions.specs.declared.Refusal.{Refusal}
use Rattle.theorems.specs.Asking.{Asks}
use Rattle.theorems.proofs.Accepted.{Formed}
use Rattle.theorems.proofs.Asked.Formed.{Named}
use Rattle.problem.specs.declared.head.Problem.{Problem}
use Rattle.asked.specs.declared.Asked.{Asked}
use Rattle.asked.specs.declared.Asked.TheVariants.{Whole, Part}

-- the whole problem is asked; or a part of it; or the refusal
abbrev pub AskedRead : ℕ → List ℕ → Result Asked Refusal → Type 0
AskedRead root s (Ok (Whole a)) = (a ≡ s) × Asks s root a × Formed a
AskedRead root s (Ok (Part a)) = (a ≡ s) × Named s root
AskedRead root s (Err r) = ask_refusal s root ≡ some (refusal_read r)

-- the problem asked of a root; or the refusal
abbrev pub AskRead : ℕ → List ℕ → Result Problem Refusal → Type 0
AskRead root s (Ok a) = Asks s root a × Formed a
AskRead root s (Err r) = ask_refusal s root ≡ some (refusal_read r)

-- 9 and 10 on the problem asked, or its counts
pub record Counted (a : List ℕ) (r : Result Counts Refusal) : Type 0 where
  pub answers : checked_read r ≡ unless (limit_refusal a) (counts a)
