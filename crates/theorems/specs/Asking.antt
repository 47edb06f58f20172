-- The problem asked of a root that nothing among 1 to 7 and 16 refuses (02, E2). Assumes nothing.
use Rattle.std.specs.Prelude.{◌≡◌, ℕ, List}
use Rattle.std.proofs.Math.Option.{none}
use Rattle.definitions.specs.Problem.Asked.{asked, ask_refusal}

-- a is the problem that this root of s asks
pub record Asks (s : List ℕ) (root : ℕ) (a : List ℕ) : Type 0 where
  pub names : ask_refusal s root ≡ none
  pub problem : asked s root ≡ a
