-- The problem of a text that is taken is true exactly when the asserts joined by "and" are not, so it is valid exactly when the script
-- is unsat, and falsifiable exactly when it is sat; and check takes it. Its last node is named (02, E1 and E2). Assumes nothing.
use mathlib.Core.Path.{◌≡◌, sym, ap, ◌∙◌}
use Prim.Native.Nat.{ℕ}
use mathlib.Core.Bool.{true, false, not}
use mathlib.Core.List.{List}
use mathlib.Core.Logic.{◌↔◌}
use mathlib.Core.Option.{none}
use borrow.Author.Tests.{not-true, not-false}
use Rattle.definitions.specs.Problem.Asked.{last_node, refusal_of}
use Rattle.definitions.specs.Logic.{Interpretation, holds, holds_at, ValidAt}
use Rattle.definitions.specs.Text.Grammar.{Script}
use Rattle.definitions.specs.Text.Meaning.{asserts_true, Unsat}
use Rattle.definitions.specs.Text.Nodes.{problem_of_script}
use Rattle.theorems.specs.Searched.{FalsifiableAt}
use Rattle.theorems.specs.Texts.{Sat}
use Rattle.theorems.specs.ReadConditions.{TakesText}
use Rattle.theorems.proofs.Text.Meant.Accepted.{problem_taken}
use Rattle.theorems.proofs.Text.Meant.Bytes.{problem_means}
use Rattle.theorems.proofs.Text.Refused.{takes_limits}

module _ (text : List ℕ) (room : ℕ) (s : Script) (takes : TakesText text room s) where
  -- "Prove that the problem is true exactly when that negation is, in every interpretation"
  pub text_means : (I : Interpretation) → holds_at I (problem_of_script s) (last_node (problem_of_script s)) ≡ not (asserts_true I s)
  unfolding holds holds_at
  text_means I = problem_means I s takes.reads.right (takes_limits text room s takes)

  pub text_taken : refusal_of (problem_of_script s) (last_node (problem_of_script s)) ≡ none
  text_taken = problem_taken s takes.reads.right (takes_limits text room s takes)

  -- "so valid means unsat"
  pub unsat_exactly : Unsat s ↔ ValidAt (problem_of_script s) (last_node (problem_of_script s))
  unfolding ValidAt Unsat
  unsat_exactly = (λ u I. text_means I ∙ ap not (u I), λ v I. not-true (asserts_true I s) (sym (text_means I) ∙ v I))

  -- an interpretation that makes the problem false makes every assert true
  pub asserts_true_lem : (I : Interpretation) → holds_at I (problem_of_script s) (last_node (problem_of_script s)) ≡ false → asserts_true I s ≡ true
  asserts_true_lem I e = not-false (asserts_true I s) (sym (text_means I) ∙ e)

  pub sat_exactly : Sat s ↔ FalsifiableAt (problem_of_script s) (last_node (problem_of_script s))
  sat_exactly = (λ m. (m.0, text_means m.0 ∙ ap not m.1), λ m. (m.0, asserts_true_lem m.0 m.1))
