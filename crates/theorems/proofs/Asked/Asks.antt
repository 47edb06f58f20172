-- What is answered of a root, said of the problem that it asks (02, E2). Assumes nothing.
use mathlib.Core.Path.{◌≡◌, sym, ap₂, ◌∙◌}
use Prim.Native.Nat.{ℕ}
use mathlib.Core.List.{List, ◌∷◌}
use mathlib.Core.Option.{Option}
use Rattle.definitions.specs.Lists.{first_of}
use Rattle.definitions.specs.Problem.Check.{Refused}
use Rattle.definitions.specs.Problem.Asked.{asked, ask_conditions, ask_refusal, limit_conditions, limit_refusal, refusal_of}
use Rattle.definitions.specs.Operations.Answers.{Answer, unless, Counts, counts, check_answer}
use Rattle.theorems.specs.Asking.{Asks}
use Rattle.theorems.proofs.Laws.First.{first_append}

module _ {s : List ℕ} {root : ℕ} {a : List ℕ} (A : Asks s root a) where
  -- nothing but 9 and 10 is left of check's refusals
  pub asks_refusal : refusal_of s root ≡ limit_refusal a
  unfolding refusal_of ask_refusal limit_refusal
  asks_refusal =
      sym (first_append (ask_conditions s root) (limit_conditions (asked s root)))
      ∙ ap₂ {C = Option Refused} (λ (o : Option Refused) (b : List ℕ). first_of (o ∷ limit_conditions b)) A.names A.problem

  pub asks_check : check_answer s root ≡ unless (limit_refusal a) (counts a)
  unfolding check_answer
  asks_check = ap₂ {C = Answer Counts} (λ (o : Option Refused) (b : List ℕ). unless o (counts b)) asks_refusal A.problem
