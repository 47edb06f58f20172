-- At a larger budget every answer of decide but stopped is the same, with its buffers (01, 'Verdicts'). Assumes nothing.
use mathlib.Core.Path.{◌≡◌, refl, sym, ap, ◌∙◌}
use Prim.Native.Nat.{ℕ, ◌≤◌}
use mathlib.Core.List.{List}
use mathlib.Core.Option.{Option, none, some}
use lib.ListN.{length}
use Rattle.std.specs.Prelude.{Result}
use Rattle.definitions.specs.Problem.Check.{Refused}
use Rattle.definitions.specs.Problem.Asked.{asked}
use Rattle.definitions.specs.Ranges.{product}
use Rattle.definitions.specs.Verdict.{Outcome, valid, falsified, stopped, outcome_of}
use Rattle.definitions.specs.Operations.Answers.{decide_refusal, unless, decided, decide_answer}
use Rattle.definitions.specs.Operations.Buffers.{unless_refused, witness_written, witness_after}
use Rattle.definitions.specs.Operations.Promises.{DecidePromise}
use Rattle.definitions.specs.declared.Refusal.{Refusal}
use Rattle.definitions.specs.declared.Decision.{Decision}
use Rattle.theorems.specs.Searched.{stopped_answer}
use Rattle.theorems.proofs.Exactly.{valid_stays, falsified_stays}
use Rattle.theorems.proofs.Unique.{decision_apart}
use Rattle.theorems.proofs.Decided.{decision_of, decision_is}

-- an outcome that is not stopped is the same at a larger budget
outcome_stays : (s : List ℕ) (budget larger : ℕ) → budget ≤ larger → (o : Outcome) → outcome_of s budget ≡ o
    → ((t : ℕ) → o ≡ stopped t → ⊥) → outcome_of s larger ≡ o
outcome_stays s budget larger h (valid t) e n = valid_stays s budget larger t h e
outcome_stays s budget larger h (falsified t) e n = falsified_stays s budget larger t h e
outcome_stays s budget larger h (stopped t) e n = absurd (n t refl)

module _
    (budget larger root : ℕ)
    (more : budget ≤ larger)
    (s work witness : List ℕ)
    (r q : Result Decision Refusal)
    (work' witness' v v' : List ℕ)
    (promise : DecidePromise budget root s work witness r work' witness')
    (other : DecidePromise larger root s work witness q v v')
    (moved : (tried places : ℕ) → r ≡ stopped_answer tried places → ⊥) where
  abbrev a : List ℕ
  a = asked s root

  abbrev refused_by : Option Refused
  refused_by = decide_refusal s root (length work) (length witness)

  outcome_same : refused_by ≡ none → outcome_of a larger ≡ outcome_of a budget
  outcome_same e =
      outcome_stays a budget larger more (outcome_of a budget) refl
      (λ t o. moved t (product a) (decision_is budget root s work witness r work' witness' promise e ∙ ap (decision_of a) o))

  by_outcome : {A : Type 0} (f : Option Refused → Outcome → A) → ((x : Refused) (o o' : Outcome) → f (some x) o ≡ f (some x) o')
      → f refused_by (outcome_of a larger) ≡ f refused_by (outcome_of a budget)
  by_outcome {A} f h = go refused_by refl
    where
      go : (o : Option Refused) → refused_by ≡ o → f o (outcome_of a larger) ≡ f o (outcome_of a budget)
      go (some x) e = h x (outcome_of a larger) (outcome_of a budget)
      go none e = ap (f none) (outcome_same e)

  pub grown_decision : (q ≡ r) × (v ≡ work') × (v' ≡ witness')
  unfolding decide_answer witness_after
  grown_decision = (
    decision_apart q r
        (other.answers ∙ by_outcome (λ x o. unless x (decided a o)) (λ x o o'. refl) ∙ sym promise.answers),
    other.work_after_is ∙ sym promise.work_after_is,
    other.witness_after_is ∙ by_outcome (λ x o. unless_refused x witness (witness_written a o witness)) (λ x o o'. refl)
        ∙ sym promise.witness_after_is,
  )
