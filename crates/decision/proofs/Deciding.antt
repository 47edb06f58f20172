-- What decide answers and leaves, by the first refusal or by the search. Assumes nothing.
use mathlib.Core.Path.{◌≡◌, sym, ap, ap₂, ◌∙◌}
use Prim.Native.Nat.{ℕ, ◌^◌, ◌≤◌, ◌<◌}
use mathlib.Core.Bool.{Bool}
use mathlib.Core.List.{List, [], ◌∷◌}
use mathlib.Core.Option.{Option, none, some}
use lib.ListN.{length}
use borrow.Author.Tests.{lt-ltb, le-ltb}
use Rattle.std.specs.Prelude.{Ok, Err}
use Rattle.definitions.specs.Lists.{first_of}
use Rattle.definitions.specs.Problem.Node.{table_bytes}
use Rattle.definitions.specs.Problem.Check.{Refused, refuse, refuse_if}
use Rattle.definitions.specs.Problem.Asked.{asked}
use Rattle.definitions.specs.Elimination.{table_of}
use Rattle.definitions.specs.Ranges.{product}
use Rattle.definitions.specs.Verdict.{outcome_of}
use Rattle.definitions.specs.Operations.Answers.{Answer, refused, big_product, unless, Decided, decided, eliminate_refusal, buffers_refusal, decide_refusal, decide_answer}
use Rattle.definitions.specs.Operations.Buffers.{over, unless_refused, work_after_decide, witness_written, witness_after}
use Rattle.definitions.specs.Operations.Readings.{refusal_read}
use Rattle.definitions.specs.Operations.Promises.{DecidePromise}
use Rattle.definitions.specs.declared.Refusal.{Refusal}
use Rattle.definitions.specs.declared.Decision.{Decision}
use Rattle.theorems.specs.Asking.{Asks}
use Rattle.decision.specs.Searched.{SearchIs}

-- all refusals but 13
module _ (s : List ℕ) (root work room : ℕ) where
  pub refused_early : (r : Refused) → eliminate_refusal s root work ≡ some r → buffers_refusal s root work room ≡ some r
  unfolding buffers_refusal
  refused_early r e = rw e

  pub refused_witness : eliminate_refusal s root work ≡ none → room < 206 → buffers_refusal s root work room ≡ some (refuse 12 0)
  unfolding buffers_refusal
  refused_witness e h = rw (e, lt-ltb room 206 h)

  pub buffers_taken : eliminate_refusal s root work ≡ none → 206 ≤ room → buffers_refusal s root work room ≡ none
  unfolding buffers_refusal
  buffers_taken e h = rw (e, le-ltb room 206 h)

-- one of them: nothing is written
module _ (budget : ℕ) (s : List ℕ) (root : ℕ) (work witness : List ℕ) where
  module _ (r : Refused) (e : buffers_refusal s root (length work) (length witness) ≡ some r) where
    early_answered : refused r ≡ decide_answer s root budget (length work) (length witness)
    unfolding decide_answer decide_refusal
    early_answered = rw e

    early_work : work ≡ work_after_decide s root work (length witness)
    unfolding work_after_decide
    early_work = rw e

    early_witness : witness ≡ witness_after s root budget (length work) witness
    unfolding witness_after decide_refusal
    early_witness = rw e

  pub decide_refused : (r : Refusal) → buffers_refusal s root (length work) (length witness) ≡ some (refusal_read r)
      → DecidePromise budget root s work witness (Err r) work witness
  decide_refused r e =
      record {
        answers = early_answered (refusal_read r) e;
        work_after_is = early_work (refusal_read r) e;
        witness_after_is = early_witness (refusal_read r) e;
      }

-- none of them: the table of the problem asked is laid, and 13 is left
module _
    (budget : ℕ) {s : List ℕ} {root : ℕ} {a : List ℕ} (A : Asks s root a) (work witness : List ℕ)
    (e : buffers_refusal s root (length work) (length witness) ≡ none)
    {work' : List ℕ} (w : work' ≡ over (table_bytes (table_of a)) work) where
  abbrev big : Option Refused
  big = big_product a

  last_refusal : decide_refusal s root (length work) (length witness) ≡ first_of (big ∷ [])
  unfolding decide_refusal
  last_refusal = ap₂ {C = Option Refused} (λ (o : Option Refused) (b : List ℕ). first_of (o ∷ big_product b ∷ [])) e A.problem

  answer_by : (o : Option Refused) → first_of (big ∷ []) ≡ o
      → decide_answer s root budget (length work) (length witness) ≡ unless o (decided a (outcome_of a budget))
  unfolding decide_answer
  answer_by o q =
      ap₂ {C = Answer Decided} (λ (o : Option Refused) (b : List ℕ). unless o (decided b (outcome_of b budget))) (last_refusal ∙ q) A.problem

  witness_by : (o : Option Refused) → first_of (big ∷ []) ≡ o
      → witness_after s root budget (length work) witness ≡ unless_refused o witness (witness_written a (outcome_of a budget) witness)
  unfolding witness_after
  witness_by o q =
      ap₂ {C = List ℕ} (λ (o : Option Refused) (b : List ℕ). unless_refused o witness (witness_written b (outcome_of b budget) witness))
      (last_refusal ∙ q) A.problem

  work_left : work' ≡ work_after_decide s root work (length witness)
  unfolding work_after_decide
  work_left =
      w ∙ ap (λ (b : List ℕ). over (table_bytes (table_of b)) work) (sym A.problem)
      ∙ sym (ap (λ (o : Option Refused). unless_refused o work (over (table_bytes (table_of (asked s root))) work)) e)

  pub decide_big : 10 ^ 18 < product a → DecidePromise budget root s work witness (Err Refusal.BigProduct) work' witness
  decide_big h =
      let q = ap (λ (b : Bool). first_of (refuse_if b 13 ∷ [])) (lt-ltb (10 ^ 18) (product a) h) in
      record {
        answers = sym (answer_by (some (refuse 13 0)) q);
        work_after_is = work_left;
        witness_after_is = sym (witness_by (some (refuse 13 0)) q);
      }

  pub decide_searched : product a ≤ 10 ^ 18 → {r : Decision} {witness' : List ℕ} → SearchIs budget a witness r witness'
      → DecidePromise budget root s work witness (Ok r) work' witness'
  decide_searched h x =
      let q = ap (λ (b : Bool). first_of (refuse_if b 13 ∷ [])) (le-ltb (10 ^ 18) (product a) h) in
      record {
        answers = x.answers ∙ sym (answer_by none q);
        work_after_is = work_left;
        witness_after_is = x.witness_after_is ∙ sym (witness_by none q);
      }
