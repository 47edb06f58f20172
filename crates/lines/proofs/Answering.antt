-- `decide` promises the definition's answer, and so its words. Assumes nothing.
use mathlib.Core.Path.{◌≡◌, sym, ap, ap₂, ◌∙◌}
use Prim.Native.Nat.{ℕ, ◌≤◌, ◌<◌}
use mathlib.Core.List.{List}
use mathlib.Core.Logic.{inl, inr}
use lib.ListN.{length}
use borrow.Author.Tests.{lt-ltb}
use Rattle.definitions.specs.Night.{said}
use Rattle.definitions.specs.Operations.Answers.{refused, eliminate_refusal, buffers_refusal, decide_refusal, decide_answer}
use Rattle.definitions.specs.Problem.Check.{refuse}
use Rattle.definitions.specs.Problem.Asked.{refusal_of, last_node}
use Rattle.definitions.specs.Operations.Promises.{DecidePromise}
use Rattle.definitions.specs.Operations.Readings.{decision_read}
use Rattle.definitions.specs.declared.Decision.{Decision}
use Rattle.definitions.specs.declared.Refusal.{Refusal}
use Rattle.std.specs.Prelude.{Result}
use Rattle.theorems.proofs.Laws.Tests.{split}

-- bytes with no header are refused whatever node is named
module _ (s : List ℕ) (root budget work room : ℕ) where
  no_header : length s < 8 → decide_answer s root budget work room ≡ refused (refuse 1 0)
  unfolding decide_answer decide_refusal buffers_refusal eliminate_refusal refusal_of
  no_header h = rw (lt-ltb (length s) 8 h)

-- so what is named as the last node may be any there
pub named_last : (s : List ℕ) (root budget work room : ℕ) → (8 ≤ length s → root ≡ last_node s)
    → decide_answer s root budget work room ≡ decide_answer s (last_node s) budget work room
named_last s root budget work room f =
    elim (split (length s) 8) [
      | inl h ↦ no_header s root budget work room h ∙ sym (no_header s (last_node s) budget work room h)
      | inr h ↦ ap (λ (n : ℕ). decide_answer s n budget work room) (f h)
    ]

pub said_decided : {budget root : ℕ} {s work witness work' witness' : List ℕ} {answer : Result Decision Refusal} → (8 ≤ length s → root ≡ last_node s)
    → DecidePromise budget root s work witness answer work' witness' → length work ≡ 21056 → length witness ≡ 206
    → said (decision_read answer) ≡ said (decide_answer s (last_node s) budget 21056 206)
said_decided {budget} {root} {s} last promise w v =
    ap said (promise.answers ∙ ap₂ (decide_answer s root budget) w v ∙ named_last s root budget 21056 206 last)
