-- What the promise of the host's call that reads a text says of its 32 bytes: the lemmas below the host's top of texts. Assumes nothing.
use mathlib.Core.Path.{◌≡◌, refl, sym, ap, ◌∙◌}
use Prim.Native.Nat.{ℕ, ◌^◌, ◌≤◌, ◌<◌}
use native.Mathlib.Omega.{arith}
use mathlib.Core.Bool.{Bool, true, false}
use mathlib.Core.List.{List}
use mathlib.Core.Logic.{◌⊎◌, inl, inr}
use lib.ListN.{length, drop}
use lib.Dec.{ltb}
use borrow.Author.Tests.{lt-ltb, le-ltb}
use Rattle.std.specs.Prelude.{Result, Ok, Err}
use Rattle.definitions.specs.Operations.Answers.{Answer, refused, given}
use Rattle.definitions.specs.Operations.Buffers.{over}
use Rattle.definitions.specs.Operations.Readings.{reading_read}
use Rattle.definitions.specs.Operations.Host.{read_bytes, ReadOutcome, read_outcome}
use Rattle.definitions.specs.Operations.Promises.{ReadPromise, HostReadPromise}
use Rattle.definitions.specs.Text.Grammar.{Script}
use Rattle.definitions.specs.Text.Nodes.{problem_of_script, read_answer, read_buffer}
use Rattle.definitions.specs.declared.Refusal.{Refusal}
use Rattle.theorems.specs.Conditions.{number, place}
use Rattle.theorems.specs.Called.{verdict_in, refusal_in, place_in, tried_in}
use Rattle.theorems.specs.ReadConditions.{TakesText, RefusesText}
use Rattle.theorems.proofs.Called.{bytes_back}
use Rattle.theorems.proofs.Text.Refused.{reads, place_within, problem_short}
use Rattle.theorems.proofs.Text.Promised.{read_refused, refused_kept, read_taken, taken_written}

module _
    (text problem answer : List ℕ)
    (r : ℕ)
    (problem' answer' : List ℕ)
    (promise : HostReadPromise text problem answer r problem' answer') where
  abbrev outcome_by : Bool → ReadOutcome
  outcome_by b =
      elim b [
        | true ↦ record { returned = 0; problem = problem; answer = answer }
        | false ↦
            record {
              returned = 1;
              problem = read_buffer text problem;
              answer = over (read_bytes (read_answer text (length problem))) answer;
            }
      ]

  outcome_by_lem : (b : Bool) → ltb (length answer) 32 ≡ b → read_outcome text problem answer ≡ outcome_by b
  unfolding read_outcome
  outcome_by_lem b e = ap outcome_by e

  -- a buffer that is too short is told by 0, and nothing is changed
  pub short_read : length answer < 32 → (r ≡ 0) × (problem' ≡ problem) × (answer' ≡ answer)
  short_read h =
      let o = outcome_by_lem true (lt-ltb (length answer) 32 h) in (
        promise.returns ∙ ap (λ (x : ReadOutcome). x.returned) o,
        promise.problem_after ∙ ap (λ (x : ReadOutcome). x.problem) o,
        promise.answer_after ∙ ap (λ (x : ReadOutcome). x.answer) o,
      )

  -- in a longer one stand the bytes of an answer that is read's, and then what stood there
  pub record Calls : Type 0 where
    pub reading : Result ℕ Refusal
    pub keeps : ReadPromise text problem reading problem'
    pub bytes : answer' ≡ over (read_bytes (reading_read reading)) answer
    pub returns_one : r ≡ 1

  long_read : 32 ≤ length answer → Calls
  long_read h =
      let o = outcome_by_lem false (le-ltb (length answer) 32 h) in
      let q = reads text (length problem) in
      record {
        reading = q.0;
        keeps = record { answers = q.1; problem_after = promise.problem_after ∙ ap (λ (x : ReadOutcome). x.problem) o };
        bytes =
            promise.answer_after
            ∙ ap (λ (x : ReadOutcome). x.answer) o
            ∙ ap (λ (a : Answer ℕ). over (read_bytes a) answer) (sym q.1);
        returns_one = promise.returns ∙ ap (λ (x : ReadOutcome). x.returned) o;
      }

  past_bytes : (a : Answer ℕ) → drop 32 (over (read_bytes a) answer) ≡ drop 32 answer
  past_bytes (refused x) = refl
  past_bytes (given n) = refl

  -- what the 32 bytes tell
  abbrev pub ToldRead : Type 0
  ToldRead =
      (s : Script) × ((verdict_in answer' ≡ 10) × TakesText text (length problem) s × (tried_in answer' ≡ length (problem_of_script s)) × (problem' ≡ over (problem_of_script s) problem))

  abbrev pub ToldRefused : Type 0
  ToldRefused =
      (x : Refusal) × ((verdict_in answer' ≡ 0) × (refusal_in answer' ≡ number x) × (place_in answer' ≡ place x) × RefusesText text (length problem) x × (problem' ≡ problem))

  told_by : length text < 256 ^ 8 → (q : Result ℕ Refusal) → ReadPromise text problem q problem' → answer' ≡ over (read_bytes (reading_read q)) answer → ToldRead ⊎ ToldRefused
  told_by h (Ok written) keeps e =
      let t = (read_taken text problem (Ok written) problem' keeps written).0 refl in
      let s = t.0 in
      let short = problem_short text (length problem) s t.1.0 in
      let w = t.1.1 in
      inl (
        s,
        (
          ap verdict_in e,
          t.1.0,
          ap tried_in e ∙ bytes_back 8 written (omega arith) ∙ w,
          taken_written text problem (Ok written) problem' keeps s t.1.0,
        ),
      )
  told_by h (Err x) keeps e =
      let m = (read_refused text problem (Err x) problem' keeps x).0 refl in
      let small = place_within text (length problem) x m in
      inr (
        x,
        (
          ap verdict_in e,
          ap refusal_in e,
          ap place_in e ∙ bytes_back 8 (place x) (omega arith),
          m,
          refused_kept text problem (Err x) problem' keeps x refl,
        ),
      )

  pub told_read : 32 ≤ length answer → length text < 256 ^ 8 → ToldRead ⊎ ToldRefused
  told_read h l = let c = long_read h in told_by l c.reading c.keeps c.bytes

  pub past_read : 32 ≤ length answer → (r ≡ 1) × (drop 32 answer' ≡ drop 32 answer)
  past_read h = let c = long_read h in (c.returns_one, ap (drop 32) c.bytes ∙ past_bytes (reading_read c.reading))
