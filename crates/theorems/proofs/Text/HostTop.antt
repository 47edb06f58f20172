-- The top of jobs in solver text, for the overnight rig: what the promise of the host's call that reads a text means (02, E1). The words
-- are those of the top of texts; `verdict_in`, `refusal_in`, `place_in` and `tried_in` read the fields of the 32 bytes (specs/Called).
--
-- text is the call's, problem and answer the buffers as lent, those with a prime as left, r what is returned. A place is told by eight
-- bytes, so a text is taken to be shorter than 256^8 bytes, as every text in a machine's memory is. Assumes nothing else.
use mathlib.Core.Path.{◌≡◌}
use Prim.Native.Nat.{ℕ, ◌^◌, ◌≤◌, ◌<◌}
use native.Mathlib.Omega.{arith}
use mathlib.Core.List.{List}
use mathlib.Core.Logic.{◌⊎◌, inl, inr}
use lib.ListN.{length, drop}
use Rattle.definitions.specs.Operations.Buffers.{over}
use Rattle.definitions.specs.Operations.Promises.{HostReadPromise}
use Rattle.definitions.specs.Text.Grammar.{Script}
use Rattle.definitions.specs.Text.Nodes.{problem_of_script}
use Rattle.definitions.specs.declared.Refusal.{Refusal}
use Rattle.theorems.specs.Conditions.{number, place}
use Rattle.theorems.specs.Called.{verdict_in, refusal_in, place_in, tried_in}
use Rattle.theorems.specs.ReadConditions.{TakesText, RefusesText}
use Rattle.theorems.proofs.Text.Called.{short_read, ToldRead, ToldRefused, told_read, past_read}

module _
    (text problem answer : List ℕ)
    (r : ℕ)
    (problem' answer' : List ℕ)
    (promise : HostReadPromise text problem answer r problem' answer') where
  -- an answer buffer under 32 bytes: 0 is returned, and nothing is changed
  pub host_read_short_means : length answer < 32 → (r ≡ 0) × (problem' ≡ problem) × (answer' ≡ answer)
  host_read_short_means = short_read text problem answer r problem' answer' promise

  -- else 1 is returned, and 32 bytes are written
  module _ (long : 32 ≤ length answer) where
    pub host_read_long_means : (r ≡ 1) × (drop 32 answer' ≡ drop 32 answer)
    host_read_long_means = past_read text problem answer r problem' answer' promise long

    module _ (short : length text < 256 ^ 8) where
      tells : ToldRead text problem answer r problem' answer' promise ⊎ ToldRefused text problem answer r problem' answer' promise
      tells = told_read text problem answer r problem' answer' promise long short

      -- byte 0 is 10 or 0
      pub host_read_code : (verdict_in answer' ≡ 10) ⊎ (verdict_in answer' ≡ 0)
      host_read_code = elim tells [ inl t ↦ inl t.1.0 | inr t ↦ inr t.1.0 ]

      -- byte 0 is 10 only where the text is taken: the problem's length stands in the bytes of tried, the problem in its buffer
      pub host_read_taken_means : verdict_in answer' ≡ 10
          → (s : Script) × (TakesText text (length problem) s × (tried_in answer' ≡ length (problem_of_script s)) × (problem' ≡ over (problem_of_script s) problem))
      host_read_taken_means e =
          elim tells [ inl t ↦ (t.0, (t.1.1, t.1.2, t.1.3)) | inr t ↦ absurd (let z = t.1.0 in omega arith) ]

      -- byte 0 is 0 only for a refusal, byte 1 and the place are its own, and nothing is written
      pub host_read_refused_means : verdict_in answer' ≡ 0
          → (x : Refusal) × ((refusal_in answer' ≡ number x) × (place_in answer' ≡ place x) × RefusesText text (length problem) x × (problem' ≡ problem))
      host_read_refused_means e =
          elim tells [ inl t ↦ absurd (let z = t.1.0 in omega arith) | inr t ↦ (t.0, (t.1.1, t.1.2, t.1.3, t.1.4)) ]
