-- The top, for the overnight rig: what the host's promise means (01, 'The job', and the three demands). The words are Top's;
-- `verdict_in`, `refusal_in`, `written_in`, `place_in`, `tried_in` and `product_in` read the fields of the 32 bytes (specs/Called).
--
-- budget, root and s are the call's, work, witness and answer the buffers as lent, those with a prime as left, r what is returned.
-- Assumes nothing.
use mathlib.Core.Path.{◌≡◌, subst}
use Prim.Native.Nat.{ℕ, ◌≤◌, ◌<◌}
use mathlib.Core.Bool.{true, false}
use mathlib.Core.List.{List}
use mathlib.Core.Logic.{◌↔◌}
use lib.ListN.{length, drop}
use Rattle.definitions.specs.Problem.Node.{table_bytes}
use Rattle.definitions.specs.Problem.Asked.{asked}
use Rattle.definitions.specs.Logic.{ValidAt, holds_at}
use Rattle.definitions.specs.Elimination.{table_of}
use Rattle.definitions.specs.Ranges.{product}
use Rattle.definitions.specs.Places.{true_at}
use Rattle.definitions.specs.Witness.{tables_of, witness_at}
use Rattle.definitions.specs.Operations.Buffers.{over}
use Rattle.definitions.specs.Operations.Promises.{HostPromise}
use Rattle.definitions.specs.declared.Refusal.{Refusal}
use Rattle.theorems.specs.Conditions.{number, place, turn, Refuses, Passes}
use Rattle.theorems.specs.Searched.{FalsifiableAt}
use Rattle.theorems.specs.Called.{verdict_in, refusal_in, written_in, place_in, tried_in, product_in}
use Rattle.theorems.proofs.Called.{Told, short_call, told, past_answer, told_enough}

module _
    (budget root : ℕ)
    (s work witness answer : List ℕ)
    (r : ℕ)
    (work' witness' answer' : List ℕ)
    (promise : HostPromise budget root s work witness answer r work' witness' answer') where
  -- the problem asked
  abbrev a : List ℕ
  a = asked s root

  -- an answer buffer under 32 bytes: 0 is returned, and nothing is changed
  pub host_short_means : length answer < 32 → (r ≡ 0) × (work' ≡ work) × (witness' ≡ witness) × (answer' ≡ answer)
  host_short_means = short_call budget root s work witness answer r work' witness' answer' promise

  -- else 1 is returned, and 32 bytes are written
  module _ (long : 32 ≤ length answer) where
    tells : {n : ℕ} → verdict_in answer' ≡ n → Told budget root s work witness answer r work' witness' answer' promise n
    tells e =
        subst (Told budget root s work witness answer r work' witness' answer' promise) e
        (told budget root s work witness answer r work' witness' answer' promise long)

    pub host_long_means : (r ≡ 1) × (verdict_in answer' ≤ 3) × (drop 32 answer' ≡ drop 32 answer)
    host_long_means = past_answer budget root s work witness answer r work' witness' answer' promise long

    -- byte 0 is 0 only for a refusal, byte 1 and the place are its own: its condition is the first in the order that is met
    pub host_refused_means : verdict_in answer' ≡ 0
        → (x : Refusal) × (refusal_in answer' ≡ number x) × (place_in answer' ≡ place x)
        × Refuses s root (length work) (length witness) x
        × (witness' ≡ witness) × (turn x ≤ 12 → work' ≡ work) × (turn x ≡ 13 → work' ≡ over (table_bytes (table_of a)) work)
    host_refused_means e = tells e

    -- byte 0 is 1 only where no functions and predicates make the named root false
    pub host_valid_means : verdict_in answer' ≡ 1
        → (product_in answer' ≡ product a) × (tried_in answer' ≡ product a) × (product a ≤ budget) × ValidAt s root × (witness' ≡ witness)
    host_valid_means e = tells e

    -- byte 0 is 2 only where the tables written make the named root of the original problem false
    pub host_falsified_means : verdict_in answer' ≡ 2
        → (product_in answer' ≡ product a)
        × (1 ≤ tried_in answer') × (tried_in answer' ≤ product a) × (tried_in answer' ≤ budget)
        × (true_at a (tried_in answer') ≡ false) × ((p : ℕ) → 1 ≤ p → p < tried_in answer' → true_at a p ≡ true)
        × (holds_at (tables_of witness') s root ≡ false)
        × (written_in answer' ≡ length (witness_at a (tried_in answer')))
        × (witness' ≡ over (witness_at a (tried_in answer')) witness)
    host_falsified_means e = tells e

    -- byte 0 is 3 only where the budget is spent, places are left, and those tried are true
    pub host_stopped_means : verdict_in answer' ≡ 3
        → (product_in answer' ≡ product a) × (tried_in answer' ≡ budget) × (budget < product a)
        × ((p : ℕ) → 1 ≤ p → p ≤ budget → true_at a p ≡ true) × (witness' ≡ witness)
    host_stopped_means e = tells e

    -- with a budget of at least the product, an input that passes all conditions has byte 0 equal to 1 exactly where no
    -- interpretation makes the named root false, and to 2 exactly where one does
    pub host_enough_means : Passes s root (length work) (length witness) → product a ≤ budget
        → ((verdict_in answer' ≡ 1) ↔ ValidAt s root) × ((verdict_in answer' ≡ 2) ↔ FalsifiableAt s root)
    host_enough_means = told_enough budget root s work witness answer r work' witness' answer' promise long
