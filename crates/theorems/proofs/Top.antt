-- The top: what decide's promise means, the user's three demands in one place (docs/THEOREMS.md has them in words). It reads without
-- the lemmas. The promise is kept for any bytes, buffer lengths, budget and root; that decide returns and does nothing undefined is
-- what the language proves of every function.
--
-- s are the problem's bytes, root the node named, work and witness the buffers as lent, work' and witness' as left, r the answer.
-- `Meets s root work room x`: the input meets the condition of refusal x. `Refuses`: it is the first that is met, in the order tried,
-- which `turn` counts: 16 comes where 8 came. `Passes`: none of the thirteen is met; `PassesTwelve`: none but 13. (specs/Conditions.)
-- `holds_at I s root`: the interpretation I, total functions and predicates over the whole numbers, makes the named root of the original
-- problem true. `ValidAt s root`: every I does. `FalsifiableAt s root`: some I makes it false. `tables_of w`: the interpretation that
-- witness bytes stand for. `over bytes b`: the buffer b with these bytes at its start, the rest as it was.
-- r is `Err x` for a refusal x; `valid_answer tried product`, `falsified_answer tried product written` and `stopped_answer tried product`
-- are its three other forms, each an `Ok`.
-- `a` is `asked s root`, the problem asked: the nodes that the root reaches, alone. `table_of a`: its nested-choice elimination.
-- `true_at a p`: the truth at place p. `product a`: the number of places, which run from 1. Assumes nothing.
use mathlib.Core.Path.{◌≡◌}
use Prim.Native.Nat.{ℕ, ◌≤◌, ◌<◌}
use mathlib.Core.Bool.{true, false}
use mathlib.Core.List.{List}
use mathlib.Core.Logic.{◌↔◌}
use lib.ListN.{length}
use Rattle.std.specs.Prelude.{Result, Err}
use Rattle.definitions.specs.Problem.Node.{table_bytes}
use Rattle.definitions.specs.Problem.Asked.{asked}
use Rattle.definitions.specs.Logic.{Interpretation, ValidAt, holds_at}
use Rattle.definitions.specs.Elimination.{table_of}
use Rattle.definitions.specs.Ranges.{product}
use Rattle.definitions.specs.Places.{true_at}
use Rattle.definitions.specs.Verdict.{first_false}
use Rattle.definitions.specs.Witness.{tables_of, witness_at}
use Rattle.definitions.specs.Operations.Buffers.{over}
use Rattle.definitions.specs.Operations.Promises.{DecidePromise}
use Rattle.definitions.specs.declared.Refusal.{Refusal}
use Rattle.definitions.specs.declared.Decision.{Decision}
use Rattle.theorems.specs.Conditions.{turn, Refuses, PassesTwelve, Passes}
use Rattle.theorems.specs.Searched.{FalsifiableAt, table_truth, tried_of, tried_within, valid_answer, falsified_answer, stopped_answer}
use Rattle.theorems.proofs.Decided.{
  refused_exactly,
  refused_leaves,
  taken_exactly,
  table_both_ways,
  valid_decision,
  falsified_decision,
  stopped_decision,
  valid_decided,
  falsified_decided,
  stopped_decided,
  tried_decided,
}
use Rattle.theorems.proofs.Growing.{grown_decision}

module _
    (budget root : ℕ)
    (s work witness : List ℕ)
    (r : Result Decision Refusal)
    (work' witness' : List ℕ)
    (promise : DecidePromise budget root s work witness r work' witness') where
  abbrev a : List ℕ
  a = asked s root

  -- REFUSED (demand 1): a refusal comes exactly where its condition is the first in the order that the input meets. It leaves
  -- the witness buffer as it was; all but 13 leave the work buffer as it was too, and 13 leaves the table at its start
  pub refused_means : (x : Refusal)
      → ((r ≡ Err x) ↔ Refuses s root (length work) (length witness) x)
      × (r ≡ Err x
      → (witness' ≡ witness) × (turn x ≤ 12 → work' ≡ work) × (turn x ≡ 13 → work' ≡ over (table_bytes (table_of a)) work))
  refused_means x = (
    refused_exactly budget root s work witness r work' witness' promise x,
    refused_leaves budget root s work witness r work' witness' promise x,
  )

  -- TAKEN (demand 1): an answer that is no refusal comes exactly where the input passes all thirteen conditions
  pub taken_means : ((x : Refusal) → r ≡ Err x → ⊥) ↔ Passes s root (length work) (length witness)
  taken_means = taken_exactly budget root s work witness r work' witness' promise

  -- THE TABLE (demand 2): where the input passes all but 13 the work buffer holds the elimination's bytes, the rest as it was.
  -- `table_truth a work' A` is the truth of the root, under the assignment A, of the nodes read back from those bytes: every
  -- assignment has an interpretation with the same truth of the named root, and every interpretation an assignment
  pub table_means : PassesTwelve s root (length work) (length witness)
      → (work' ≡ over (table_bytes (table_of a)) work)
      × ((A : Interpretation) → (I : Interpretation) × (holds_at I s root ≡ table_truth a work' A))
      × ((I : Interpretation) → (A : Interpretation) × (table_truth a work' A ≡ holds_at I s root))
  table_means = table_both_ways budget root s work witness r work' witness' promise

  -- VALID (demand 3): no functions and predicates make the named root false, and every place was tried
  pub valid_means : (tried places : ℕ) → r ≡ valid_answer tried places
      → (places ≡ product a) × (tried ≡ product a) × (product a ≤ budget) × ValidAt s root × (witness' ≡ witness)
  valid_means = valid_decision budget root s work witness r work' witness' promise

  -- FALSIFIED (demand 2): the tables written make the named root of the original problem false; the place tried last is false and
  -- all before it are true; `written` bytes are the witness of that place, the rest of the buffer as it was
  pub falsified_means : (tried places written : ℕ) → r ≡ falsified_answer tried places written
      → (places ≡ product a) × (1 ≤ tried) × (tried ≤ product a) × (tried ≤ budget)
      × (true_at a tried ≡ false) × ((p : ℕ) → 1 ≤ p → p < tried → true_at a p ≡ true)
      × (holds_at (tables_of witness') s root ≡ false)
      × (written ≡ length (witness_at a tried)) × (witness' ≡ over (witness_at a tried) witness)
  falsified_means = falsified_decision budget root s work witness r work' witness' promise

  -- STOPPED (demand 3): the budget is spent, places are left, and those tried are true
  pub stopped_means : (tried places : ℕ) → r ≡ stopped_answer tried places
      → (places ≡ product a) × (tried ≡ budget) × (budget < product a) × ((p : ℕ) → 1 ≤ p → p ≤ budget → true_at a p ≡ true)
      × (witness' ≡ witness)
  stopped_means = stopped_decision budget root s work witness r work' witness' promise

  -- TRIED (demand 3): the first false place if the budget reaches it, else the smaller of budget and product
  pub tried_means : Passes s root (length work) (length witness)
      → tried_of r ≡ tried_within budget (product a) (first_false (true_at a) 1 (product a))
  tried_means = tried_decided budget root s work witness r work' witness' promise

  -- ENOUGH (demand 3): with a budget of at least the product it is valid exactly where no interpretation makes the named root
  -- false, and falsified exactly where one does
  pub enough_means : Passes s root (length work) (length witness) → product a ≤ budget
      → ((r ≡ valid_answer (product a) (product a)) ↔ ValidAt s root)
      × (((tried written : ℕ) × (r ≡ falsified_answer tried (product a) written)) ↔ FalsifiableAt s root)
  enough_means p h = (
    valid_decided budget root s work witness r work' witness' promise p h,
    falsified_decided budget root s work witness r work' witness' promise p h,
  )

  -- SHORT (demand 3): with less, it is stopped exactly where the first `budget` places all hold
  pub short_means : Passes s root (length work) (length witness) → budget < product a
      → (r ≡ stopped_answer budget (product a)) ↔ ((p : ℕ) → 1 ≤ p → p ≤ budget → true_at a p ≡ true)
  short_means = stopped_decided budget root s work witness r work' witness' promise

  -- MORE (demand 3): at a larger budget every answer but stopped is the same, with its count, its work bytes and its witness bytes
  pub more_means : (larger : ℕ) → budget ≤ larger → (q : Result Decision Refusal) (v v' : List ℕ) → DecidePromise larger root s work witness q v v'
      → ((tried places : ℕ) → r ≡ stopped_answer tried places → ⊥) → (q ≡ r) × (v ≡ work') × (v' ≡ witness')
  more_means larger h q v v' other moved =
      grown_decision budget larger root h s work witness r q work' witness' v v' promise other moved
