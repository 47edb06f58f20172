-- The top of jobs in solver text: what read's promise means, and the promises of read and decide together, from the bytes of a text to
-- its verdict (02, E1; E2: the last node is named). It reads without the lemmas.
--
-- text are the bytes read, problem the buffer lent to read and problem' as left, r the answer. Decide is asked about the last node of
-- the bytes answered, with a budget and two buffers, which are work' and witness' as left; d is its answer.
-- `RefusesText text room x`: refusal x comes, in the order tried. `TakesText text room s`: the text is read as the script s, whose
-- problem is within the limits. Both speak of texts of the subset, and of no reader (specs/ReadConditions, specs/Texts).
-- `problem_of_script s`: the problem's bytes. `Origin`, `NodeOf`, `NoTwins`: where its nodes come from (specs/Origins).
-- `script_read text`: the script that the text writes. `asserts_true I s`: the interpretation I makes every assert of s true.
-- `Unsat s`: none does. `Sat s`: some does. `tables_of w`: the interpretation that witness bytes stand for. `over bytes b`: the buffer b
-- with these bytes at its start, the rest as it was. Assumes nothing.
use mathlib.Core.Path.{◌≡◌, subst}
use Prim.Native.Nat.{ℕ, ◌+◌, ◌*◌, ◌-◌, ◌^◌, ◌≤◌, ◌<◌}
use mathlib.Core.Bool.{true, not}
use mathlib.Core.List.{List}
use mathlib.Core.Logic.{◌⊎◌, ◌↔◌}
use lib.ListN.{length, take}
use Rattle.std.specs.Prelude.{Result, Ok, Err}
use Rattle.definitions.specs.Problem.Asked.{asked, last_node}
use Rattle.definitions.specs.Logic.{Interpretation, holds_at}
use Rattle.definitions.specs.Ranges.{product}
use Rattle.definitions.specs.Witness.{tables_of}
use Rattle.definitions.specs.Operations.Answers.{given}
use Rattle.definitions.specs.Operations.Buffers.{over}
use Rattle.definitions.specs.Operations.Promises.{DecidePromise, ReadPromise}
use Rattle.definitions.specs.Text.Tokens.{tokens_of}
use Rattle.definitions.specs.Text.Grammar.{Script}
use Rattle.definitions.specs.Text.Reader.{script_read}
use Rattle.definitions.specs.Text.Meaning.{asserts_true, Unsat}
use Rattle.definitions.specs.Text.Nodes.{Tree, not_tree, joined, nodes_of_script, bytes_of_script, problem_of_script}
use Rattle.definitions.specs.declared.Refusal.{Refusal}
use Rattle.definitions.specs.declared.Refusal.TheVariants.{ShortWork, ShortWitness, BigProduct}
use Rattle.definitions.specs.declared.Decision.{Decision}
use Rattle.theorems.specs.Searched.{valid_answer, falsified_answer}
use Rattle.theorems.specs.Texts.{Sat, Rises}
use Rattle.theorems.specs.ReadConditions.{TakesText, RefusesText}
use Rattle.theorems.specs.Origins.{NodeOf, Origin, trees_of_script, NoTwins}
use Rattle.theorems.proofs.Text.Meant.Twins.{script_twins}
use Rattle.theorems.proofs.Text.Meant.Origins.{node_origin, script_node, negation_last}
use Rattle.theorems.proofs.Text.Meant.Bytes.{script_length}
use Rattle.theorems.proofs.Text.Taken.Lexed.{places_rise}
use Rattle.theorems.proofs.Text.Problems.{text_means}
use Rattle.theorems.proofs.Text.Promised.{read_refused, refused_kept, read_taken, taken_written, script_read_lem, script_takes, script_bytes}
use Rattle.theorems.proofs.Text.Judged.{
  refused_judged,
  valid_judged,
  falsified_judged,
  unsat_judged,
  sat_judged,
  not_unsat_judged,
}

module _ (text problem : List ℕ) (r : Result ℕ Refusal) (problem' : List ℕ) (promise : ReadPromise text problem r problem') where
  -- REFUSED: a refusal comes exactly where the text is so, in the order tried, and writes nothing
  pub read_refused_means : (x : Refusal)
      → ((r ≡ Err x) ↔ RefusesText text (length problem) x) × (r ≡ Err x → problem' ≡ problem)
  read_refused_means x = (read_refused text problem r problem' promise x, refused_kept text problem r problem' promise x)

  -- TAKEN: a problem is answered exactly where the text is taken, with its length; the buffer holds it, and then what stood there
  pub read_taken_means : (written : ℕ)
      → ((r ≡ Ok written) ↔ ((s : Script) × (TakesText text (length problem) s × (written ≡ length (problem_of_script s)))))
      × ((s : Script) → TakesText text (length problem) s → problem' ≡ over (problem_of_script s) problem)
  read_taken_means written = (read_taken text problem r problem' promise written, taken_written text problem r problem' promise)

-- PLACES: those of a text's tokens rise strictly, and all stand in the text
pub places_mean : (text : List ℕ) → Rises 0 (length text) (tokens_of text)
places_mean = places_rise

module _ (text : List ℕ) (room : ℕ) (s : Script) (takes : TakesText text room s) where
  -- MEANT: in every interpretation the problem is true exactly when the asserts joined by "and" are not
  pub problem_means : (I : Interpretation) → holds_at I (problem_of_script s) (last_node (problem_of_script s)) ≡ not (asserts_true I s)
  problem_means = text_means text room s takes

  -- NODES: no two are equal; each is that of a part of a term, of a join or of the negation, each of these has one, and the negation
  -- is last
  pub nodes_mean : NoTwins (nodes_of_script s)
      × ((k : ℕ) → k < length (nodes_of_script s) → (x : Tree) × (Origin (trees_of_script s) x × NodeOf (nodes_of_script s) x k))
      × ((x : Tree) → Origin (trees_of_script s) x → (k : ℕ) × NodeOf (nodes_of_script s) x k)
      × NodeOf (nodes_of_script s) (not_tree (joined (trees_of_script s))) (length (nodes_of_script s) - 1)
  nodes_mean = (script_twins s takes.reads.right, node_origin s, script_node s, negation_last s)

  -- LENGTH: 8 + s + 8n
  pub length_means : length (problem_of_script s) ≡ 8 + length (bytes_of_script s) + 8 * length (nodes_of_script s)
  length_means = script_length s

-- from the text to the verdict
module _
    (text problem : List ℕ)
    (written : ℕ)
    (problem' : List ℕ)
    (reading : ReadPromise text problem (Ok written) problem') where
  -- SCRIPT: a text that is answered with a problem has a script; script_read says which, so there is one
  pub script_means : (s : Script) × (script_read text ≡ given s)
  script_means = script_read_lem text problem written problem' reading

  module _
      (s : Script)
      (reads : script_read text ≡ given s)
      (budget : ℕ)
      (work witness : List ℕ)
      (d : Result Decision Refusal)
      (work' witness' : List ℕ)
      (decision : DecidePromise budget (last_node (take written problem')) (take written problem') work witness d work' witness') where
    takes : TakesText text (length problem) s
    takes = script_takes text problem written problem' reading s reads

    on_script : DecidePromise budget (last_node (problem_of_script s)) (problem_of_script s) work witness d work' witness'
    on_script =
        subst (λ (bytes : List ℕ). DecidePromise budget (last_node bytes) bytes work witness d work' witness')
        (script_bytes text problem written problem' reading s reads) decision

    -- what the last node reaches
    abbrev a : List ℕ
    a = asked (problem_of_script s) (last_node (problem_of_script s))

    -- JUDGED: decide refuses what was read only for a short buffer or a big product; 1 to 7, 16, 9 and 10 never come
    pub judged_means : (x : Refusal) → d ≡ Err x → (x ≡ ShortWork) ⊎ ((x ≡ ShortWitness) ⊎ (x ≡ BigProduct))
    judged_means = refused_judged text (length problem) s takes budget work witness d work' witness' on_script

    -- UNSAT: valid says that no interpretation makes every assert true
    pub unsat_means : (tried places : ℕ) → d ≡ valid_answer tried places → Unsat s
    unsat_means = valid_judged text (length problem) s takes budget work witness d work' witness' on_script

    -- SAT: falsified says that the tables written make every assert true
    pub sat_means : (tried places bytes : ℕ) → d ≡ falsified_answer tried places bytes → asserts_true (tables_of witness') s ≡ true
    sat_means = falsified_judged text (length problem) s takes budget work witness d work' witness' on_script

    -- ENOUGH: with buffers and a product that decide takes, and a budget of at least the product, it is valid exactly where the
    -- script is unsat, falsified exactly where it is sat, and one of the two
    pub enough_means : 21056 ≤ length work → 206 ≤ length witness → product a ≤ 10 ^ 18 → product a ≤ budget
        → ((d ≡ valid_answer (product a) (product a)) ↔ Unsat s)
        × (((tried bytes : ℕ) × (d ≡ falsified_answer tried (product a) bytes)) ↔ Sat s)
        × ((Unsat s → ⊥) → (tried bytes : ℕ) × (d ≡ falsified_answer tried (product a) bytes))
    enough_means w r p h = (
      unsat_judged text (length problem) s takes budget work witness d work' witness' on_script w r p h,
      sat_judged text (length problem) s takes budget work witness d work' witness' on_script w r p h,
      not_unsat_judged text (length problem) s takes budget work witness d work' witness' on_script w r p h,
    )
