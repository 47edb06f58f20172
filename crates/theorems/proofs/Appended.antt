-- Two departments, one table (02, E2): appending nodes changes nothing for a root in the shorter table, neither the answers nor any
-- byte of any buffer. First of the definitions, then of any two outcomes that keep the promises, the host's too. It reads without the
-- lemmas. s is the shorter table, u the longer; `Appends s u` is in specs/Appending. Assumes nothing.
use mathlib.Core.Path.{◌≡◌, sym, ap, ap₂, ◌∙◌}
use Prim.Native.Nat.{ℕ, suc, ◌<◌}
use native.Mathlib.Omega.{arith}
use mathlib.Core.Bool.{Bool, true, false, ◌||◌}
use mathlib.Core.List.{List, [], ◌∷◌, ◌++◌}
use mathlib.Core.Option.{Option}
use lib.ListN.{length, take, length-append, get_or-append}
use lib.Seq.{take-append-le}
use lib.Dec.{ltb}
use borrow.Author.Tests.{lt-leb}
use Rattle.std.specs.Prelude.{Result}
use Rattle.definitions.specs.Lists.{first_of}
use Rattle.definitions.specs.Problem.Node.{Node, no_node, table_bytes, problem_bytes}
use Rattle.definitions.specs.Problem.Check.{nodes_of, is_term, Refused, refuse_if}
use Rattle.definitions.specs.Problem.Asked.{trimmed, asked, root_wrong, ask_refusal, limit_conditions, ask_conditions, refusal_of}
use Rattle.definitions.specs.Elimination.{table_of}
use Rattle.definitions.specs.Ranges.{tops_of}
use Rattle.definitions.specs.Verdict.{outcome_of}
use Rattle.definitions.specs.Operations.Answers.{
  short_work,
  short_witness,
  big_product,
  eliminate_refusal,
  ranges_refusal,
  buffers_refusal,
  decide_refusal,
  unless,
  counts,
  laid,
  tops_unless,
  measured,
  decided,
  check_answer,
  eliminate_answer,
  ranges_answer,
  decide_answer,
}
use Rattle.definitions.specs.Operations.Buffers.{over, unless_refused, work_after, work_after_decide, witness_written, witness_after}
use Rattle.definitions.specs.Operations.Host.{answer_bytes, HostOutcome, host_outcome}
use Rattle.definitions.specs.Operations.Promises.{CheckPromise, EliminatePromise, RangesPromise, DecidePromise, HostPromise}
use Rattle.definitions.specs.declared.Refusal.{Refusal}
use Rattle.definitions.specs.declared.Counts.{Counts}
use Rattle.definitions.specs.declared.Table.{Table}
use Rattle.definitions.specs.declared.Ranges.{Ranges}
use Rattle.definitions.specs.declared.Decision.{Decision}
use Rattle.theorems.specs.Appending.{Appends}
use Rattle.theorems.proofs.Laws.First.{first_append}
use Rattle.theorems.proofs.Asked.Formed.{ask_by}
use Rattle.theorems.proofs.Unique.{check_unique, eliminate_unique, ranges_unique, decide_unique, host_unique}

root_stays : (t more : List Node) (root : ℕ) → root < length t → root_wrong t root ≡ root_wrong (t ++ more) root
root_stays t more root h =
    let l = length-append t more in
    ap₂ {C = Bool} (λ (a b : Bool). a || b) (lt-leb (length t) root h ∙ sym (lt-leb (length (t ++ more)) root (omega arith)))
    (ap is_term (sym (get_or-append t more no_node root h)))

module _ (s u : List ℕ) (appends : Appends s u) (root : ℕ) (inside : root < length (nodes_of s)) where
  -- the same refusal among 1 to 7 and 16: none where the root is a formula, 16 where it is a term
  root_same : ask_refusal s root ≡ ask_refusal u root
  root_same =
      ask_by s root
      ∙ ap₂ {C = Option Refused} (λ (o : Option Refused) (b : Bool). first_of (o ∷ refuse_if b 16 ∷ []))
      (appends.shorter ∙ sym appends.longer)
      (root_stays (nodes_of s) appends.more root inside ∙ ap (λ (t : List Node). root_wrong t root) (sym appends.nodes))
      ∙ sym (ask_by u root)

  -- the same problem is asked
  pub problem_same : asked s root ≡ asked u root
  unfolding asked
  problem_same =
      ap₂ {C = List ℕ} (λ (symbols : List ℕ) (t : List Node). problem_bytes symbols (trimmed symbols t)) appends.symbols
      (sym (take-append-le (suc root) (nodes_of s) appends.more (omega arith)) ∙ ap (take (suc root)) (sym appends.nodes))

  -- the same refusal
  refusal_same : refusal_of s root ≡ refusal_of u root
  unfolding refusal_of ask_refusal
  refusal_same =
      sym (first_append (ask_conditions s root) (limit_conditions (asked s root)))
      ∙ ap₂ {C = Option Refused} (λ (o : Option Refused) (a : List ℕ). first_of (o ∷ limit_conditions a)) root_same problem_same
      ∙ first_append (ask_conditions u root) (limit_conditions (asked u root))

  -- so whatever is made of the two stays as it is
  stays : {A : Type 0} (F : Option Refused → List ℕ → A) → F (refusal_of s root) (asked s root) ≡ F (refusal_of u root) (asked u root)
  stays F = ap₂ F refusal_same problem_same

  -- the refusals of the buffers and of the product
  abbrev laying : ℕ → Option Refused → Option Refused
  laying work o = first_of (o ∷ short_work work ∷ [])

  abbrev writing : ℕ → ℕ → Option Refused → Option Refused
  writing work room o = first_of (laying work o ∷ short_witness room ∷ [])

  abbrev deciding : ℕ → ℕ → Option Refused → List ℕ → Option Refused
  deciding work room o a = first_of (writing work room o ∷ big_product a ∷ [])

  abbrev measuring : ℕ → Option Refused → List ℕ → Option Refused
  measuring work o a = first_of (laying work o ∷ big_product a ∷ [])

  -- THE ANSWERS
  pub check_appended : check_answer s root ≡ check_answer u root
  unfolding check_answer
  check_appended = stays (λ o a. unless o (counts a))

  pub eliminate_appended : (work : ℕ) → eliminate_answer s root work ≡ eliminate_answer u root work
  unfolding eliminate_answer eliminate_refusal
  eliminate_appended work = stays (λ o a. unless (laying work o) (laid a))

  pub ranges_appended : (work : ℕ) → ranges_answer s root work ≡ ranges_answer u root work
  unfolding ranges_answer ranges_refusal eliminate_refusal
  ranges_appended work =
      stays
      (λ o a. record { tops = tops_unless (measuring work o a) (tops_of a); answer = unless (measuring work o a) (measured a) })

  pub decide_appended : (budget work room : ℕ) → decide_answer s root budget work room ≡ decide_answer u root budget work room
  unfolding decide_answer decide_refusal buffers_refusal eliminate_refusal
  decide_appended budget work room = stays (λ o a. unless (deciding work room o a) (decided a (outcome_of a budget)))

  -- THE BUFFERS
  pub work_appended : (work : List ℕ) → work_after s root work ≡ work_after u root work
  unfolding work_after eliminate_refusal
  work_appended work = stays (λ o a. unless_refused (laying (length work) o) work (over (table_bytes (table_of a)) work))

  pub decide_work_appended : (work : List ℕ) (room : ℕ) → work_after_decide s root work room ≡ work_after_decide u root work room
  unfolding work_after_decide buffers_refusal eliminate_refusal
  decide_work_appended work room =
      stays (λ o a. unless_refused (writing (length work) room o) work (over (table_bytes (table_of a)) work))

  pub witness_appended : (budget work : ℕ) (witness : List ℕ) → witness_after s root budget work witness ≡ witness_after u root budget work witness
  unfolding witness_after decide_refusal buffers_refusal eliminate_refusal
  witness_appended budget work witness =
      stays
      (λ o a. unless_refused (deciding work (length witness) o a) witness (witness_written a (outcome_of a budget) witness))

  pub host_appended : (budget : ℕ) (work witness answer : List ℕ)
      → host_outcome budget root s work witness answer ≡ host_outcome budget root u work witness answer
  unfolding host_outcome
  host_appended budget work witness answer =
      λ i.
      elim (ltb (length answer) 32) [
        | true ↦ record { returned = 0; work = work; witness = witness; answer = answer }
        | false ↦
            record {
              returned = 1;
              work = decide_work_appended work (length witness) i;
              witness = witness_appended budget (length work) witness i;
              answer = over (answer_bytes (decide_appended budget (length work) (length witness) i)) answer;
            }
      ]

  -- THE PROMISES: two outcomes, one on each table, that keep them are the same
  pub check_outcomes : (r q : Result Counts Refusal) → CheckPromise root s r → CheckPromise root u q → r ≡ q
  check_outcomes r q x y = check_unique root s r q x (record { answers = y.answers ∙ sym check_appended })

  pub eliminate_outcomes : (work : List ℕ) (r q : Result Table Refusal) (w v : List ℕ)
      → EliminatePromise root s work r w → EliminatePromise root u work q v → (r ≡ q) × (w ≡ v)
  eliminate_outcomes work r q w v x y =
      eliminate_unique root s work r q w v x
      (record {
        answers = y.answers ∙ sym (eliminate_appended (length work));
        work_after_is = y.work_after_is ∙ sym (work_appended work);
      })

  pub ranges_outcomes : (work : List ℕ) (r q : Result Ranges Refusal) (w v : List ℕ)
      → RangesPromise root s work r w → RangesPromise root u work q v → (r ≡ q) × (w ≡ v)
  ranges_outcomes work r q w v x y =
      ranges_unique root s work r q w v x
      (record {
        answers = y.answers ∙ sym (ranges_appended (length work));
        work_after_is = y.work_after_is ∙ sym (work_appended work);
      })

  pub decide_outcomes : (budget : ℕ) (work witness : List ℕ) (r q : Result Decision Refusal) (w v w' v' : List ℕ)
      → DecidePromise budget root s work witness r w w' → DecidePromise budget root u work witness q v v'
      → (r ≡ q) × (w ≡ v) × (w' ≡ v')
  decide_outcomes budget work witness r q w v w' v' x y =
      decide_unique budget root s work witness r q w v w' v' x
      (record {
        answers = y.answers ∙ sym (decide_appended budget (length work) (length witness));
        work_after_is = y.work_after_is ∙ sym (decide_work_appended work (length witness));
        witness_after_is = y.witness_after_is ∙ sym (witness_appended budget (length work) witness);
      })

  pub host_outcomes : (budget : ℕ) (work witness answer : List ℕ) (r q : ℕ) (w v w' v' a b : List ℕ)
      → HostPromise budget root s work witness answer r w w' a → HostPromise budget root u work witness answer q v v' b
      → (r ≡ q) × (w ≡ v) × (w' ≡ v') × (a ≡ b)
  host_outcomes budget work witness answer r q w v w' v' a b x y =
      let same = sym (host_appended budget work witness answer) in
      host_unique budget root s work witness answer r q w v w' v' a b x
      (record {
        returns = y.returns ∙ ap (λ (o : HostOutcome). o.returned) same;
        work_after_is = y.work_after_is ∙ ap (λ (o : HostOutcome). o.work) same;
        witness_after_is = y.witness_after_is ∙ ap (λ (o : HostOutcome). o.witness) same;
        answer_after = y.answer_after ∙ ap (λ (o : HostOutcome). o.answer) same;
      })
