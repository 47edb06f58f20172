-- What decide's promise says of an answer, case by case: the lemmas below the top. Assumes nothing.
use mathlib.Core.Path.{◌≡◌, refl, sym, ap, ◌∙◌}
use Prim.Native.Nat.{ℕ, ◌≤◌, ◌<◌}
use native.Mathlib.Omega.{arith}
use mathlib.Core.Bool.{true, false}
use mathlib.Core.List.{List, []}
use mathlib.Core.Logic.{◌↔◌}
use mathlib.Core.Option.{Option, none, some}
use lib.ListN.{length, drop}
use Rattle.std.specs.Prelude.{Result, Ok, Err}
use Rattle.definitions.specs.Problem.Node.{Node, nodes_at, table_bytes}
use Rattle.definitions.specs.Problem.Check.{Refused}
use Rattle.definitions.specs.Problem.Asked.{asked}
use Rattle.definitions.specs.Logic.{Interpretation, Valid, holds, ValidAt, holds_at, values, truth_at}
use Rattle.definitions.specs.Elimination.{eliminated, table_of, root_of}
use Rattle.definitions.specs.Ranges.{product}
use Rattle.definitions.specs.Places.{true_at}
use Rattle.definitions.specs.Verdict.{Outcome, valid, falsified, stopped, first_false, outcome_of}
use Rattle.definitions.specs.Witness.{tables_of, witness_at}
use Rattle.definitions.specs.Operations.Answers.{buffers_refusal, decide_refusal, given, unless, Decided, decided, decide_answer}
use Rattle.definitions.specs.Operations.Buffers.{over, unless_refused, work_after_decide, witness_written, witness_after}
use Rattle.definitions.specs.Operations.Readings.{refusal_read, decision_read}
use Rattle.definitions.specs.Operations.Promises.{DecidePromise}
use Rattle.definitions.specs.declared.Refusal.{Refusal}
use Rattle.definitions.specs.declared.Verdict.{Verdict}
use Rattle.definitions.specs.declared.Decision.{Decision}
use Rattle.theorems.specs.Conditions.{turn, Refuses, PassesTwelve, Passes}
use Rattle.theorems.specs.Searched.{Falsifiable, FalsifiableAt, table_truth, tried_of, tried_within, with_verdict, valid_answer, falsified_answer, stopped_answer}
use Rattle.theorems.proofs.Laws.Tests.{clash}
use Rattle.theorems.proofs.Accepted.{Accepted}
use Rattle.theorems.proofs.Exactly.{valid_sound, falsified_sound, stopped_sound, valid_exactly, falsified_exactly, stopped_exactly}
use Rattle.theorems.proofs.Search.Verdict.{count_of, tried_is}
use Rattle.theorems.proofs.Tables.Back.{table_back}
use Rattle.theorems.proofs.Truth.{root_truth, interpretation_of, assignment_of, assignment_truth, interpretation_truth}
use Rattle.theorems.proofs.Fits.{table_fits}
use Rattle.theorems.proofs.Taken.{Taken, laid_accepted, taken, given_taken, refused_taken}
use Rattle.theorems.proofs.Refusing.{passes, passes_twelve, refuses, refusal_named_lem}
use Rattle.theorems.proofs.Unique.{decision_apart}
use Rattle.theorems.proofs.Witness.Falsifies.{witness_truth}
use Rattle.theorems.proofs.Asked.Formed.{Named, asked_holds}

-- the decision that an outcome and the product make
abbrev pub decision_of : List ℕ → Outcome → Result Decision Refusal
decision_of s (valid t) = valid_answer t (product s)
decision_of s (falsified t) = falsified_answer t (product s) (length (witness_at s t))
decision_of s (stopped t) = stopped_answer t (product s)

pub decision_read_lem : (s : List ℕ) (o : Outcome) → decision_read (decision_of s o) ≡ given (decided s o)
decision_read_lem s (valid t) = refl
decision_read_lem s (falsified t) = refl
decision_read_lem s (stopped t) = refl

decision_tried : (s : List ℕ) (o : Outcome) → tried_of (decision_of s o) ≡ count_of o
decision_tried s (valid t) = refl
decision_tried s (falsified t) = refl
decision_tried s (stopped t) = refl

-- equal answers have equal parts
abbrev verdict_of : Result Decision Refusal → Verdict
verdict_of (Ok d) = d.verdict
verdict_of (Err x) = Verdict.Stopped

abbrev places_of : Result Decision Refusal → ℕ
places_of (Ok d) = d.product
places_of (Err x) = 0

parts : (v w : Verdict) (t u p q : ℕ) → with_verdict v t p ≡ with_verdict w u q → (v ≡ w) × (t ≡ u) × (q ≡ p)
parts v w t u p q e = (ap verdict_of e, ap tried_of e, sym (ap places_of e))

-- it tells the outcome
module _ (s : List ℕ) (tried places : ℕ) where
  says_valid : (o : Outcome) → decision_of s o ≡ valid_answer tried places → (o ≡ valid tried) × (places ≡ product s)
  says_valid (valid t) e = let h = parts _ _ _ _ _ _ e in (ap valid h.1, h.2)
  says_valid (falsified t) e = let h = (parts _ _ _ _ _ _ e).0 in clash (cc)
  says_valid (stopped t) e = let h = (parts _ _ _ _ _ _ e).0 in clash (cc)

  says_falsified : (written : ℕ) (o : Outcome) → decision_of s o ≡ falsified_answer tried places written
      → (o ≡ falsified tried) × (places ≡ product s) × (written ≡ length (witness_at s tried))
  says_falsified written (valid t) e = let h = (parts _ _ _ _ _ _ e).0 in clash (cc)
  says_falsified written (falsified t) e =
      let h = parts _ _ _ _ _ _ e in
      let v = h.0 in
      let n = h.1 in
      (ap falsified n, h.2, cc)
  says_falsified written (stopped t) e = let h = (parts _ _ _ _ _ _ e).0 in clash (cc)

  says_stopped : (o : Outcome) → decision_of s o ≡ stopped_answer tried places → (o ≡ stopped tried) × (places ≡ product s)
  says_stopped (valid t) e = let h = (parts _ _ _ _ _ _ e).0 in clash (cc)
  says_stopped (falsified t) e = let h = (parts _ _ _ _ _ _ e).0 in clash (cc)
  says_stopped (stopped t) e = let h = parts _ _ _ _ _ _ e in (ap stopped h.1, h.2)

-- what is said of the problem asked is said of the named root
module _ (s : List ℕ) (root : ℕ) (ok : Named s root) where
  valid_at : Valid (asked s root) ↔ ValidAt s root
  unfolding Valid ValidAt
  valid_at = (λ v I. sym (asked_holds s root ok I) ∙ v I, λ v I. asked_holds s root ok I ∙ v I)

  falsifiable_at : Falsifiable (asked s root) ↔ FalsifiableAt s root
  falsifiable_at = (λ f. (f.0, sym (asked_holds s root ok f.0) ∙ f.1), λ f. (f.0, asked_holds s root ok f.0 ∙ f.1))

module _
    (budget root : ℕ)
    (s work witness : List ℕ)
    (r : Result Decision Refusal)
    (work' witness' : List ℕ)
    (promise : DecidePromise budget root s work witness r work' witness') where
  -- the problem asked
  abbrev a : List ℕ
  a = asked s root

  abbrev refusal : Option Refused
  refusal = decide_refusal s root (length work) (length witness)

  abbrev found : Outcome
  found = outcome_of a budget

  -- the answer and the buffers, by what refuses
  answer_by : (o : Option Refused) → refusal ≡ o → decision_read r ≡ unless o (decided a found)
  unfolding decide_answer
  answer_by o e = promise.answers ∙ ap (λ (o : Option Refused). unless o (decided a found)) e

  witness_by : (o : Option Refused) → refusal ≡ o → witness' ≡ unless_refused o witness (witness_written a found witness)
  unfolding witness_after
  witness_by o e = promise.witness_after_is ∙ ap (λ (o : Option Refused). unless_refused o witness (witness_written a found witness)) e

  work_by : (o : Option Refused) → buffers_refusal s root (length work) (length witness) ≡ o
      → work' ≡ unless_refused o work (over (table_bytes (table_of a)) work)
  unfolding work_after_decide
  work_by o e = promise.work_after_is ∙ ap (λ (o : Option Refused). unless_refused o work (over (table_bytes (table_of a)) work)) e

  -- a refusal comes exactly where it refuses
  refusal_is : (x : Refusal) → (r ≡ Err x) ↔ (refusal ≡ some (refusal_read x))
  refusal_is x = (
    λ e. refused_taken refusal (decided a found) (refusal_read x) (sym (ap decision_read e) ∙ answer_by refusal refl),
    λ e. decision_apart r (Err x) (answer_by (some (refusal_read x)) e),
  )

  pub refused_exactly : (x : Refusal) → (r ≡ Err x) ↔ Refuses s root (length work) (length witness) x
  refused_exactly x =
      let c = refuses s root (length work) (length witness) x in
      (λ e. c.0 ((refusal_is x).0 e), λ m. (refusal_is x).1 (c.1 m))

  -- what it leaves
  table_laid : PassesTwelve s root (length work) (length witness) → work' ≡ over (table_bytes (table_of a)) work
  table_laid p = work_by none ((passes_twelve s root (length work) (length witness)).1 p)

  work_kept : (x : Refusal) → r ≡ Err x → turn x ≤ 12 → work' ≡ work
  work_kept x e l = go (buffers_refusal s root (length work) (length witness)) refl
    where
      go : (o : Option Refused) → buffers_refusal s root (length work) (length witness) ≡ o → work' ≡ work
      go (some q) b = work_by (some q) b
      go none b = absurd ((passes_twelve s root (length work) (length witness)).0 b x l ((refused_exactly x).0 e).0)

  pub refused_leaves : (x : Refusal) → r ≡ Err x
      → (witness' ≡ witness) × (turn x ≤ 12 → work' ≡ work) × (turn x ≡ 13 → work' ≡ over (table_bytes (table_of a)) work)
  refused_leaves x e = (
    witness_by (some (refusal_read x)) ((refusal_is x).0 e),
    work_kept x e,
    λ n. table_laid (λ y l m. ((refused_exactly x).0 e).1 y (omega arith) m),
  )

  -- the table read back from the work buffer is the elimination's, which has the truth of the original formula both ways
  pub table_both_ways : PassesTwelve s root (length work) (length witness)
      → (work' ≡ over (table_bytes (table_of a)) work)
      × ((A : Interpretation) → (I : Interpretation) × (holds_at I s root ≡ table_truth a work' A))
      × ((I : Interpretation) → (A : Interpretation) × (table_truth a work' A ≡ holds_at I s root))
  table_both_ways p =
      let both = laid_accepted s root (length work) (length witness) ((passes_twelve s root (length work) (length witness)).1 p) in
      let ok = both.1 in
      let at = asked_holds s root both.0 in
      let back : nodes_at work' 0 (length (table_of a)) ≡ table_of a =
      ap (λ (w : List ℕ). nodes_at w 0 (length (table_of a))) (table_laid p) ∙ table_back (table_of a) (table_fits a ok) work
      in
      let same : (A : Interpretation) → root_truth a A ≡ table_truth a work' A =
      λ A. ap (λ (t : List Node). truth_at (values A [] t) (root_of (eliminated a))) (sym back)
      in (
        table_laid p,
        λ A. (interpretation_of a ok A, sym (at (interpretation_of a ok A)) ∙ assignment_truth a ok A ∙ same A),
        λ I. (assignment_of a ok I, sym (same (assignment_of a ok I)) ∙ interpretation_truth a ok I ∙ at I),
      )

  -- an answer that is no refusal comes exactly where nothing refuses
  given_free : (d : Decided) → decision_read r ≡ given d → refusal ≡ none
  given_free d e = (given_taken refusal (decided a found) d (sym e ∙ answer_by refusal refl)).0

  pub taken_input : (d : Decided) → decision_read r ≡ given d → Taken s root (length work) (length witness)
  taken_input d e = taken s root (length work) (length witness) (given_free d e)

  pub taken_exactly : ((x : Refusal) → r ≡ Err x → ⊥) ↔ Passes s root (length work) (length witness)
  taken_exactly = (
    λ n. (passes s root (length work) (length witness)).0 (go n refusal refl),
    λ p x e. p x ((refused_exactly x).0 e).0,
  )
    where
      go : ((x : Refusal) → r ≡ Err x → ⊥) → (o : Option Refused) → refusal ≡ o → o ≡ none
      go n none e = refl
      go n (some q) e =
          let x = refusal_named_lem s root (length work) (length witness) q e in
          absurd (n x.0 ((refusal_is x.0).1 (e ∙ ap some (sym x.1))))

  -- where nothing refuses, the answer and the witness buffer are those of the outcome
  module _ (free : refusal ≡ none) where
    problem : Accepted a
    problem = (taken s root (length work) (length witness) free).problem

    names : Named s root
    names = (taken s root (length work) (length witness) free).names

    pub decision_is : r ≡ decision_of a found
    decision_is = decision_apart r (decision_of a found) (answer_by none free ∙ sym (decision_read_lem a found))

    witness_is : (o : Outcome) → found ≡ o → witness' ≡ witness_written a o witness
    witness_is o e = witness_by none free ∙ ap (λ (o : Outcome). witness_written a o witness) e

  pub valid_decision : (tried places : ℕ) → r ≡ valid_answer tried places
      → (places ≡ product a) × (tried ≡ product a) × (product a ≤ budget) × ValidAt s root × (witness' ≡ witness)
  valid_decision tried places e =
      let free = given_free _ (ap decision_read e) in
      let o = says_valid a tried places found (sym (decision_is free) ∙ e) in
      let v = valid_sound a (problem free) budget tried o.0 in
      (o.1, v.0, v.1, (valid_at s root (names free)).0 v.2, witness_is free (valid tried) o.0)

  pub falsified_decision : (tried places written : ℕ) → r ≡ falsified_answer tried places written
      → (places ≡ product a) × (1 ≤ tried) × (tried ≤ product a) × (tried ≤ budget)
      × (true_at a tried ≡ false) × ((p : ℕ) → 1 ≤ p → p < tried → true_at a p ≡ true)
      × (holds_at (tables_of witness') s root ≡ false)
      × (written ≡ length (witness_at a tried)) × (witness' ≡ over (witness_at a tried) witness)
  falsified_decision tried places written e =
      let free = given_free _ (ap decision_read e) in
      let o = says_falsified a tried places written found (sym (decision_is free) ∙ e) in
      let f = falsified_sound a (problem free) budget tried o.0 in
      let w = witness_is free (falsified tried) o.0 in (
        o.1,
        f.1.low,
        f.1.high,
        f.0,
        f.1.fails,
        f.1.before,
        sym (asked_holds s root (names free) (tables_of witness'))
            ∙ ap (λ (w : List ℕ). holds (tables_of w) a) w
            ∙ witness_truth a (problem free) tried (drop (length (witness_at a tried)) witness)
            ∙ f.1.fails,
        o.2,
        w,
      )

  pub stopped_decision : (tried places : ℕ) → r ≡ stopped_answer tried places
      → (places ≡ product a) × (tried ≡ budget) × (budget < product a) × ((p : ℕ) → 1 ≤ p → p ≤ budget → true_at a p ≡ true)
      × (witness' ≡ witness)
  stopped_decision tried places e =
      let free = given_free _ (ap decision_read e) in
      let o = says_stopped a tried places found (sym (decision_is free) ∙ e) in
      let v = stopped_sound a (problem free) budget tried o.0 in
      (o.1, v.0, v.1, v.2, witness_is free (stopped tried) o.0)

  module _ (p : Passes s root (length work) (length witness)) where
    free : refusal ≡ none
    free = (passes s root (length work) (length witness)).1 p

    pub valid_decided : product a ≤ budget → (r ≡ valid_answer (product a) (product a)) ↔ ValidAt s root
    valid_decided h = (
      λ e. (valid_decision (product a) (product a) e).3,
      λ v. decision_is free ∙ ap (decision_of a) ((valid_exactly a (problem free) budget h).1 ((valid_at s root (names free)).1 v)),
    )

    pub falsified_decided : product a ≤ budget
        → ((tried written : ℕ) × (r ≡ falsified_answer tried (product a) written)) ↔ FalsifiableAt s root
    falsified_decided h = (
      λ e.
          let o = says_falsified a e.0 (product a) e.1 found (sym (decision_is free) ∙ e.2) in
          (falsifiable_at s root (names free)).0 (falsified_sound a (problem free) budget e.0 o.0).2,
      λ f.
          let t = (falsified_exactly a (problem free) budget h).1 ((falsifiable_at s root (names free)).1 f) in
          (t.0, length (witness_at a t.0), decision_is free ∙ ap (decision_of a) t.1),
    )

    pub stopped_decided : budget < product a
        → (r ≡ stopped_answer budget (product a)) ↔ ((p : ℕ) → 1 ≤ p → p ≤ budget → true_at a p ≡ true)
    stopped_decided h = (
      λ e. (stopped_decision budget (product a) e).3,
      λ all. decision_is free ∙ ap (decision_of a) ((stopped_exactly a (problem free) budget h).1 all),
    )

    pub tried_decided : tried_of r ≡ tried_within budget (product a) (first_false (true_at a) 1 (product a))
    unfolding outcome_of
    tried_decided = ap tried_of (decision_is free) ∙ decision_tried a found ∙ tried_is (true_at a) budget (product a)
