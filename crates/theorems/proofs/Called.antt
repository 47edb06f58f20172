-- What the host's promise says of the 32 bytes, case by case: the lemmas below HostTop. Assumes nothing.
use mathlib.Core.Path.{◌≡◌, refl, sym, ap, ◌∙◌, subst}
use Prim.Native.Nat.{ℕ, zero, suc, ◌/◌, ◌^◌, ◌≤◌, ◌<◌}
use native.Mathlib.Omega.{arith}
use native.Mathlib.Nat.{pow-suc}
use mathlib.Core.Bool.{Bool, true, false}
use mathlib.Core.List.{List}
use mathlib.Core.Logic.{◌↔◌}
use mathlib.Core.Option.{Option, none, some}
use lib.ListN.{length, drop}
use lib.Dec.{ltb}
use borrow.Author.Tests.{lt-ltb, le-ltb}
use Rattle.std.specs.Prelude.{Result, Ok, Err}
use Rattle.definitions.specs.Bytes.{low_first, bytes_of, two, two_at}
use Rattle.definitions.specs.Problem.Node.{table_bytes}
use Rattle.definitions.specs.Problem.Check.{Refused}
use Rattle.definitions.specs.Problem.Asked.{asked}
use Rattle.definitions.specs.Logic.{ValidAt, holds_at}
use Rattle.definitions.specs.Elimination.{table_of}
use Rattle.definitions.specs.Ranges.{product}
use Rattle.definitions.specs.Places.{true_at}
use Rattle.definitions.specs.Verdict.{outcome_of}
use Rattle.definitions.specs.Witness.{tables_of, witness_at}
use Rattle.definitions.specs.Operations.Answers.{Answer, decide_refusal, refused, given, unless, Decided, decided, decide_answer}
use Rattle.definitions.specs.Operations.Buffers.{over, work_after_decide, witness_after}
use Rattle.definitions.specs.Operations.Readings.{decision_read}
use Rattle.definitions.specs.Operations.Host.{answer_bytes, HostOutcome, host_outcome}
use Rattle.definitions.specs.Operations.Promises.{DecidePromise, HostPromise}
use Rattle.definitions.specs.declared.Refusal.{Refusal}
use Rattle.definitions.specs.declared.Verdict.{Verdict}
use Rattle.definitions.specs.declared.Decision.{Decision}
use Rattle.theorems.specs.Conditions.{number, place, turn, Refuses, Passes}
use Rattle.theorems.specs.Searched.{FalsifiableAt, with_verdict, valid_answer, falsified_answer, stopped_answer}
use Rattle.theorems.specs.Called.{verdict_in, refusal_in, written_in, place_in, tried_in, product_in}
use Rattle.theorems.proofs.Tables.Back.{two_back}
use Rattle.theorems.proofs.Refusing.{refusal_named_lem, place_small}
use Rattle.theorems.proofs.Taken.{Taken}
use Rattle.theorems.proofs.Witness.Falsifies.{witness_short}
use Rattle.theorems.proofs.Decided.{decision_of, decision_read_lem, refused_exactly, refused_leaves, taken_input, valid_decision, falsified_decision, stopped_decision, valid_decided, falsified_decided}

-- a number that fits its bytes is read back from them
pub bytes_back : (k n : ℕ) → n < 256 ^ k → low_first (bytes_of k n) ≡ n
bytes_back zero n h = omega arith
bytes_back (suc k) n h =
    let e = pow-suc 256 k in
    let r = bytes_back k (n / 256) (omega arith) in
    omega arith

-- some decision is decide's, whatever the input
pub decides : (s : List ℕ) (root budget work room : ℕ) → (d : Result Decision Refusal) × (decision_read d ≡ decide_answer s root budget work room)
unfolding decide_answer
decides s root budget work room = go (decide_refusal s root work room) refl
  where
    go : (o : Option Refused) → decide_refusal s root work room ≡ o
        → (d : Result Decision Refusal) × (decision_read d ≡ unless o (decided (asked s root) (outcome_of (asked s root) budget)))
    go none e = (decision_of (asked s root) (outcome_of (asked s root) budget), decision_read_lem (asked s root) (outcome_of (asked s root) budget))
    go (some q) e =
        let x = refusal_named_lem s root work room q e in
        (Err x.0, ap refused x.1)

module _
    (budget root : ℕ)
    (s work witness answer : List ℕ)
    (r : ℕ)
    (work' witness' answer' : List ℕ)
    (promise : HostPromise budget root s work witness answer r work' witness' answer') where
  -- the problem asked
  abbrev a : List ℕ
  a = asked s root

  abbrev outcome_by : Bool → HostOutcome
  outcome_by b =
      elim b [
        | true ↦ record { returned = 0; work = work; witness = witness; answer = answer }
        | false ↦
            record {
              returned = 1;
              work = work_after_decide s root work (length witness);
              witness = witness_after s root budget (length work) witness;
              answer = over (answer_bytes (decide_answer s root budget (length work) (length witness))) answer;
            }
      ]

  outcome_by_lem : (b : Bool) → ltb (length answer) 32 ≡ b → host_outcome budget root s work witness answer ≡ outcome_by b
  unfolding host_outcome
  outcome_by_lem b e = ap outcome_by e

  -- a buffer that is too short is told by 0, and nothing is changed
  pub short_call : length answer < 32 → (r ≡ 0) × (work' ≡ work) × (witness' ≡ witness) × (answer' ≡ answer)
  short_call h =
      let o = outcome_by_lem true (lt-ltb (length answer) 32 h) in (
        promise.returns ∙ ap (λ (x : HostOutcome). x.returned) o,
        promise.work_after_is ∙ ap (λ (x : HostOutcome). x.work) o,
        promise.witness_after_is ∙ ap (λ (x : HostOutcome). x.witness) o,
        promise.answer_after ∙ ap (λ (x : HostOutcome). x.answer) o,
      )

  -- in a longer one stand the bytes of a decision that is decide's, and then what stood there
  pub long_call : 32 ≤ length answer
      → (d : Result Decision Refusal) × DecidePromise budget root s work witness d work' witness'
      × (answer' ≡ over (answer_bytes (decision_read d)) answer) × (r ≡ 1)
  long_call h =
      let o = outcome_by_lem false (le-ltb (length answer) 32 h) in
      let d = decides s root budget (length work) (length witness) in (
        d.0,
        record {
          answers = d.1;
          work_after_is = promise.work_after_is ∙ ap (λ (x : HostOutcome). x.work) o;
          witness_after_is = promise.witness_after_is ∙ ap (λ (x : HostOutcome). x.witness) o;
        },
        promise.answer_after ∙ ap (λ (x : HostOutcome). x.answer) o
            ∙ ap (λ (a : Answer Decided). over (answer_bytes a) answer) (sym d.1),
        promise.returns ∙ ap (λ (x : HostOutcome). x.returned) o,
      )

  -- what byte 0 tells
  abbrev pub Told : ℕ → Type 0
  Told zero =
      (x : Refusal) × (refusal_in answer' ≡ number x) × (place_in answer' ≡ place x) × Refuses s root (length work) (length witness) x
      × (witness' ≡ witness) × (turn x ≤ 12 → work' ≡ work) × (turn x ≡ 13 → work' ≡ over (table_bytes (table_of a)) work)
  Told (suc zero) =
      (product_in answer' ≡ product a) × (tried_in answer' ≡ product a) × (product a ≤ budget) × ValidAt s root × (witness' ≡ witness)
  Told (suc (suc zero)) =
      (product_in answer' ≡ product a) × (1 ≤ tried_in answer') × (tried_in answer' ≤ product a) × (tried_in answer' ≤ budget)
      × (true_at a (tried_in answer') ≡ false) × ((p : ℕ) → 1 ≤ p → p < tried_in answer' → true_at a p ≡ true)
      × (holds_at (tables_of witness') s root ≡ false)
      × (written_in answer' ≡ length (witness_at a (tried_in answer')))
      × (witness' ≡ over (witness_at a (tried_in answer')) witness)
  Told (suc (suc (suc zero))) =
      (product_in answer' ≡ product a) × (tried_in answer' ≡ budget) × (budget < product a)
      × ((p : ℕ) → 1 ≤ p → p ≤ budget → true_at a p ≡ true) × (witness' ≡ witness)
  Told (suc (suc (suc (suc n)))) = ⊥

  -- eight bytes are enough for the numbers of an answer
  module _ (d : Result Decision Refusal) (decide : DecidePromise budget root s work witness d work' witness') (values : Decided) (e : decision_read d ≡ given values) where
    input : Taken s root (length work) (length witness)
    input = taken_input budget root s work witness d work' witness' decide values e

    eight_back : (n : ℕ) → n ≤ product a → low_first (bytes_of 8 n) ≡ n
    eight_back n h = let l = input.product_small in bytes_back 8 n (omega arith)

    written_back : (p : ℕ) → two_at (two (length (witness_at a p))) 0 ≡ length (witness_at a p)
    written_back p = let l = witness_short a input.problem p in two_back (length (witness_at a p)) (omega arith)

  told_verdict : (v : Verdict) (t p : ℕ) → DecidePromise budget root s work witness (with_verdict v t p) work' witness'
      → answer' ≡ over (answer_bytes (decision_read (with_verdict v t p))) answer → Told (verdict_in answer')
  told_verdict Verdict.Valid t p decide e =
      let v = valid_decision budget root s work witness (valid_answer t p) work' witness' decide t p refl in
      let back = eight_back (valid_answer t p) decide _ refl in
      subst Told (sym (ap verdict_in e)) (
        ap product_in e ∙ back p (omega arith) ∙ v.0,
        ap tried_in e ∙ back t (omega arith) ∙ v.1,
        v.2,
        v.3,
        v.4,
      )
  told_verdict (Verdict.Falsified w) t p decide e =
      let f = falsified_decision budget root s work witness (falsified_answer t p w) work' witness' decide t p w refl in
      let back = eight_back (falsified_answer t p w) decide _ refl in
      let count : tried_in answer' ≡ t = ap tried_in e ∙ back t f.2 in
      subst Told (sym (ap verdict_in e)) (
        ap product_in e ∙ back p (omega arith) ∙ f.0,
        omega (arith, f.1),
        omega (arith, f.2),
        omega (arith, f.3),
        ap (true_at a) count ∙ f.4,
        λ q l h. f.5 q l (omega arith),
        f.6,
        ap written_in e ∙ ap (λ n. two_at (two n) 0) f.7 ∙ written_back (falsified_answer t p w) decide _ refl t
            ∙ ap (λ n. length (witness_at a n)) (sym count),
        f.8 ∙ ap (λ n. over (witness_at a n) witness) (sym count),
      )
  told_verdict Verdict.Stopped t p decide e =
      let v = stopped_decision budget root s work witness (stopped_answer t p) work' witness' decide t p refl in
      let back = eight_back (stopped_answer t p) decide _ refl in
      subst Told (sym (ap verdict_in e)) (
        ap product_in e ∙ back p (omega arith) ∙ v.0,
        ap tried_in e ∙ back t (omega arith) ∙ v.1,
        v.2,
        v.3,
        v.4,
      )

  told_by : (d : Result Decision Refusal) → DecidePromise budget root s work witness d work' witness' → answer' ≡ over (answer_bytes (decision_read d)) answer
      → Told (verdict_in answer')
  told_by (Ok d) decide e = told_verdict d.verdict d.tried d.product decide e
  told_by (Err x) decide e =
      let c = (refused_exactly budget root s work witness (Err x) work' witness' decide x).0 refl in
      let l = refused_leaves budget root s work witness (Err x) work' witness' decide x refl in
      let small = place_small s root (length work) (length witness) x c in
      subst Told (sym (ap verdict_in e)) (x, ap refusal_in e, ap place_in e ∙ bytes_back 8 (place x) (omega arith), c, l.0, l.1, l.2)

  pub told : 32 ≤ length answer → Told (verdict_in answer')
  told h = let c = long_call h in told_by c.0 c.1 c.2

  told_code : (n : ℕ) → Told n → n ≤ 3
  told_code zero t = omega arith
  told_code (suc zero) t = omega arith
  told_code (suc (suc zero)) t = omega arith
  told_code (suc (suc (suc zero))) t = omega arith
  told_code (suc (suc (suc (suc n)))) t = absurd t

  past_bytes : (a : Answer Decided) → drop 32 (over (answer_bytes a) answer) ≡ drop 32 answer
  past_bytes (refused x) = refl
  past_bytes (given d) = refl

  pub past_answer : 32 ≤ length answer → (r ≡ 1) × (verdict_in answer' ≤ 3) × (drop 32 answer' ≡ drop 32 answer)
  past_answer h =
      let c = long_call h in
      (c.3, told_code (verdict_in answer') (told h), ap (drop 32) c.2 ∙ past_bytes (decision_read c.0))

  -- with a budget of at least the product
  pub told_enough : 32 ≤ length answer → Passes s root (length work) (length witness) → product a ≤ budget
      → ((verdict_in answer' ≡ 1) ↔ ValidAt s root) × ((verdict_in answer' ≡ 2) ↔ FalsifiableAt s root)
  told_enough h p enough =
      let c = long_call h in
      let d = c.0 in
      let byte : (q : Result Decision Refusal) → d ≡ q → verdict_in answer' ≡ verdict_in (over (answer_bytes (decision_read q)) answer) =
      λ q e. ap verdict_in c.2 ∙ ap (λ (q : Result Decision Refusal). verdict_in (over (answer_bytes (decision_read q)) answer)) e
      in (
        (
          λ e. (subst Told e (told h)).3,
          λ v. byte (valid_answer (product a) (product a)) ((valid_decided budget root s work witness d work' witness' c.1 p enough).1 v),
        ),
        (
          λ e. (tables_of witness', (subst Told e (told h)).6),
          λ f.
              let q = (falsified_decided budget root s work witness d work' witness' c.1 p enough).1 f in
              byte (falsified_answer q.0 (product a) q.1) q.2,
        ),
      )
