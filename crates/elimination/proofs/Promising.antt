-- From what 9 and 10 answer on the problem asked to what the operations that lay the table promise. Such a refusal is theirs too; then a
-- work buffer that is too short is refused; where neither is, the problem asked is accepted. A refusal leaves the work buffer as it was.
-- Assumes nothing.
use mathlib.Core.Path.{◌≡◌, refl, sym, ap, ap₂, ◌∙◌}
use Prim.Native.Nat.{ℕ, ◌-◌, ◌≤◌, ◌<◌}
use native.Mathlib.Omega.{arith}
use mathlib.Core.List.{List}
use mathlib.Core.Option.{Option, none, some}
use lib.ListN.{length, get_or}
use lib.Seq.{get_or-take, take_all}
use borrow.Author.Tests.{lt-ltb, le-ltb}
use Rattle.std.specs.Prelude.{Ok, Err}
use Rattle.definitions.specs.Problem.Node.{table_bytes}
use Rattle.definitions.specs.Problem.Check.{node_count, symbols_of, nodes_of, predicates_in}
use Rattle.definitions.specs.Problem.Check.{Refused, refuse}
use Rattle.definitions.specs.Problem.Asked.{asked, ask_refusal, limit_refusal, refusal_of}
use Rattle.definitions.specs.Elimination.{State, begin, steps, eliminated, table_of, root_of}
use Rattle.definitions.specs.Operations.Answers.{refused, given, unless, Counts, counts, laid, eliminate_refusal, eliminate_answer}
use Rattle.definitions.specs.Operations.Buffers.{over, unless_refused, work_after}
use Rattle.definitions.specs.Operations.Readings.{refusal_read}
use Rattle.definitions.specs.Operations.Promises.{EliminatePromise}
use Rattle.definitions.specs.declared.Refusal.{Refusal}
use Rattle.definitions.specs.declared.Counts as declared
use Rattle.theorems.specs.Asking.{Asks}
use Rattle.theorems.proofs.Accepted.{Formed, Accepted, accept_limits}
use Rattle.theorems.proofs.Asked.Asks.{asks_refusal}
use Rattle.asked.specs.Asking.{Counted}
use Rattle.asked.proofs.Asking.{root_refused}
use Rattle.elimination.specs.State.{state_at, AllLaid}
use Rattle.elimination.specs.declared.laid.Laid.{Laid}
use Rattle.elimination.proofs.Prefix.{nodes_length, state_images}

-- an answer that is a refusal, or values, tells whether there was a refusal
module _ {A : Type 0} (v : A) where
  refusal_told : (o : Option Refused) (r : Refused) → refused r ≡ unless o v → o ≡ some r
  refusal_told (some x) r e = cc
  refusal_told none r e = absurd (let z : ◌≡◌ {A = ℕ} 0 1 = cc in omega arith)

  none_told : (o : Option Refused) (u : A) → given u ≡ unless o v → o ≡ none
  none_told (some x) u e = absurd (let z : ◌≡◌ {A = ℕ} 0 1 = cc in omega arith)
  none_told none u e = refl

  values_told : (o : Option Refused) (u : A) → given u ≡ unless o v → u ≡ v
  values_told (some x) u e = absurd (let z : ◌≡◌ {A = ℕ} 0 1 = cc in omega arith)
  values_told none u e = cc

-- what 9 and 10 have answered on the problem asked: a refusal, or its counts
pub refused_by : {a : List ℕ} {r : Refusal} → Counted a (Err r) → limit_refusal a ≡ some (refusal_read r)
refused_by {a} {r} p = refusal_told _ (limit_refusal a) (refusal_read r) p.answers

module _ {a : List ℕ} {n : declared.Counts} (p : Counted a (Ok n)) where
  pub not_refused : limit_refusal a ≡ none
  not_refused = none_told _ (limit_refusal a) _ p.answers

  pub is_accepted : Formed a → Accepted a
  is_accepted formed = accept_limits a formed not_refused

  told : record { functions = n.functions; predicates = n.predicates } ≡ counts a
  told = values_told _ (limit_refusal a) _ p.answers

  pub predicates_answered : n.predicates ≡ predicates_in (nodes_of a)
  predicates_answered = ap (λ (c : Counts). c.predicates) told

-- refusals 1 to 7, 16, 9, 10 and 11
pub refused_first : (s : List ℕ) (root work : ℕ) (r : Refused) → refusal_of s root ≡ some r → eliminate_refusal s root work ≡ some r
unfolding eliminate_refusal
refused_first s root work r e = rw e

pub refused_root : (s : List ℕ) (root work : ℕ) (r : Refused) → ask_refusal s root ≡ some r → eliminate_refusal s root work ≡ some r
refused_root s root work r e = refused_first s root work r (root_refused s root r e)

module _ {s : List ℕ} {root : ℕ} {a : List ℕ} (A : Asks s root a) (work : ℕ) where
  pub refused_limit : (r : Refused) → limit_refusal a ≡ some r → eliminate_refusal s root work ≡ some r
  refused_limit r e = refused_first s root work r (asks_refusal A ∙ e)

  pub refused_short : limit_refusal a ≡ none → work < 21056 → eliminate_refusal s root work ≡ some (refuse 11 0)
  unfolding eliminate_refusal
  refused_short e h = rw (asks_refusal A ∙ e, lt-ltb work 21056 h)

  pub taken : limit_refusal a ≡ none → 21056 ≤ work → eliminate_refusal s root work ≡ none
  unfolding eliminate_refusal
  taken e h = rw (asks_refusal A ∙ e, le-ltb work 21056 h)

-- what a refusal among them leaves, and what is left where there is none
module _ (s : List ℕ) (root : ℕ) (work : List ℕ) where
  pub work_kept : (r : Refused) → eliminate_refusal s root (length work) ≡ some r → work ≡ work_after s root work
  unfolding work_after
  work_kept r e = rw e

  refusal_answered : (r : Refused) → eliminate_refusal s root (length work) ≡ some r → refused r ≡ eliminate_answer s root (length work)
  unfolding eliminate_answer
  refusal_answered r e = rw e

  pub refusal_promised : {r : Refusal} → eliminate_refusal s root (length work) ≡ some (refusal_read r)
      → EliminatePromise root s work (Err r) work
  refusal_promised e = record { answers = refusal_answered _ e; work_after_is = work_kept _ e }

module _ {s : List ℕ} {root : ℕ} {a : List ℕ} (A : Asks s root a) (work : List ℕ) (e : eliminate_refusal s root (length work) ≡ none) where
  pub work_laid : over (table_bytes (table_of a)) work ≡ work_after s root work
  unfolding work_after
  work_laid =
      ap (λ (b : List ℕ). over (table_bytes (table_of b)) work) (sym A.problem)
      ∙ sym (ap (λ (o : Option Refused). unless_refused o work (over (table_bytes (table_of (asked s root))) work)) e)

  table_answered : given (laid a) ≡ eliminate_answer s root (length work)
  unfolding eliminate_answer
  table_answered =
      ap (λ (b : List ℕ). given (laid b)) (sym A.problem)
      ∙ sym (ap (λ (o : Option Refused). unless o (laid (asked s root))) e)

  pub table_promised : {nodes image : ℕ} {work' : List ℕ} → nodes ≡ length (table_of a) → image ≡ root_of (eliminated a)
      → work' ≡ over (table_bytes (table_of a)) work → EliminatePromise root s work (Ok (record { nodes = nodes; root = image })) work'
  table_promised n r w =
      record {
        answers = ap₂ (λ (x y : ℕ). given (record { nodes = x; root = y })) n r ∙ table_answered;
        work_after_is = w ∙ work_laid;
      }

-- the whole table of an accepted problem, as the code has it
module _ (s : List ℕ) (ok : Accepted s) where
  pub whole_state : state_at s (node_count s) ≡ eliminated s
  unfolding eliminated
  whole_state =
      let l = nodes_length s ok in
      ap (steps (symbols_of s) begin) (take_all (node_count s) (nodes_of s) (omega arith))

  module _ {work work' : List ℕ} {l : Laid} (all : AllLaid s work l work') where
    pub nodes_laid_lem : l.nodes ≡ length (table_of s)
    nodes_laid_lem = all.laid.nodes_are ∙ ap (λ (F : State). length F.out) whole_state

    pub table_laid : work' ≡ over (table_bytes (table_of s)) work
    table_laid = all.work_after_is ∙ ap (λ (F : State). over (table_bytes F.out) work) whole_state

    pub root_laid : get_or l.images (node_count s - 1) 0 ≡ root_of (eliminated s)
    root_laid =
        let n = node_count s in
        let some-node = ok.layout.some_nodes in
        let many = state_images s ok n (omega arith) in
        let last : n - 1 ≡ length (state_at s n).images - 1 = omega arith in
        sym (get_or-take n l.images (n - 1) 0 (omega arith))
        ∙ ap₂ (λ (is : List ℕ) (j : ℕ). get_or is j 0) all.laid.images_are last
        ∙ ap root_of whole_state
