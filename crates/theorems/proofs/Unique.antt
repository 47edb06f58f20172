-- No second answer or buffer content meets a promise: the readings of the answers can be undone, and the rest of each
-- promise is an equation. Assumes nothing.
use mathlib.Core.Path.{◌≡◌, refl, sym, ap, ◌∙◌}
use Prim.Native.Nat.{ℕ}
use mathlib.Core.List.{List, [], ◌∷◌}
use mathlib.Core.Bool.{true, false}
use lib.Dec.{eqb}
use Rattle.std.specs.Prelude.{Result, Ok, Err}
use Rattle.definitions.specs.Problem.Check.{Refused}
use Rattle.definitions.specs.Operations.Answers.{
  Answer,
  refused,
  given,
  RangesAnswer,
  isValid,
  isFalsified,
  isStopped,
  Decided,
}
use Rattle.definitions.specs.Operations.Answers as paper
use Rattle.definitions.specs.Operations.Readings.{
  refusal_read,
  checked_read,
  eliminated_read,
  ranges_read,
  verdict_read,
  written_read,
  decision_read,
  reading_read,
}
use Rattle.definitions.specs.Operations.Promises.{
  CheckPromise,
  EliminatePromise,
  RangesPromise,
  DecidePromise,
  HostPromise,
  ReadPromise,
  HostReadPromise,
}
use Rattle.definitions.specs.declared.Refusal.{Refusal}
use Rattle.definitions.specs.declared.Refusal.TheVariants.{
  TooShort,
  NotEqp,
  BadVersion,
  BadCounts,
  BadLength,
  BadSymbol,
  BadNode,
  ManyFunctions,
  ManyPredicates,
  ShortWork,
  ShortWitness,
  BigProduct,
  WrongToken,
  TooDeep,
  WrongRoot,
  ShortProblem,
}
use Rattle.definitions.specs.declared.Counts.{Counts}
use Rattle.definitions.specs.declared.Table.{Table}
use Rattle.definitions.specs.declared.Ranges.{Ranges}
use Rattle.definitions.specs.declared.Verdict.{Verdict}
use Rattle.definitions.specs.declared.Decision.{Decision}

-- a reading that can be undone tells its values apart
apart : {A B : Type 0} (read : A → B) (undo : B → A) → ((x : A) → undo (read x) ≡ x) → (x y : A) → read x ≡ read y → x ≡ y
apart read undo back x y e = sym (back x) ∙ ap undo e ∙ back y

-- the refusals by number, with their place; the numbers have gaps
abbrev by_number : ℕ → List (ℕ × Refusal)
by_number k =
    (1, TooShort)
    ∷ (2, NotEqp)
    ∷ (3, BadVersion)
    ∷ (4, BadCounts)
    ∷ (5, BadLength)
    ∷ (6, BadSymbol k)
    ∷ (7, BadNode k)
    ∷ (9, ManyFunctions)
    ∷ (10, ManyPredicates)
    ∷ (11, ShortWork)
    ∷ (12, ShortWitness)
    ∷ (13, BigProduct)
    ∷ (14, WrongToken k)
    ∷ (15, TooDeep k)
    ∷ (16, WrongRoot)
    ∷ []

-- the one of a number; past the list, the last
abbrev named : ℕ → List (ℕ × Refusal) → Refusal
named n [] = ShortProblem
named n (x ∷ xs) = elim (eqb x.0 n) [ true ↦ x.1 | false ↦ named n xs ]

abbrev refusal_named : Refused → Refusal
refusal_named r = named r.number (by_number r.place)

refusal_back : (r : Refusal) → refusal_named (refusal_read r) ≡ r
refusal_back TooShort = refl
refusal_back NotEqp = refl
refusal_back BadVersion = refl
refusal_back BadCounts = refl
refusal_back BadLength = refl
refusal_back (BadSymbol k) = refl
refusal_back (BadNode k) = refl
refusal_back ManyFunctions = refl
refusal_back ManyPredicates = refl
refusal_back ShortWork = refl
refusal_back ShortWitness = refl
refusal_back BigProduct = refl
refusal_back (WrongToken k) = refl
refusal_back (TooDeep k) = refl
refusal_back WrongRoot = refl
refusal_back ShortProblem = refl

abbrev checked_named : Answer paper.Counts → Result Counts Refusal
checked_named (refused r) = Err (refusal_named r)
checked_named (given c) = Ok (record { functions = c.functions; predicates = c.predicates })

checked_back : (r : Result Counts Refusal) → checked_named (checked_read r) ≡ r
checked_back (Ok c) = refl
checked_back (Err r) = ap (λ (x : Refusal). Err x) (refusal_back r)

abbrev eliminated_named : Answer paper.Table → Result Table Refusal
eliminated_named (refused r) = Err (refusal_named r)
eliminated_named (given t) = Ok (record { nodes = t.nodes; root = t.root })

eliminated_back : (r : Result Table Refusal) → eliminated_named (eliminated_read r) ≡ r
eliminated_back (Ok t) = refl
eliminated_back (Err r) = ap (λ (x : Refusal). Err x) (refusal_back r)

abbrev measure_named : List ℕ → Answer paper.Measure → Result Ranges Refusal
measure_named tops (refused r) = Err (refusal_named r)
measure_named tops (given m) = Ok (record { tops = tops; truths = m.truths; product = m.product })

abbrev ranges_named : RangesAnswer → Result Ranges Refusal
ranges_named a = measure_named a.tops a.answer

ranges_back : (r : Result Ranges Refusal) → ranges_named (ranges_read r) ≡ r
ranges_back (Ok r) = refl
ranges_back (Err r) = ap (λ (x : Refusal). Err x) (refusal_back r)

abbrev verdict_named : paper.Verdict → ℕ → Verdict
verdict_named isValid written = Verdict.Valid
verdict_named isFalsified written = Verdict.Falsified written
verdict_named isStopped written = Verdict.Stopped

verdict_back : (v : Verdict) → verdict_named (verdict_read v) (written_read v) ≡ v
verdict_back Verdict.Valid = refl
verdict_back (Verdict.Falsified written) = refl
verdict_back Verdict.Stopped = refl

abbrev decision_named : Answer Decided → Result Decision Refusal
decision_named (refused r) = Err (refusal_named r)
decision_named (given d) = Ok (record { verdict = verdict_named d.verdict d.written; tried = d.tried; product = d.product })

decision_back : (r : Result Decision Refusal) → decision_named (decision_read r) ≡ r
decision_back (Ok d) = λ i. Ok (record { verdict = verdict_back d.verdict i; tried = d.tried; product = d.product })
decision_back (Err r) = ap (λ (x : Refusal). Err x) (refusal_back r)

abbrev reading_named : Answer ℕ → Result ℕ Refusal
reading_named (refused r) = Err (refusal_named r)
reading_named (given written) = Ok written

reading_back : (r : Result ℕ Refusal) → reading_named (reading_read r) ≡ r
reading_back (Ok written) = refl
reading_back (Err r) = ap (λ (x : Refusal). Err x) (refusal_back r)

-- each reading tells its answers apart
pub refusal_apart : (r q : Refusal) → refusal_read r ≡ refusal_read q → r ≡ q
refusal_apart = apart refusal_read refusal_named refusal_back

pub decision_apart : (r q : Result Decision Refusal) → decision_read r ≡ decision_read q → r ≡ q
decision_apart = apart decision_read decision_named decision_back

pub reading_apart : (r q : Result ℕ Refusal) → reading_read r ≡ reading_read q → r ≡ q
reading_apart = apart reading_read reading_named reading_back

-- two outcomes that meet the promise on one input are equal
pub check_unique : (root : ℕ) (s : List ℕ) (r q : Result Counts Refusal) → CheckPromise root s r → CheckPromise root s q → r ≡ q
check_unique root s r q x y = apart checked_read checked_named checked_back r q (x.answers ∙ sym y.answers)

pub eliminate_unique : (root : ℕ) (s work : List ℕ) (r q : Result Table Refusal) (w v : List ℕ)
    → EliminatePromise root s work r w → EliminatePromise root s work q v → (r ≡ q) × (w ≡ v)
eliminate_unique root s work r q w v x y =
    (apart eliminated_read eliminated_named eliminated_back r q (x.answers ∙ sym y.answers), x.work_after_is ∙ sym y.work_after_is)

pub ranges_unique : (root : ℕ) (s work : List ℕ) (r q : Result Ranges Refusal) (w v : List ℕ)
    → RangesPromise root s work r w → RangesPromise root s work q v → (r ≡ q) × (w ≡ v)
ranges_unique root s work r q w v x y =
    (apart ranges_read ranges_named ranges_back r q (x.answers ∙ sym y.answers), x.work_after_is ∙ sym y.work_after_is)

pub decide_unique : (budget root : ℕ) (s work witness : List ℕ) (r q : Result Decision Refusal) (w v w' v' : List ℕ)
    → DecidePromise budget root s work witness r w w' → DecidePromise budget root s work witness q v v' → (r ≡ q) × (w ≡ v) × (w' ≡ v')
decide_unique budget root s work witness r q w v w' v' x y = (
  decision_apart r q (x.answers ∙ sym y.answers),
  x.work_after_is ∙ sym y.work_after_is,
  x.witness_after_is ∙ sym y.witness_after_is,
)

pub host_unique : (budget root : ℕ) (s work witness answer : List ℕ) (r q : ℕ) (w v w' v' a b : List ℕ)
    → HostPromise budget root s work witness answer r w w' a → HostPromise budget root s work witness answer q v v' b
    → (r ≡ q) × (w ≡ v) × (w' ≡ v') × (a ≡ b)
host_unique budget root s work witness answer r q w v w' v' a b x y = (
  x.returns ∙ sym y.returns,
  x.work_after_is ∙ sym y.work_after_is,
  x.witness_after_is ∙ sym y.witness_after_is,
  x.answer_after ∙ sym y.answer_after,
)

pub read_unique : (text problem : List ℕ) (r q : Result ℕ Refusal) (w v : List ℕ)
    → ReadPromise text problem r w → ReadPromise text problem q v → (r ≡ q) × (w ≡ v)
read_unique text problem r q w v x y =
    (reading_apart r q (x.answers ∙ sym y.answers), x.problem_after ∙ sym y.problem_after)

pub host_read_unique : (text problem answer : List ℕ) (r q : ℕ) (w v a b : List ℕ)
    → HostReadPromise text problem answer r w a → HostReadPromise text problem answer q v b → (r ≡ q) × (w ≡ v) × (a ≡ b)
host_read_unique text problem answer r q w v a b x y =
    (x.returns ∙ sym y.returns, x.problem_after ∙ sym y.problem_after, x.answer_after ∙ sym y.answer_after)
