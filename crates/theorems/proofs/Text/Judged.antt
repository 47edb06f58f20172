-- What decide's promise says of the problem of a text that is taken, case by case: the lemmas below the top of texts. Assumes nothing.
use mathlib.Core.Path.{◌≡◌, refl, ap, ◌∙◌, subst}
use Prim.Native.Nat.{ℕ, ◌^◌, ◌≤◌}
use native.Mathlib.Omega.{arith}
use mathlib.Core.Bool.{true}
use mathlib.Core.List.{List, [], ◌∷◌}
use mathlib.Core.Logic.{◌⊎◌, inl, inr, ◌↔◌}
use mathlib.Core.Option.{none}
use lib.ListN.{length}
use Rattle.std.specs.Prelude.{Result, Ok, Err}
use Rattle.definitions.specs.Problem.Asked.{asked, last_node, refusal_of}
use Rattle.definitions.specs.Logic.{ValidAt}
use Rattle.definitions.specs.Ranges.{product}
use Rattle.definitions.specs.Witness.{tables_of}
use Rattle.definitions.specs.Operations.Answers.{short_work, short_witness, eliminate_refusal, buffers_refusal}
use Rattle.definitions.specs.Operations.Promises.{DecidePromise}
use Rattle.definitions.specs.Text.Grammar.{Script}
use Rattle.definitions.specs.Text.Meaning.{asserts_true, Unsat}
use Rattle.definitions.specs.Text.Nodes.{problem_of_script}
use Rattle.definitions.specs.declared.Refusal.{Refusal}
use Rattle.definitions.specs.declared.Refusal.TheVariants.{
  TooShort,
  NotEqp,
  BadVersion,
  BadCounts,
  BadLength,
  BadSymbol,
  BadNode,
  ManyFunctions,
  ManyPredicates,
  ShortWork,
  ShortWitness,
  BigProduct,
  WrongToken,
  TooDeep,
  WrongRoot,
  ShortProblem,
}
use Rattle.definitions.specs.declared.Verdict.{Verdict}
use Rattle.definitions.specs.declared.Decision.{Decision}
use Rattle.theorems.specs.Conditions.{Meets, Passes, PassesTwelve}
use Rattle.theorems.specs.Searched.{FalsifiableAt, with_verdict, valid_answer, falsified_answer}
use Rattle.theorems.specs.Texts.{Sat}
use Rattle.theorems.specs.ReadConditions.{TakesText}
use Rattle.theorems.proofs.Laws.First.{first_none}
use Rattle.theorems.proofs.Refusing.{passes_twelve}
use Rattle.theorems.proofs.Top.{refused_means, taken_means, valid_means, falsified_means, stopped_means, enough_means}
use Rattle.theorems.proofs.Text.Problems.{text_taken, unsat_exactly, asserts_true_lem, sat_exactly}

-- where check takes a problem, decide can refuse it only for its buffers or its product
module _ (s : List ℕ) (root work room : ℕ) (ok : refusal_of s root ≡ none) where
  twelve : PassesTwelve s root 21056 206
  unfolding buffers_refusal eliminate_refusal
  twelve =
      (passes_twelve s root 21056 206).0
      (first_none (eliminate_refusal s root 21056 ∷ short_witness 206 ∷ []) (first_none (refusal_of s root ∷ short_work 21056 ∷ []) (ok, (refl, tt)), (refl, tt)))

  pub left_over : (x : Refusal) → Meets s root work room x → (x ≡ ShortWork) ⊎ ((x ≡ ShortWitness) ⊎ (x ≡ BigProduct))
  left_over TooShort m = absurd (twelve TooShort (omega arith) m)
  left_over NotEqp m = absurd (twelve NotEqp (omega arith) m)
  left_over BadVersion m = absurd (twelve BadVersion (omega arith) m)
  left_over BadCounts m = absurd (twelve BadCounts (omega arith) m)
  left_over BadLength m = absurd (twelve BadLength (omega arith) m)
  left_over (BadSymbol k) m = absurd (twelve (BadSymbol k) (omega arith) m)
  left_over (BadNode k) m = absurd (twelve (BadNode k) (omega arith) m)
  left_over ManyFunctions m = absurd (twelve ManyFunctions (omega arith) m)
  left_over ManyPredicates m = absurd (twelve ManyPredicates (omega arith) m)
  left_over ShortWork m = inl refl
  left_over ShortWitness m = inr (inl refl)
  left_over BigProduct m = inr (inr refl)
  left_over (WrongToken k) m = absurd m
  left_over (TooDeep k) m = absurd m
  left_over WrongRoot m = absurd (twelve WrongRoot (omega arith) m)
  left_over ShortProblem m = absurd m

  pub all_pass : 21056 ≤ work → 206 ≤ room → product (asked s root) ≤ 10 ^ 18 → Passes s root work room
  all_pass w r p x m =
      elim (left_over x m) [
        | inl e ↦ (let l = subst (Meets s root work room) e m in omega arith)
        | inr (inl e) ↦ (let l = subst (Meets s root work room) e m in omega arith)
        | inr (inr e) ↦ (let l = subst (Meets s root work room) e m in omega arith)
      ]

module _
    (text : List ℕ)
    (room : ℕ)
    (s : Script)
    (takes : TakesText text room s)
    (budget : ℕ)
    (work witness : List ℕ)
    (d : Result Decision Refusal)
    (work' witness' : List ℕ)
    (decision : DecidePromise budget (last_node (problem_of_script s)) (problem_of_script s) work witness d work' witness') where
  abbrev on : List ℕ
  on = problem_of_script s

  abbrev root : ℕ
  root = last_node on

  -- what its root reaches
  abbrev a : List ℕ
  a = asked on root

  ok : refusal_of on root ≡ none
  ok = text_taken text room s takes

  pub refused_judged : (x : Refusal) → d ≡ Err x → (x ≡ ShortWork) ⊎ ((x ≡ ShortWitness) ⊎ (x ≡ BigProduct))
  refused_judged x e =
      left_over on root (length work) (length witness) ok x ((refused_means budget root on work witness d work' witness' decision x).0.0 e).0

  pub valid_judged : (tried places : ℕ) → d ≡ valid_answer tried places → Unsat s
  valid_judged tried places e = (unsat_exactly text room s takes).1 (valid_means budget root on work witness d work' witness' decision tried places e).3

  pub falsified_judged : (tried places bytes : ℕ) → d ≡ falsified_answer tried places bytes → asserts_true (tables_of witness') s ≡ true
  falsified_judged tried places bytes e =
      asserts_true_lem text room s takes (tables_of witness') (falsified_means budget root on work witness d work' witness' decision tried places bytes e).6

  -- with room for the job and a budget of at least the product, the verdict is the script's
  module _ (work_long : 21056 ≤ length work) (room_long : 206 ≤ length witness) (small : product a ≤ 10 ^ 18) (enough : product a ≤ budget) where
    both : ((d ≡ valid_answer (product a) (product a)) ↔ ValidAt on root)
        × (((tried bytes : ℕ) × (d ≡ falsified_answer tried (product a) bytes)) ↔ FalsifiableAt on root)
    both =
        enough_means budget root on work witness d work' witness' decision
        (all_pass on root (length work) (length witness) ok work_long room_long small) enough

    pub unsat_judged : (d ≡ valid_answer (product a) (product a)) ↔ Unsat s
    unsat_judged = (λ e. (unsat_exactly text room s takes).1 (both.0.0 e), λ u. both.0.1 ((unsat_exactly text room s takes).0 u))

    pub sat_judged : ((tried bytes : ℕ) × (d ≡ falsified_answer tried (product a) bytes)) ↔ Sat s
    sat_judged = (λ e. (sat_exactly text room s takes).1 (both.1.0 e), λ m. both.1.1 ((sat_exactly text room s takes).0 m))

    -- some verdict comes, and it is not stopped
    pub not_unsat_judged : (Unsat s → ⊥) → (tried bytes : ℕ) × (d ≡ falsified_answer tried (product a) bytes)
    not_unsat_judged n = go d refl
      where
        by : (v : Verdict) (tried places : ℕ) → d ≡ with_verdict v tried places
            → (tried bytes : ℕ) × (d ≡ falsified_answer tried (product a) bytes)
        by Verdict.Valid tried places e = absurd (n (valid_judged tried places e))
        by (Verdict.Falsified bytes) tried places e =
            let places_are = (falsified_means budget root on work witness d work' witness' decision tried places bytes e).0 in
            (tried, bytes, e ∙ ap (λ (k : ℕ). falsified_answer tried k bytes) places_are)
        by Verdict.Stopped tried places e =
            let b = (stopped_means budget root on work witness d work' witness' decision tried places e).2 in absurd (omega arith)

        go : (r : Result Decision Refusal) → d ≡ r → (tried bytes : ℕ) × (d ≡ falsified_answer tried (product a) bytes)
        go (Ok r) e = by r.verdict r.tried r.product e
        go (Err x) e =
            absurd
            ((taken_means budget root on work witness d work' witness' decision).1
            (all_pass on root (length work) (length witness) ok work_long room_long small) x e)
