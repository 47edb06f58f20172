-- From a laid table to its tops and product, and from there to what ranges promises. Assumes nothing.
use mathlib.Core.Path.{◌≡◌, refl, sym, ap, ap₂, ◌∙◌}
use Prim.Native.Nat.{ℕ, ◌^◌, ◌≤◌, ◌<◌}
use native.Mathlib.Omega.{arith}
use mathlib.Core.List.{List, [], ◌∷◌}
use mathlib.Core.Bool.{Bool}
use mathlib.Core.Option.{Option, none, some}
use lib.ListN.{length, replicate}
use borrow.Author.Tests.{lt-ltb, le-ltb}
use Rattle.std.specs.Prelude as Prelude
use Rattle.std.specs.Prelude.{Ok, Err, ok_or}
use Rattle.definitions.specs.Lists.{first_of}
use Rattle.definitions.specs.Problem.Node.{Node, table_bytes}
use Rattle.definitions.specs.Problem.Check.{symbols_of, nodes_of, functions_in, predicates_in, Refused, refuse, refuse_if}
use Rattle.definitions.specs.Elimination.{State, eliminated, table_of}
use Rattle.definitions.specs.Ranges.{tops, tops_of, sizes_of, product, padded}
use Rattle.definitions.specs.Operations.Answers.{Answer, refused, given, big_product, unless, tops_unless, measured, Measure, RangesAnswer, eliminate_refusal, ranges_refusal, ranges_answer}
use Rattle.definitions.specs.Operations.Buffers.{over}
use Rattle.definitions.specs.Operations.Readings.{refusal_read}
use Rattle.definitions.specs.Operations.Promises.{RangesPromise}
use Rattle.definitions.specs.declared.Refusal.{Refusal}
use Rattle.theorems.specs.Asking.{Asks}
use Rattle.theorems.proofs.Accepted.{Accepted}
use Rattle.theorems.proofs.Truth.{table_free}
use Rattle.theorems.proofs.Elimination.Steps.{of_op}
use Rattle.theorems.proofs.Elimination.Counts.{count_apps}
use Rattle.theorems.proofs.Fits.{table_short, table_fits}
use Rattle.elimination.specs.State.{AllLaid}
use Rattle.elimination.specs.declared.laid.Laid.{Laid}
use Rattle.elimination.proofs.Promising.{whole_state, nodes_laid_lem, table_laid, work_kept, work_laid}
use Rattle.ranges.specs.Table.{table_in, shape_of, TableIn}
use Rattle.ranges.specs.Spans.{SpansAre, ProductIs}
use Rattle.ranges.specs.declared.Spans.{Spans}
use Rattle.theorems.proofs.Tables.Back.{table_back}

-- the table that elimination has laid
module _ (s : List ℕ) (ok : Accepted s) {work work' : List ℕ} {l : Laid} (all : AllLaid s work l work') where
  pub table_read : table_in work' l.nodes ≡ table_of s
  table_read = ap₂ table_in (table_laid s ok all) (nodes_laid_lem s ok all) ∙ table_back (table_of s) (table_fits s ok) work

  pub functions_laid : l.functions ≡ functions_in (nodes_of s)
  unfolding eliminated
  functions_laid =
      all.laid.functions_are ∙ ap (λ (F : State). length (of_op 0 F.apps)) (whole_state s ok)
      ∙ count_apps (symbols_of s) 0 refl (nodes_of s)

  pub predicates_laid : l.predicates ≡ predicates_in (nodes_of s)
  unfolding eliminated
  predicates_laid =
      all.laid.predicates_are ∙ ap (λ (F : State). length (of_op 6 F.apps)) (whole_state s ok)
      ∙ count_apps (symbols_of s) 6 refl (nodes_of s)

  pub table_stands : 21056 ≤ length work' → TableIn work' (shape_of l)
  table_stands long =
      let short = table_short s ok in
      let nodes = nodes_laid_lem s ok all in
      let functions = functions_laid in
      let predicates = predicates_laid in
      let few = ok.few_functions in
      let fewer = ok.few_predicates in
      record {
        free = rw (functions_laid, predicates_laid, table_read) (table_free s ok);
        whole = omega arith;
        few_nodes = omega arith;
        few_variables = omega arith;
        few_truths = omega arith;
      }

  module _ {r : Spans} (spans : SpansAre work' (shape_of l) r) where
    pub tops_measured : r.tops ≡ padded (tops_of s)
    unfolding tops_of
    tops_measured = spans.tops_are ∙ ap₂ (λ (t : List Node) (n : ℕ). padded (tops t n)) table_read functions_laid

    pub product_measured : ProductIs (product s) r.product
    unfolding tops_of sizes_of product
    product_measured = rw (← functions_laid, ← predicates_laid, ← table_read) spans.product_is

-- what ranges answers and leaves
module _ (s : List ℕ) (root : ℕ) (work : List ℕ) where
  refusal_answered : (r : Refused) → eliminate_refusal s root (length work) ≡ some r
      → record { tops = replicate 24 0; answer = refused r } ≡ ranges_answer s root (length work)
  unfolding ranges_answer ranges_refusal
  refusal_answered r e = rw e

  pub ranges_refused : (r : Refusal) → eliminate_refusal s root (length work) ≡ some (refusal_read r)
      → RangesPromise root s work (Err r) work
  ranges_refused r e = record { answers = refusal_answered (refusal_read r) e; work_after_is = work_kept s root work (refusal_read r) e }

module _
    {s : List ℕ} {root : ℕ} {a : List ℕ} (A : Asks s root a) (work : List ℕ) (e : eliminate_refusal s root (length work) ≡ none)
    {work' : List ℕ} (w : work' ≡ over (table_bytes (table_of a)) work) where
  -- where the table is laid, 13 is left
  abbrev big : Option Refused
  big = big_product a

  last_refusal : ranges_refusal s root (length work) ≡ first_of (big ∷ [])
  unfolding ranges_refusal
  last_refusal = ap₂ {C = Option Refused} (λ (o : Option Refused) (b : List ℕ). first_of (o ∷ big_product b ∷ [])) e A.problem

  answer_by : (o : Option Refused) → first_of (big ∷ []) ≡ o
      → ranges_answer s root (length work) ≡ record { tops = tops_unless o (tops_of a); answer = unless o (measured a) }
  unfolding ranges_answer
  answer_by o q =
      ap₂ {C = RangesAnswer} (λ (o : Option Refused) (b : List ℕ). record { tops = tops_unless o (tops_of b); answer = unless o (measured b) })
      (last_refusal ∙ q) A.problem

  pub ranges_big : 10 ^ 18 < product a → RangesPromise root s work (Err Refusal.BigProduct) work'
  ranges_big h =
      record {
        answers = sym (answer_by (some (refuse 13 0)) (ap (λ (b : Bool). first_of (refuse_if b 13 ∷ [])) (lt-ltb (10 ^ 18) (product a) h)));
        work_after_is = w ∙ work_laid A work e;
      }

  abbrev measure : ℕ → ℕ → Answer Measure
  measure truths n = given (record { truths = truths; product = n })

  pub ranges_given : (ts : List ℕ) (truths n : ℕ) → ts ≡ padded (tops_of a) → truths ≡ predicates_in (nodes_of a) → n ≡ product a
      → product a ≤ 10 ^ 18 → RangesPromise root s work (Ok (record { tops = ts; truths = truths; product = n })) work'
  ranges_given ts truths n t p q h =
      record {
        answers =
            ap (λ (x : List ℕ). record { tops = x; answer = measure truths n }) t
            ∙ ap₂ (λ (x y : ℕ). record { tops = padded (tops_of a); answer = measure x y }) p q
            ∙ sym (answer_by none (ap (λ (b : Bool). first_of (refuse_if b 13 ∷ [])) (le-ltb (10 ^ 18) (product a) h)));
        work_after_is = w ∙ work_laid A work e;
      }

-- a product that is given or not, as a Result
module _ (o : Prelude.Option ℕ) (r : Refusal) (z : Prelude.Result ℕ Refusal) where
  pub product_told : (n : ℕ) → z ≡ ok_or o r → z ≡ Ok n → o ≡ Prelude.Some n
  product_told n p q = go o (sym p ∙ q)
    where
      go : (o : Prelude.Option ℕ) → ok_or o r ≡ Ok n → o ≡ Prelude.Some n
      go (Prelude.Some x) e = cc
      go Prelude.None e = cc

  pub no_product_told : (x : Refusal) → z ≡ ok_or o r → z ≡ Err x → (o ≡ Prelude.None) × (x ≡ r)
  no_product_told x p q = go o (sym p ∙ q)
    where
      go : (o : Prelude.Option ℕ) → ok_or o r ≡ Err x → (o ≡ Prelude.None) × (x ≡ r)
      go (Prelude.Some y) e = absurd cc
      go Prelude.None e = (refl, cc)
