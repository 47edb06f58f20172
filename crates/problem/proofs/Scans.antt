-- What is left of a scan from node k on: the first node that is the same, the distinct applications. One more step either ends the
-- scan or leaves what is left after it. Assumes nothing.
use mathlib.Core.Path.{◌≡◌, refl, sym, ap, ◌∙◌}
use Prim.Native.Nat.{ℕ, zero, suc, ◌+◌, ◌≤◌, ◌<◌}
use native.Mathlib.Numerals.{add-one}
use native.Mathlib.Omega.{arith}
use mathlib.Core.Bool.{Bool, true, false, not, ◌&&◌, ◌||◌, and-false, false≢true}
use mathlib.Core.List.{List, [], ◌∷◌}
use mathlib.Core.Option.{Option, none, some}
use lib.ListN.{length, take, drop, drop_of_length-le}
use lib.Seq.{length-take-le, get_or-take, take-suc, drop-cons}
use lib.Dec.{eqb}
use borrow.Author.Tests.{eq-eqb, ne_eqb}
use Rattle.definitions.specs.Lists.{any, first_failing, snoc}
use Rattle.definitions.specs.Problem.Node.{Node, node, no_node, same}
use Rattle.definitions.specs.Problem.Check.{distinct}
use Rattle.theorems.proofs.Laws.Tests.{none≢some}
use Rattle.theorems.proofs.Laws.Scans.{failing_from, fails_here, fails_later, fails_nowhere}
use Rattle.std.specs.Prelude as std
use Rattle.std.specs.Option.{is_some, MatchOption}
use Rattle.problem.specs.declared.put.Node as put
use Rattle.problem.specs.Nodes.{node_read}
use Rattle.problem.specs.Stages.{found_of, first_same}

-- some member passes a test if and only if the scan for the first such member finds one
module _ {A : Type 0} (f : A → Bool) where
  abbrev next : Bool → ℕ → List A → Option ℕ
  next b i xs = elim (not b) [ true ↦ first_failing (λ x. not (f x)) (suc i) xs | false ↦ some i ]

  pub any_none : (i : ℕ) (xs : List A) → first_failing (λ x. not (f x)) i xs ≡ none → any f xs ≡ false
  any_none i [] e = refl
  any_none i (x ∷ xs) e = go (f x) (any_none (suc i) xs) e
    where
      go : (b : Bool) → (next false i xs ≡ none → any f xs ≡ false) → next b i xs ≡ none → b || any f xs ≡ false
      go true rec e' = absurd (none≢some (sym e'))
      go false rec e' = rec e'

  pub any_some : (i j : ℕ) (xs : List A) → first_failing (λ x. not (f x)) i xs ≡ some j → any f xs ≡ true
  any_some i j [] e = absurd (none≢some e)
  any_some i j (x ∷ xs) e = go (f x) (any_some (suc i) j xs) e
    where
      go : (b : Bool) → (next false i xs ≡ some j → any f xs ≡ true) → next b i xs ≡ some j → b || any f xs ≡ true
      go true rec e' = refl
      go false rec e' = rec e'

-- nodes are the same field by field
fields_same : (a b c d e : Bool) → a && (b && (c && (d && e))) ≡ a && b && c && d && e
fields_same false b c d e = refl
fields_same true false c d e = refl
fields_same true true false d e = refl
fields_same true true true false e = refl
fields_same true true true true e = refl

pub same_fields : (m n : put.Node)
    → eqb m.op n.op && (eqb m.symbol n.symbol && (eqb m.a n.a && (eqb m.b n.b && eqb m.c n.c))) ≡ same (node_read m) (node_read n)
same_fields m n = fields_same (eqb m.op n.op) (eqb m.symbol n.symbol) (eqb m.a n.a) (eqb m.b n.b) (eqb m.c n.c)

pub none_found : (found : std.Option ℕ) {b : Bool} → is_some found ≡ not b → b ≡ true → found_of found ≡ none
none_found std.None p e = refl
none_found (std.Some k) p e = absurd (false≢true (sym (p ∙ ap not e)))

pub some_found : (found : std.Option ℕ) {b : Bool} → is_some found ≡ not b → b ≡ false → (k : ℕ) × (found_of found ≡ some k)
some_found std.None p e = absurd (false≢true (p ∙ ap not e))
some_found (std.Some k) p e = (k, refl)

-- the first node before node k, from node j on, that is the same as node k
abbrev unlike : List Node → ℕ → Node → Bool
unlike t k m = not (same (node t k) m)

abbrev pub same_from : List Node → ℕ → ℕ → Option ℕ
same_from t k j = failing_from (unlike t k) (take k t) j

module _ (t : List Node) (k : ℕ) (l : k ≤ length t) where
  module _ (j : ℕ) (h : j < k) where
    among : j < length (take k t)
    among = omega (arith, length-take-le k t l)

    compared : (b : Bool) → same (node t k) (node t j) ≡ b → unlike t k (node (take k t) j) ≡ not b
    compared b e = rw (get_or-take k t j no_node h) (ap not e)

    pub same_here : same (node t k) (node t j) ≡ true → same_from t k j ≡ some j
    same_here e = fails_here (unlike t k) (take k t) no_node j among (compared true e)

    pub same_later : same (node t k) (node t j) ≡ false → same_from t k j ≡ same_from t k (j + 1)
    same_later e = fails_later (unlike t k) (take k t) no_node j among (compared false e)

  pub same_nowhere : same_from t k k ≡ none
  same_nowhere = fails_nowhere (unlike t k) (take k t) k (omega (arith, length-take-le k t l))

-- how many distinct applications of an op there are from node k on
module _ (op : ℕ) (t : List Node) where
  abbrev pub distinct_from : ℕ → ℕ
  distinct_from k = length (distinct op (take k t) (drop k t))

  module _ (k : ℕ) (h : k < length t) where
    abbrev counted : Bool → ℕ
    counted b = elim b [ true ↦ suc (distinct_from (suc k)) | false ↦ distinct_from (suc k) ]

    application_here : distinct_from k ≡ counted (eqb (node t k).op op && not (any (same (node t k)) (take k t)))
    application_here =
        ap (λ (ns : List Node). length (distinct op (take k t) ns)) (drop-cons t k no_node h)
        ∙ go (eqb (node t k).op op && not (any (same (node t k)) (take k t)))
      where
        left : List Node
        left = distinct op (snoc (take k t) (node t k)) (drop (suc k) t)

        after : length left ≡ distinct_from (suc k)
        after = ap (λ (before : List Node). length (distinct op before (drop (suc k) t))) (sym (take-suc t k no_node h))

        go : (b : Bool) → length {A = Node} (elim b as (λ _. List Node) [ true ↦ node t k ∷ left | false ↦ left ]) ≡ counted b
        go true = ap suc after
        go false = after

    pub distinct_other : ((node t k).op ≡ op → ⊥) → distinct_from k ≡ distinct_from (k + 1)
    distinct_other n = rw (add-one k) (application_here ∙ simp (ne_eqb _ _ n))

    pub distinct_first : (node t k).op ≡ op → first_same (node t k) (take k t) ≡ none
        → distinct_from k ≡ 1 + distinct_from (k + 1)
    distinct_first e f =
        rw (add-one k)
        (application_here ∙ simp (eq-eqb _ _ e, any_none (same (node t k)) 0 (take k t) f) (omega arith))

    pub distinct_repeat : (j : ℕ) → first_same (node t k) (take k t) ≡ some j → distinct_from k ≡ distinct_from (k + 1)
    distinct_repeat j f =
        rw (add-one k) (application_here ∙ simp (any_some (same (node t k)) 0 j (take k t) f, and-false))

  pub distinct_end : (k : ℕ) → length t ≤ k → distinct_from k ≡ 0
  distinct_end k h = ap (λ (ns : List Node). length (distinct op (take k t) ns)) (drop_of_length-le t h)

-- what a search over the numbers below n finds is what a scan from the start finds
module _
    (n : ℕ) (Hit Missed : ℕ → Type 0) (from : ℕ → Option ℕ)
    (ends : (k : ℕ) → k < n → Hit k → from k ≡ some k)
    (goes_on : (k : ℕ) → k < n → Missed k → from k ≡ from (k + 1))
    (runs-out : from n ≡ none) where
  passed : (i : ℕ) → i ≤ n → ((k : ℕ) → 0 ≤ k → k < i → Missed k) → from 0 ≡ from i
  passed zero h before = refl
  passed (suc i) h before =
      passed i (omega arith) (λ k l m. before k l (omega arith))
      ∙ goes_on i (omega arith) (before i (omega arith) (omega arith)) ∙ ap from (add-one i)

  pub scan_found : (r : std.Option ℕ)
      → MatchOption r ((k : ℕ) → 0 ≤ k → k < n → Missed k)
      (λ i. (0 ≤ i) × (i < n) × Hit i × ((k : ℕ) → 0 ≤ k → k < i → Missed k))
      → found_of r ≡ from 0
  scan_found std.None m = sym (passed n (omega arith) m ∙ runs-out)
  scan_found (std.Some i) m = sym (passed i (omega (arith, m.1)) m.3 ∙ ends i m.1 m.2)
