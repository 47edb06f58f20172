-- How a function-free table grows: one right node more keeps it well formed, and what stood in it still stands.
-- Assumes nothing.
use mathlib.Core.Path.{◌≡◌, refl, sym, ap, ◌∙◌}
use Prim.Native.Nat.{ℕ, ◌≤◌, ◌<◌}
use native.Mathlib.Omega.{arith}
use mathlib.Core.Bool.{Bool, true, false, ◌&&◌, false≢true}
use mathlib.Core.List.{List, [], ◌∷◌, ◌++◌, append-nil, append_assoc}
use mathlib.Core.Logic.{inl, inr}
use mathlib.Core.Option.{some}
use lib.ListN.{length, take, drop, length-append, get_or-append}
use lib.Seq.{take-append-le, take-append_seam, get_or-append_seam}
use lib.Dec.{eqb, ltb}
use borrow.Author.Tests.{lt-ltb, ltb-true}
use Rattle.definitions.specs.Lists.{all, snoc}
use Rattle.definitions.specs.Problem.Node.{Node, node, no_node, plain}
use Rattle.definitions.specs.Problem.Ops.{Op, apply, choose, equal, negate, both, either, test, verum, falsum, select, unknown, op_of}
use Rattle.definitions.specs.Problem.Ops.{is_app, Sort, term, formula, sort_of, same_sort, operand_sorts, operands_right, fits, fields_of}
use Rattle.definitions.specs.Elimination.{last}
use Rattle.theorems.proofs.Laws.Tests.{and_intro, and_left, and_right, split}
use Rattle.theorems.proofs.Laws.Ops.{app_op, sort_at, Sorted}
use Rattle.theorems.proofs.Elimination.Extends.{Starts}
use Rattle.theorems.proofs.Tables.Free.{names_of, free_right, Free}

-- an op that is no application names the symbol 0 alone, and its operands do not depend on an arity
pub plain_op : (N P ar : ℕ) (o : Op) → is_app o ≡ false → (names_of N P o ≡ 1) × (operand_sorts o ar ≡ operand_sorts o 0)
plain_op N P ar apply p = absurd (false≢true (sym p))
plain_op N P ar choose p = (refl, refl)
plain_op N P ar equal p = (refl, refl)
plain_op N P ar negate p = (refl, refl)
plain_op N P ar both p = (refl, refl)
plain_op N P ar either p = (refl, refl)
plain_op N P ar test p = absurd (false≢true (sym p))
plain_op N P ar verum p = (refl, refl)
plain_op N P ar falsum p = (refl, refl)
plain_op N P ar select p = (refl, refl)
plain_op N P ar unknown p = (refl, refl)

names_more : (N P N' P' op : ℕ) → N ≤ N' → P ≤ P' → names_of N P (op_of op) ≤ names_of N' P' (op_of op)
names_more N P N' P' op h l = go (is_app (op_of op)) refl
  where
    go : (b : Bool) → is_app (op_of op) ≡ b → names_of N P (op_of op) ≤ names_of N' P' (op_of op)
    go true p = elim (app_op op p) [ inl q ↦ rw q h | inr q ↦ rw q l ]
    go false p = let x = (plain_op N P 0 (op_of op) p).0 in let y = (plain_op N' P' 0 (op_of op) p).0 in omega arith

-- what is well formed stays so when there are more variables
pub free_more : (N P N' P' : ℕ) (t : List Node) → N ≤ N' → P ≤ P' → Free N P t → Free N' P' t
free_more N P N' P' t h l f k b =
    let n : Node = node t k in
    let fit = fits (take k t) (operand_sorts (op_of n.op) 0) (fields_of n) in
    let few = ltb-true n.sym (names_of N P (op_of n.op)) (and_left (ltb n.sym (names_of N P (op_of n.op))) fit (f k b)) in
    let names = names_more N P N' P' n.op h l in
    and_intro (ltb n.sym (names_of N' P' (op_of n.op))) fit (lt-ltb n.sym (names_of N' P' (op_of n.op)) (omega arith))
    (and_right (ltb n.sym (names_of N P (op_of n.op))) fit (f k b))

-- a right node more
free_snoc : (N P : ℕ) (t : List Node) (n : Node) → Free N P t → free_right N P t n ≡ true → Free N P (snoc t n)
free_snoc N P t n f e k h =
    let l = length-append t (n ∷ []) in
    elim (split k (length t)) [
      | inl b ↦ rw (take-append-le k t (n ∷ []) (omega arith), get_or-append t (n ∷ []) no_node k b) (f k b)
      | inr b ↦
          let q : k ≡ length t = omega arith in
          rw (q, take-append_seam t (n ∷ []), get_or-append_seam t n [] no_node) e
    ]

-- node k of a table is there and of sort s
pub record Stands (t : List Node) (k : ℕ) (s : Sort) : Type 0 where
  pub within : k < length t
  pub is : sort_at t k ≡ s

-- equal nodes have one sort
pub node_sort : {m n : Node} → m ≡ n → sort_of (op_of m.op) ≡ sort_of (op_of n.op)
node_sort e = ap (λ (x : Node). sort_of (op_of x.op)) e

-- these are terms of a table
abbrev pub Terms : List Node → List ℕ → Type 0
Terms t [] = Unit {0}
Terms t (k ∷ ks) = Stands t k term × Terms t ks

sorts_same : (s r : Sort) → s ≡ r → same_sort s r ≡ true
sorts_same s r e = rw e (self r)
  where
    self : (r : Sort) → same_sort r r ≡ true
    self term = refl
    self formula = refl

-- operands of the sorts asked, and zeros past them, are right
sorted_right : (t : List Node) (ss : List Sort) (ks : List ℕ) → Sorted t ss ks → all (eqb 0) (drop (length ss) ks) ≡ true
    → operands_right t ss ks ≡ true
sorted_right t [] ks w z = z
sorted_right t (s ∷ ss) [] w z = absurd w
sorted_right t (s ∷ ss) (k ∷ ks) w z =
    and_intro (ltb k (length t) && same_sort (sort_at t k) s) (operands_right t ss ks)
    (and_intro (ltb k (length t)) (same_sort (sort_at t k) s) (lt-ltb k (length t) w.0) (sorts_same (sort_at t k) s w.1))
    (sorted_right t ss ks w.2 z)

-- a table that another starts has its nodes
pub node_kept : (t after : List Node) (k : ℕ) → Starts t after → k < length t → (k < length after) × (node after k ≡ node t k)
node_kept t after k e h =
    let l = length-append t e.0 in
    let q = ap length e.1 in
    (omega arith, ap (λ (u : List Node). node u k) e.1 ∙ get_or-append t e.0 no_node k h)

pub stands_kept : (t after : List Node) (k : ℕ) (s : Sort) → Starts t after → Stands t k s → Stands after k s
stands_kept t after k s e a =
    let kept = node_kept t after k e a.within in
    record { within = kept.0; is = node_sort kept.1 ∙ a.is }

pub stands_snoc : (t : List Node) (n : Node) → Stands (snoc t n) (length t) (sort_of (op_of n.op))
stands_snoc t n =
    let l = length-append t (n ∷ []) in
    record { within = omega arith; is = node_sort (get_or-append_seam t n [] no_node) }

-- a table that is another and more, is well formed, and ends in a node of sort s
pub record Grows (N P : ℕ) (t after : List Node) (s : Sort) : Type 0 where
  pub start : Starts t after
  pub free : Free N P after
  pub top : Stands after (last after) s

module _ {N P : ℕ} where
  -- what stood still stands
  pub stays : {t after : List Node} {s : Sort} → Grows N P t after s → {k : ℕ} {r : Sort} → Stands t k r → Stands after k r
  stays {t} {after} g {k} {r} a = stands_kept t after k r g.start a

  pub stays_terms : {t after : List Node} {s : Sort} → Grows N P t after s → (ks : List ℕ) → Terms t ks → Terms after ks
  stays_terms g [] a = tt
  stays_terms g (k ∷ ks) a = (stays g a.0, stays_terms g ks a.1)

  pub grows_self : {t : List Node} {s : Sort} → Free N P t → Stands t (last t) s → Grows N P t t s
  grows_self {t} f a = record { start = ([], sym (append-nil t)); free = f; top = a }

  -- two growths, one after the other
  pub join : {t mid after : List Node} {r s : Sort} → Grows N P t mid r → Grows N P mid after s → Grows N P t after s
  join {t} a b =
      record {
        start = (
          a.start.0 ++ b.start.0,
          b.start.1 ∙ ap (λ (u : List Node). u ++ b.start.0) a.start.1 ∙ append_assoc t a.start.0 b.start.0,
        );
        free = b.free;
        top = b.top;
      }

  pub grows_snoc : (t : List Node) (n : Node) → Free N P t → n.sym < names_of N P (op_of n.op)
      → fits t (operand_sorts (op_of n.op) 0) (fields_of n) ≡ true → Grows N P t (snoc t n) (sort_of (op_of n.op))
  grows_snoc t n f h e =
      let l = length-append t (n ∷ []) in
      let q : last (snoc t n) ≡ length t = omega arith in
      record {
        start = (n ∷ [], refl);
        free =
            free_snoc N P t n f
            (and_intro (ltb n.sym (names_of N P (op_of n.op))) (fits t (operand_sorts (op_of n.op) 0) (fields_of n))
            (lt-ltb n.sym (names_of N P (op_of n.op)) h) e);
        top = rw q (stands_snoc t n);
      }

  -- a node of any other op, on operands of the sorts asked
  pub lay : (t : List Node) (op a b c : ℕ) (ss : List Sort) → Free N P t → is_app (op_of op) ≡ false
      → operand_sorts (op_of op) 0 ≡ some ss → Sorted t ss (a ∷ b ∷ c ∷ []) → all (eqb 0) (drop (length ss) (a ∷ b ∷ c ∷ [])) ≡ true
      → Grows N P t (snoc t (plain op a b c)) (sort_of (op_of op))
  lay t op a b c ss f p e w z =
      let one = (plain_op N P 0 (op_of op) p).0 in
      grows_snoc t (plain op a b c) f (omega arith) (rw e (sorted_right t ss (a ∷ b ∷ c ∷ []) w z))
