-- The nodes of a problem by place; and what a node wants at its operand fields, op by op. Assumes nothing.
use mathlib.Core.Path.{◌≡◌, refl, sym, ap, ap₂, ◌∙◌}
use Prim.Native.Nat.{ℕ, zero, suc, ◌+◌, ◌*◌, ◌≤◌, ◌<◌}
use native.Mathlib.Omega.{arith}
use mathlib.Core.Bool.{Bool, true, false, ◌&&◌, and-true, false≢true}
use mathlib.Core.List.{List, [], ◌∷◌}
use mathlib.Core.Option.{Option, none, some}
use lib.ListN.{length, get_or, get_elem?, take, replicate, length-replicate}
use lib.Seq.{length-take-le, get_or-take}
use lib.Dec.{leb, ltb}
use borrow.Author.Tests.{lt-ltb, le-ltb, ltb-true, leb-true}
use Rattle.definitions.specs.Problem.Node.{Node, node, no_node, node_at, nodes_at}
use Rattle.definitions.specs.Problem.Ops.{
  Op,
  apply,
  choose,
  equal,
  negate,
  both,
  either,
  test,
  verum,
  falsum,
  select,
  unknown,
  op_of,
  Sort,
  term,
  formula,
  sort_of,
  same_sort,
  operand_sorts,
  sorts_of,
  count_of,
  is_function,
  is_predicate,
  arity,
  symbol_right,
  fields_of,
  operands_right,
  node_right,
}
use Rattle.definitions.specs.Problem.Check.{symbol_count, node_count, nodes_of}
use Rattle.theorems.proofs.Accepted.{length_nodes_at}
use Rattle.theorems.proofs.Laws.Tests.{and_left, and_right}
use Rattle.problem.specs.declared.head.Problem.TheInside.{Inside}
use Rattle.problem.specs.Shape.{Shaped}
use Rattle.problem.specs.Wanted.{sort_wanted, slot_right}

-- node k of nodes that stand one after the other, and the first k
pub node_nodes_at : (s : List ℕ) (i n k : ℕ) → k < n → node (nodes_at s i n) k ≡ node_at s (i + 8 * k)
node_nodes_at s i zero k h = absurd (omega arith)
node_nodes_at s i (suc n) zero h = ap (node_at s) (omega arith)
node_nodes_at s i (suc n) (suc k) h = node_nodes_at s (i + 8) n k (omega arith) ∙ ap (node_at s) (omega arith)

pub take_nodes_at : (s : List ℕ) (i n k : ℕ) → k ≤ n → take k (nodes_at s i n) ≡ nodes_at s i k
take_nodes_at s i n zero h = refl
take_nodes_at s i zero (suc k) h = absurd (omega arith)
take_nodes_at s i (suc n) (suc k) h = ap {B = List Node} (λ t. node_at s i ∷ t) (take_nodes_at s (i + 8) n k (omega arith))

-- node k of a problem
pub node_stands : (s : List ℕ) (k at : ℕ) → k < node_count s → at ≡ 8 + symbol_count s + 8 * k → node (nodes_of s) k ≡ node_at s at
node_stands s k at h e = node_nodes_at s (8 + symbol_count s) (node_count s) k h ∙ ap (node_at s) (sym e)

pub length_nodes_of : (s : List ℕ) → length (nodes_of s) ≡ node_count s
length_nodes_of s = length_nodes_at s (8 + symbol_count s) (node_count s)

pub inside_nodes : {p : Inside} {s : List ℕ} → Shaped p → p.bytes.now ≡ s → length (nodes_of s) ≡ p.nodes
inside_nodes {s = s} w e = length_nodes_of s ∙ sym (ap node_count e) ∙ sym w.nodes_are

-- up to three operand sorts, field by field
pub operands_slots : (earlier : List Node) (ss : List Sort) (a b c : ℕ) → length ss ≤ 3
    → operands_right earlier ss (a ∷ b ∷ c ∷ [])
    ≡ slot_right earlier (sort_wanted (some ss) 0) a
    && (slot_right earlier (sort_wanted (some ss) 1) b && slot_right earlier (sort_wanted (some ss) 2) c)
operands_slots earlier [] a b c h = simp and-true
operands_slots earlier (s ∷ []) a b c h = simp and-true
operands_slots earlier (s ∷ r ∷ []) a b c h = simp and-true
operands_slots earlier (s ∷ r ∷ t ∷ []) a b c h = simp and-true
operands_slots earlier (s ∷ r ∷ t ∷ u ∷ ss) a b c h = absurd (omega arith)

-- an operand among the first k nodes of a table is right if it is of the sort wanted, and any other is wrong
module _ (t : List Node) (k o : ℕ) (x : Sort) (l : k ≤ length t) where
  pub slot_earlier : o < k → slot_right (take k t) (some x) o ≡ same_sort (sort_of (op_of (node t o).op)) x
  slot_earlier h =
      ap₂ (λ (m : ℕ) (n : Node). ltb o m && same_sort (sort_of (op_of n.op)) x)
      (length-take-le k t l) (get_or-take k t o no_node h)
      ∙ simp (lt-ltb _ _ h)

  pub slot_later : k ≤ o → slot_right (take k t) (some x) o ≡ false
  slot_later h =
      ap (λ (m : ℕ). ltb o m && same_sort (sort_of (op_of (node (take k t) o).op)) x) (length-take-le k t l)
      ∙ simp (le-ltb _ _ h)

-- past the fields in use nothing is wanted, and an application wants terms
sort_past : (ss : List Sort) (j : ℕ) → length ss ≤ j → get_elem? ss j ≡ none
sort_past [] j h = refl
sort_past (s ∷ ss) zero h = absurd (omega arith)
sort_past (s ∷ ss) (suc j) h = sort_past ss j (omega arith)

pub wants_none : (o : Option (List Sort)) (j : ℕ) → count_of o ≤ j → sort_wanted o j ≡ none
wants_none none j h = refl
wants_none (some ss) j h = sort_past ss j h

pub wants_term : (n j : ℕ) → j < n → get_elem? (replicate n term) j ≡ some term
wants_term zero j h = absurd (omega arith)
wants_term (suc n) zero h = refl
wants_term (suc n) (suc j) h = wants_term n j (omega arith)

-- an op whose symbol is right has at most three operands
pub few_sorts : (symbols : List ℕ) (o : Op) (k : ℕ) → symbol_right symbols o k ≡ true
    → (ss : List Sort) × (operand_sorts o (arity symbols k) ≡ some ss) × (length ss ≤ 3)
few_sorts symbols apply k p =
    let byte = get_or symbols k 0 in
    let small = ltb-true byte 4 (and_right (ltb k (length symbols)) (is_function byte) p) in
    (replicate (arity symbols k) term, refl, omega (arith, length-replicate (arity symbols k) term))
few_sorts symbols choose k p = (formula ∷ term ∷ term ∷ [], refl, omega arith)
few_sorts symbols equal k p = (term ∷ term ∷ [], refl, omega arith)
few_sorts symbols negate k p = (formula ∷ [], refl, omega arith)
few_sorts symbols both k p = (formula ∷ formula ∷ [], refl, omega arith)
few_sorts symbols either k p = (formula ∷ formula ∷ [], refl, omega arith)
few_sorts symbols test k p =
    let byte = get_or symbols k 0 in
    let kind = and_right (ltb k (length symbols)) (is_predicate byte) p in
    let large = leb-true 16 byte (and_left (leb 16 byte) (ltb byte 20) kind) in
    let small = ltb-true byte 20 (and_right (leb 16 byte) (ltb byte 20) kind) in
    (replicate (arity symbols k) term, refl, omega (arith, length-replicate (arity symbols k) term))
few_sorts symbols verum k p = ([], refl, omega arith)
few_sorts symbols falsum k p = ([], refl, omega arith)
few_sorts symbols select k p = (formula ∷ formula ∷ formula ∷ [], refl, omega arith)
few_sorts symbols unknown k p = absurd (false≢true p)

-- field j of a node is right for what the node wants there
abbrev pub field_right : List ℕ → List Node → Node → ℕ → Bool
field_right symbols earlier n j =
    slot_right earlier (sort_wanted (sorts_of symbols n) j) (get_or (fields_of n) j 0)

-- a node whose symbol is right is right if its three fields are
pub node_fields : (symbols : List ℕ) (earlier : List Node) (n : Node) → symbol_right symbols (op_of n.op) n.sym ≡ true
    → node_right symbols earlier n
    ≡ field_right symbols earlier n 0 && (field_right symbols earlier n 1 && field_right symbols earlier n 2)
node_fields symbols earlier n p =
    let (ss, e, h) = few_sorts symbols (op_of n.op) n.sym p in
    simp (p, e) (operands_slots earlier ss n.a n.b n.c h)
