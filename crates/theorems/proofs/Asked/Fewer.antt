-- What a root reaches has at most the distinct applications of the whole table (02, E2), so that 9 and 10 refuse no root of a table that
-- is within them. Assumes nothing.
use mathlib.Core.Path.{◌≡◌, refl, sym, ap, ◌∙◌, subst}
use Prim.Native.Nat.{ℕ, zero, suc, ◌<◌, ◌≤◌}
use native.Mathlib.Omega.{arith}
use mathlib.Core.Bool.{Bool, true, false, not, ◌&&◌, ◌||◌, true≢false, false≢true}
use mathlib.Core.Logic.{◌⊎◌, inl, inr}
use mathlib.Core.List.{List, [], ◌∷◌, map}
use mathlib.Core.Option.{none}
use lib.ListN.{length, take, length-map}
use lib.Dec.{eqb}
use borrow.Author.Tests.{eqb-true, eq-eqb, not-true, le-ltb}
use Rattle.definitions.specs.Lists.{any, snoc}
use Rattle.definitions.specs.Problem.Node.{Node, node, same}
use Rattle.definitions.specs.Problem.Check.{symbols_of, nodes_of, first_wrong, distinct, functions_in, predicates_in, refuse_if}
use Rattle.definitions.specs.Problem.Asked.{reached, renumbered, trimmed, asked, ask_conditions, ask_refusal, limit_conditions, check_conditions, refusal_of}
use Rattle.theorems.proofs.Laws.Tests.{or_cases, or_left, or_right, and_left, and_right}
use Rattle.theorems.proofs.Laws.First.{all_none, none_both, first_none}
use Rattle.theorems.proofs.Elimination.Repeats.{same_node, node_same}
use Rattle.theorems.proofs.Asked.Reach.{In, in_here, in_later}
use Rattle.theorems.proofs.Asked.Trimmed.{scan}
use Rattle.theorems.proofs.Asked.Formed.{Named, named_none, cut_right, asked_nodes}

-- a node stands among others
abbrev Has : Node → List Node → Type 0
Has n ns = any (same n) ns ≡ true

has_here : (n : Node) (ns : List Node) → Has n (n ∷ ns)
has_here n ns = or_left (same n n) (any (same n) ns) (node_same n n refl)

has_later : (n m : Node) (ns : List Node) → Has n ns → Has n (m ∷ ns)
has_later n m ns h = or_right (same n m) (any (same n) ns) h

has_split : (n m : Node) (ns : List Node) → Has n (m ∷ ns) → (n ≡ m) ⊎ Has n ns
has_split n m ns h = elim (or_cases (same n m) (any (same n) ns) h) [ inl p ↦ inl (same_node n m p) | inr p ↦ inr p ]

has_before : (n m : Node) (ns : List Node) → Has n ns → Has n (snoc ns m)
has_before n m [] h = absurd (false≢true h)
has_before n m (x ∷ xs) h =
    elim (or_cases (same n x) (any (same n) xs) h) [
      | inl p ↦ or_left (same n x) (any (same n) (snoc xs m)) p
      | inr p ↦ or_right (same n x) (any (same n) (snoc xs m)) (has_before n m xs p)
    ]

has_last : (n : Node) (ns : List Node) → Has n (snoc ns n)
has_last n [] = has_here n []
has_last n (x ∷ xs) = has_later n x (snoc xs n) (has_last n xs)

has_snoc : (n m : Node) (ns : List Node) → Has n (snoc ns m) → Has n ns ⊎ (n ≡ m)
has_snoc n m [] h = elim (has_split n m [] h) [ inl p ↦ inr p | inr p ↦ absurd (false≢true p) ]
has_snoc n m (x ∷ xs) h =
    elim (or_cases (same n x) (any (same n) (snoc xs m)) h) [
      | inl p ↦ inl (or_left (same n x) (any (same n) xs) p)
      | inr p ↦ elim (has_snoc n m xs p) [ inl q ↦ inl (or_right (same n x) (any (same n) xs) q) | inr q ↦ inr q ]
    ]

-- no two are equal
abbrev Apart : List Node → Type 0
Apart [] = Unit {0}
Apart (n ∷ ns) = (Has n ns → ⊥) × Apart ns

-- all but the first that equals a node
abbrev less : Node → List Node → List Node
less n [] = []
less n (m ∷ ms) = elim (same n m) [ true ↦ ms | false ↦ m ∷ less n ms ]

less_length : (n : Node) (ms : List Node) → Has n ms → length ms ≡ suc (length (less n ms))
less_length n [] h = absurd (false≢true h)
less_length n (m ∷ ms) h = go (same n m) h (less_length n ms)
  where
    go : (b : Bool) → b || any (same n) ms ≡ true → (Has n ms → length ms ≡ suc (length (less n ms)))
        → suc (length ms) ≡ suc (length {A = Node} (elim b [ true ↦ ms | false ↦ m ∷ less n ms ]))
    go true e rec = refl
    go false e rec = ap suc (rec e)

less_has : (n x : Node) (ms : List Node) → (x ≡ n → ⊥) → Has x ms → Has x (less n ms)
less_has n x [] d h = h
less_has n x (m ∷ ms) d h = go (same n m) refl (has_split x m ms h) (less_has n x ms d)
  where
    go : (b : Bool) → same n m ≡ b → (x ≡ m) ⊎ Has x ms → (Has x ms → Has x (less n ms)) → Has x (elim b [ true ↦ ms | false ↦ m ∷ less n ms ])
    go true e (inl p) rec = absurd (d (p ∙ sym (same_node n m e)))
    go true e (inr p) rec = p
    go false e (inl p) rec = or_left (same x m) (any (same x) (less n ms)) (node_same x m p)
    go false e (inr p) rec = has_later x m (less n ms) (rec p)

-- nodes of which no two are equal, each among others, are no more than those
no_more : (xs ys : List Node) → Apart xs → ((x : Node) → Has x xs → Has x ys) → length xs ≤ length ys
no_more [] ys a f = omega arith
no_more (x ∷ xs) ys a f =
    let l = less_length x ys (f x (has_here x xs)) in
    let r = no_more xs (less x ys) a.1 (λ z h. less_has x z ys (λ e. a.0 (subst (λ (w : Node). Has w xs) e h)) (f z (has_later z x xs h))) in
    omega arith

module _ (op : ℕ) where
  -- what is distinct stands in the list, is of the op, and is none of the earlier ones
  record Fresh (earlier ns : List Node) (x : Node) : Type 0 where
    there : Has x ns
    of_op_lem : x.op ≡ op
    is_new_lem : Has x earlier → ⊥

  distinct_fresh : (earlier ns : List Node) (x : Node) → Has x (distinct op earlier ns) → Fresh earlier ns x
  distinct_fresh earlier [] x h = absurd (false≢true h)
  distinct_fresh earlier (n ∷ ns) x h = go (eqb n.op op && not (any (same n) earlier)) refl h (distinct_fresh (snoc earlier n) ns x)
    where
      later : Fresh (snoc earlier n) ns x → Fresh earlier (n ∷ ns) x
      later r = record { there = has_later x n ns r.there; of_op_lem = r.of_op_lem; is_new_lem = λ e. r.is_new_lem (has_before x n earlier e) }

      go : (b : Bool) → eqb n.op op && not (any (same n) earlier) ≡ b
          → Has x (elim b [ true ↦ n ∷ distinct op (snoc earlier n) ns | false ↦ distinct op (snoc earlier n) ns ])
          → (Has x (distinct op (snoc earlier n) ns) → Fresh (snoc earlier n) ns x) → Fresh earlier (n ∷ ns) x
      go true e i rec =
          let new = not-true (any (same n) earlier) (and_right (eqb n.op op) (not (any (same n) earlier)) e) in
          let right = eqb-true n.op op (and_left (eqb n.op op) (not (any (same n) earlier)) e) in
          elim (has_split x n (distinct op (snoc earlier n) ns) i) [
            | inl p ↦
                record {
                  there = subst (λ (y : Node). Has y (n ∷ ns)) (sym p) (has_here n ns);
                  of_op_lem = ap (λ (y : Node). y.op) p ∙ right;
                  is_new_lem = λ q. true≢false (sym (subst (λ (y : Node). Has y earlier) p q) ∙ new);
                }
            | inr p ↦ later (rec p)
          ]
      go false e i rec = later (rec i)

  distinct_apart : (earlier ns : List Node) → Apart (distinct op earlier ns)
  distinct_apart earlier [] = tt
  distinct_apart earlier (n ∷ ns) = go (eqb n.op op && not (any (same n) earlier)) (distinct_apart (snoc earlier n) ns)
    where
      go : (b : Bool) → Apart (distinct op (snoc earlier n) ns)
          → Apart (elim b [ true ↦ n ∷ distinct op (snoc earlier n) ns | false ↦ distinct op (snoc earlier n) ns ])
      go true rec = (λ h. (distinct_fresh (snoc earlier n) ns n h).is_new_lem (has_last n earlier), rec)
      go false rec = rec

  -- a node of the op that stands in the list is among the distinct ones, or among the earlier
  distinct_has : (earlier ns : List Node) (x : Node) → x.op ≡ op → Has x ns → Has x (distinct op earlier ns) ⊎ Has x earlier
  distinct_has earlier [] x o h = absurd (false≢true h)
  distinct_has earlier (n ∷ ns) x o h =
      go (eqb n.op op) (any (same n) earlier) refl refl (has_split x n ns h) (distinct_has (snoc earlier n) ns x o)
    where
      go : (a b : Bool) → eqb n.op op ≡ a → any (same n) earlier ≡ b → (x ≡ n) ⊎ Has x ns
          → (Has x ns → Has x (distinct op (snoc earlier n) ns) ⊎ Has x (snoc earlier n))
          → Has x (elim (a && not b) [ true ↦ n ∷ distinct op (snoc earlier n) ns | false ↦ distinct op (snoc earlier n) ns ]) ⊎ Has x earlier
      go a true p q (inl e) rec = inr (subst (λ (y : Node). Has y earlier) (sym e) q)
      go true false p q (inl e) rec = inl (or_left (same x n) _ (node_same x n e))
      go false false p q (inl e) rec = absurd (false≢true (sym p ∙ eq-eqb n.op op (sym (ap (λ (y : Node). y.op) e) ∙ o)))
      go true false p q (inr i) rec =
          elim (rec i) [
            | inl k ↦ inl (has_later x n (distinct op (snoc earlier n) ns) k)
            | inr k ↦ elim (has_snoc x n earlier k) [ inl z ↦ inr z | inr z ↦ inl (or_left (same x n) _ (node_same x n z)) ]
          ]
      go true true p q (inr i) rec =
          elim (rec i) [
            | inl k ↦ inl k
            | inr k ↦ elim (has_snoc x n earlier k) [ inl z ↦ inr z | inr z ↦ inr (subst (λ (y : Node). Has y earlier) (sym z) q) ]
          ]
      go false b p q (inr i) rec =
          elim (rec i) [
            | inl k ↦ inl k
            | inr k ↦
                elim (has_snoc x n earlier k) [
                  | inl z ↦ inr z
                  | inr z ↦ absurd (false≢true (sym p ∙ eq-eqb n.op op (sym (ap (λ (y : Node). y.op) z) ∙ o)))
                ]
          ]

-- a node of a list stands in it; and through a map
has_node : (t : List Node) (k : ℕ) → k < length t → Has (node t k) t
has_node [] k h = absurd (omega arith)
has_node (n ∷ t) zero h = has_here n t
has_node (n ∷ t) (suc k) h = has_later (node t k) n t (has_node t k (omega arith))

has_map : (f : Node → Node) (n : Node) (ns : List Node) → Has n ns → Has (f n) (map f ns)
has_map f n [] h = absurd (false≢true h)
has_map f n (m ∷ ms) h =
    elim (has_split n m ms h) [
      | inl p ↦ or_left (same (f n) (f m)) (any (same (f n)) (map f ms)) (node_same (f n) (f m) (ap f p))
      | inr p ↦ has_later (f n) (f m) (map f ms) (has_map f n ms p)
    ]

map_from : (f : ℕ → Node) (ks : List ℕ) (x : Node) → Has x (map f ks) → (k : ℕ) × In k ks × (x ≡ f k)
map_from f [] x h = absurd (false≢true h)
map_from f (k ∷ ks) x h =
    elim (has_split x (f k) (map f ks) h) [
      | inl p ↦ (k, in_here k ks, p)
      | inr p ↦ (let r = map_from f ks x p in (r.0, in_later r.0 k ks r.1, r.2))
    ]

pub trimmed_fewer : (op : ℕ) (symbols : List ℕ) (t : List Node) → first_wrong symbols [] t ≡ none
    → length (distinct op [] (trimmed symbols t)) ≤ length (distinct op [] t)
trimmed_fewer op symbols t right =
    let r : List ℕ = reached symbols t in
    let new : Node → Node = renumbered symbols r in
    let sc = scan symbols t right in
    let l = length-map (distinct op [] t) new in
    let few =
    no_more (distinct op [] (trimmed symbols t)) (map new (distinct op [] t)) (distinct_apart op [] (trimmed symbols t))
    (λ x h.
    let f = distinct_fresh op [] (trimmed symbols t) x h in
    let k = map_from (λ j. new (node t j)) r x f.there in
    let n : Node = node t k.0 in
    elim (distinct_has op [] t n (sym (ap (λ (y : Node). y.op) k.2) ∙ f.of_op_lem) (has_node t k.0 (sc.below k.0 k.1))) [
      | inl i ↦ subst (λ (y : Node). Has y (map new (distinct op [] t))) (sym k.2) (has_map new n (distinct op [] t) i)
      | inr i ↦ absurd (false≢true i)
    ])
    in
    omega arith

-- nor has a table fewer of them than its first nodes
distinct_take : (op : ℕ) (earlier : List Node) (m : ℕ) (t : List Node) → length (distinct op earlier (take m t)) ≤ length (distinct op earlier t)
distinct_take op earlier zero t = omega arith
distinct_take op earlier (suc m) [] = omega arith
distinct_take op earlier (suc m) (n ∷ t) = go (eqb n.op op && not (any (same n) earlier)) (distinct_take op (snoc earlier n) m t)
  where
    go : (b : Bool) → length (distinct op (snoc earlier n) (take m t)) ≤ length (distinct op (snoc earlier n) t)
        → length {A = Node} (elim b [ true ↦ n ∷ distinct op (snoc earlier n) (take m t) | false ↦ distinct op (snoc earlier n) (take m t) ])
        ≤ length {A = Node} (elim b [ true ↦ n ∷ distinct op (snoc earlier n) t | false ↦ distinct op (snoc earlier n) t ])
    go true rec = omega arith
    go false rec = rec

module _ (s : List ℕ) (root : ℕ) (ok : Named s root) where
  asked_fewer : (op : ℕ) → length (distinct op [] (nodes_of (asked s root))) ≤ length (distinct op [] (nodes_of s))
  asked_fewer op =
      let cut : List Node = take (suc root) (nodes_of s) in
      let same_nodes = ap (λ (u : List Node). length (distinct op [] u)) (asked_nodes s root ok) in
      let fewer = trimmed_fewer op (symbols_of s) cut (cut_right s root ok) in
      let first = distinct_take op [] (suc root) (nodes_of s) in
      omega arith

  -- a root of a table within the limits is taken
  pub within_taken : functions_in (nodes_of s) ≤ 24 → predicates_in (nodes_of s) ≤ 16 → refusal_of s root ≡ none
  unfolding refusal_of ask_refusal
  within_taken f p =
      let functions = asked_fewer 0 in
      let predicates = asked_fewer 6 in
      first_none (check_conditions s root)
      (none_both (ask_conditions s root) (limit_conditions (asked s root)) (all_none (ask_conditions s root) (named_none s root ok)) (
        ap (λ b. refuse_if b 9) (le-ltb 24 (functions_in (nodes_of (asked s root))) (omega arith)),
        (ap (λ b. refuse_if b 10) (le-ltb 16 (predicates_in (nodes_of (asked s root))) (omega arith)), tt),
      ))
