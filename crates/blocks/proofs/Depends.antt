-- What a node's value depends on. The set of a node's digits: its own for a variable and a truth variable, else the union of its
-- operands'. Two assignments that agree on a node's set give it the same value. Assumes nothing.
use mathlib.Core.Path.{◌≡◌, refl, sym, ap, ◌∙◌, subst}
use Prim.Native.Nat.{ℕ, zero, suc, ◌+◌, ◌<◌}
use native.Mathlib.Omega.{arith}
use mathlib.Core.Bool.{Bool, true, false, ◌||◌}
use mathlib.Core.List.{List, [], ◌∷◌}
use mathlib.Core.Logic.{inl, inr}
use lib.ListN.{length, get_or, take}
use lib.Seq.{get_or-take, length-take-le}
use lib.Dec.{eqb}
use borrow.Author.Tests.{eq-eqb}
use Rattle.definitions.specs.Lists.{any}
use Rattle.definitions.specs.Problem.Node.{Node, node}
use Rattle.definitions.specs.Problem.Ops.{op_of, operand_sorts, arity, fields_of, operands_of, is_app}
use Rattle.definitions.specs.Logic.{Value, number, truth, value_at, op_value, node_value, values}
use Rattle.definitions.specs.Places.{assignment}
use Rattle.theorems.proofs.Laws.Tests.{or_left, or_right}
use Rattle.theorems.proofs.Laws.Grown.{grown_at}
use Rattle.theorems.proofs.Laws.Ops.{Alike, AllBelow, app_op, op_alike, fits_below}
use Rattle.theorems.proofs.Tables.Free.{Free, free_fits, free_fixed}
use Rattle.blocks.specs.Sets.{set_at, owns, set_of, sets, depends}

-- every number of a list has a property
abbrev pub Each : (ℕ → Type 0) → List ℕ → Type 0
Each Q [] = Unit {0}
Each Q (k ∷ ks) = Q k × Each Q ks

-- the operands in use of a function-free node
abbrev pub operands_at : List Node → ℕ → List ℕ
operands_at t k = operands_of [] (node t k)

-- they are earlier nodes
pub operands_below : (N P : ℕ) (t : List Node) → Free N P t → (k : ℕ) → k < length t → AllBelow k (operands_at t k)
operands_below N P t free k h =
    subst (λ (m : ℕ). AllBelow m (operands_at t k)) (length-take-le k t (omega arith))
    (fits_below (take k t) (operand_sorts (op_of (node t k).op) 0) (fields_of (node t k)) (free_fits N P t free k h))

-- an application of a variable or a truth variable, by its digit
pub app_values : (N : ℕ) (ds es : List ℕ) (vs ws : List Value) (op : ℕ) (n : Node) (xs ys : List ℕ) → is_app (op_of op) ≡ true
    → (op ≡ 0 → get_or ds n.sym 0 ≡ get_or es n.sym 0)
    → (op ≡ 6 → get_or ds (N + n.sym) 0 ≡ get_or es (N + n.sym) 0)
    → op_value (assignment N ds) vs (op_of op) n xs ≡ op_value (assignment N es) ws (op_of op) n ys
app_values N ds es vs ws op n xs ys p f g =
    elim (app_op op p) [
      | inl q ↦ rw q (ap (λ (d : ℕ). number (suc d)) (f q))
      | inr q ↦ rw q (ap (λ (d : ℕ). truth (eqb d 1)) (g q))
    ]

-- Nodes that stay: a property that goes down to operands, and under which a variable's own digit is the same in both
-- assignments. Such nodes have one value at both.
module _
    (N P : ℕ)
    (t : List Node)
    (free : Free N P t)
    (ds es : List ℕ)
    (Stays : ℕ → Type 0)
    (variable : (k : ℕ) → k < length t → Stays k → (node t k).op ≡ 0 → get_or ds (node t k).sym 0 ≡ get_or es (node t k).sym 0)
    (truth-variable : (k : ℕ) → k < length t → Stays k → (node t k).op ≡ 6 → get_or ds (N + (node t k).sym) 0 ≡ get_or es (N + (node t k).sym) 0)
    (down : (k : ℕ) → k < length t → Stays k → Each Stays (operands_at t k)) where
  abbrev vs : List Value
  vs = values (assignment N ds) [] t

  abbrev ws : List Value
  ws = values (assignment N es) [] t

  alike : (k : ℕ) → ((j : ℕ) → j < k → Stays j → value_at vs j ≡ value_at ws j)
      → (ks : List ℕ) → AllBelow k ks → Each Stays ks → Alike vs ws ks ks
  alike k known [] b s = tt
  alike k known (j ∷ ks) b s = (known j b.0 s.0, alike k known ks b.1 s.1)

  stays_one : (k : ℕ) → k < length t → Stays k → ((j : ℕ) → j < k → Stays j → value_at vs j ≡ value_at ws j)
      → value_at vs k ≡ value_at ws k
  stays_one k h s known =
      free_fixed N P t free k h (assignment N ds) ∙ go (is_app (op_of (node t k).op)) refl ∙ sym (free_fixed N P t free k h (assignment N es))
    where
      go : (b : Bool) → is_app (op_of (node t k).op) ≡ b
          → node_value (assignment N ds) [] vs (node t k) ≡ node_value (assignment N es) [] ws (node t k)
      go true p =
          app_values N ds es vs ws (node t k).op (node t k) _ _ p (variable k h s) (truth-variable k h s)
      go false p =
          op_alike (assignment N ds) (assignment N es) vs ws (op_of (node t k).op) (arity [] (node t k).sym) (node t k) (node t k) _ _ p
          (alike k known (operands_at t k) (operands_below N P t free k h) (down k h s))

  stays_before : (m k : ℕ) → k < m → k < length t → Stays k → value_at vs k ≡ value_at ws k
  stays_before zero k h b s = absurd (omega arith)
  stays_before (suc m) k h b s = stays_one k b s (λ j l. stays_before m j (omega arith) (omega arith))

  pub stays_value : (k : ℕ) → k < length t → Stays k
      → value_at (values (assignment N ds) [] t) k ≡ value_at (values (assignment N es) [] t) k
  stays_value k b s = stays_before (suc k) k (omega arith) b s

-- two assignments agree on a node's set
abbrev pub Agree : ℕ → List Node → List ℕ → List ℕ → ℕ → Type 0
Agree N t ds es k = (v : ℕ) → depends N t k v ≡ true → get_or ds v 0 ≡ get_or es v 0

any_take : (ss : List (ℕ → Bool)) (k v : ℕ) (ks : List ℕ) → AllBelow k ks
    → any (λ j. set_at (take k ss) j v) ks ≡ any (λ j. set_at ss j v) ks
any_take ss k v [] b = refl
any_take ss k v (j ∷ ks) b =
    ap (λ (f : ℕ → Bool). f v || any (λ i. set_at (take k ss) i v) ks) (get_or-take k ss j (λ _. false) b.0)
    ∙ ap (λ (x : Bool). set_at ss j v || x) (any_take ss k v ks b.1)

module _ (N P : ℕ) (t : List Node) (free : Free N P t) where
  -- a node's set is its own digit and its operands' sets
  pub depends_fixed : (k v : ℕ) → k < length t
      → depends N t k v ≡ owns N (op_of (node t k).op) (node t k) v || any (λ j. depends N t j v) (operands_at t k)
  depends_fixed k v h =
      ap (λ (f : ℕ → Bool). f v) (grown_at (set_of N) t k (λ _. false) h)
      ∙ ap (λ (x : Bool). owns N (op_of (node t k).op) (node t k) v || x)
      (any_take (sets N t) k v (operands_at t k) (operands_below N P t free k h))

  -- digit v of an operand is the node's too
  any_each : (f : ℕ → Bool) (b : Bool) (ks : List ℕ) → (any f ks ≡ true → b ≡ true) → Each (λ k. f k ≡ true → b ≡ true) ks
  any_each f b [] g = tt
  any_each f b (k ∷ ks) g = (λ e. g (or_left (f k) (any f ks) e), any_each f b ks (λ e. g (or_right (f k) (any f ks) e)))

  pub depends_operands : (k v : ℕ) → k < length t → Each (λ j. depends N t j v ≡ true → depends N t k v ≡ true) (operands_at t k)
  depends_operands k v h =
      any_each (λ j. depends N t j v) (depends N t k v) (operands_at t k)
      (λ e. depends_fixed k v h ∙ or_right (owns N (op_of (node t k).op) (node t k) v) _ e)

  pub depends_variable : (k : ℕ) → k < length t → (node t k).op ≡ 0 → depends N t k (node t k).sym ≡ true
  depends_variable k h q =
      depends_fixed k (node t k).sym h
      ∙ or_left (owns N (op_of (node t k).op) (node t k) (node t k).sym) _
      (ap (λ (o : ℕ). owns N (op_of o) (node t k) (node t k).sym) q ∙ eq-eqb (node t k).sym (node t k).sym refl)

  pub depends_truth : (k : ℕ) → k < length t → (node t k).op ≡ 6 → depends N t k (N + (node t k).sym) ≡ true
  depends_truth k h q =
      depends_fixed k (N + (node t k).sym) h
      ∙ or_left (owns N (op_of (node t k).op) (node t k) (N + (node t k).sym)) _
      (ap (λ (o : ℕ). owns N (op_of o) (node t k) (N + (node t k).sym)) q ∙ eq-eqb (N + (node t k).sym) (N + (node t k).sym) refl)

  agree_each : (ds es : List ℕ) (k : ℕ) → Agree N t ds es k → (ks : List ℕ)
      → ((v : ℕ) → Each (λ j. depends N t j v ≡ true → depends N t k v ≡ true) ks) → Each (Agree N t ds es) ks
  agree_each ds es k a [] g = tt
  agree_each ds es k a (j ∷ ks) g = (λ v e. a v ((g v).0 e), agree_each ds es k a ks (λ v. (g v).1))

  -- two assignments that agree on a node's set give it the same value
  pub agree_value : (ds es : List ℕ) (k : ℕ) → k < length t → Agree N t ds es k
      → value_at (values (assignment N ds) [] t) k ≡ value_at (values (assignment N es) [] t) k
  agree_value ds es k h a =
      stays_value N P t free ds es (Agree N t ds es) (λ j l s q. s (node t j).sym (depends_variable j l q))
      (λ j l s q. s (N + (node t j).sym) (depends_truth j l q))
      (λ j l s. agree_each ds es j s (operands_at t j) (λ v. depends_operands j v l))
      k h a
