-- The one step by which a table grows: an equal node, or one appended. It keeps every earlier node, its number is that of the
-- node asked for, operands stay below their nodes, and no two nodes become equal (02, E1: "equal nodes stand once"). Assumes nothing.
use mathlib.Core.Path.{◌≡◌, refl, sym, ap, ◌∙◌}
use Prim.Native.Nat.{ℕ, zero, suc, ◌+◌, ◌<◌, ◌≤◌}
use native.Mathlib.Omega.{arith}
use mathlib.Core.Bool.{Bool, true, false, not, true≢false}
use mathlib.Core.List.{List, [], ◌∷◌, ◌++◌, append-nil}
use mathlib.Core.Logic.{◌⊎◌, inl, inr}
use mathlib.Core.Option.{Option, none, some}
use lib.ListN.{length, length-append, get_or-append}
use lib.Seq.{get_or-append_seam}
use Rattle.definitions.specs.Lists.{snoc, first_failing}
use Rattle.definitions.specs.Problem.Node.{Node, node, no_node, same}
use Rattle.definitions.specs.Problem.Ops.{operands_of}
use Rattle.definitions.specs.Logic.{Interpretation, Value, number, value_at, node_value, values}
use Rattle.theorems.specs.Origins.{NoTwins}
use Rattle.theorems.proofs.Laws.Tests.{some_same, none≢some, split}
use Rattle.theorems.proofs.Laws.Grown.{grown_prefix, length_grown}
use Rattle.theorems.proofs.Laws.Ops.{AllBelow}
use Rattle.theorems.proofs.Elimination.Repeats.{same_node, node_same}
use Rattle.theorems.proofs.Tables.Fixed.{node_same_value, value_fixed}
use Rattle.definitions.specs.Text.Nodes.{Laid, place_of, found_or, ask}

-- where a scan finds an equal node, and what it says where it finds none
pub record Stands (n : Node) (t : List Node) (i k : ℕ) : Type 0 where
  pub at : ℕ
  pub place : k ≡ i + at
  pub inside : at < length t
  pub equal : node t at ≡ n

module _ (n : Node) where
  abbrev other : Node → Bool
  other m = not (same n m)

  pub scan_some : (i k : ℕ) (t : List Node) → first_failing other i t ≡ some k → Stands n t i k
  scan_some i k [] e = absurd (none≢some e)
  scan_some i k (m ∷ t) e = go (same n m) refl e (λ e'. scan_some (suc i) k t e')
    where
      go : (b : Bool) → same n m ≡ b → ◌≡◌ {A = Option ℕ} (elim (not b) [ true ↦ first_failing other (suc i) t | false ↦ some i ]) (some k)
          → (first_failing other (suc i) t ≡ some k → Stands n t (suc i) k) → Stands n (m ∷ t) i k
      go true q e' rec = let r = some_same i k e' in record { at = 0; place = omega arith; inside = omega arith; equal = sym (same_node n m q) }
      go false q e' rec =
          let r = rec e' in
          let p = r.place in
          let l = r.inside in
          record { at = suc r.at; place = omega arith; inside = omega arith; equal = r.equal }

  pub scan_none : (i : ℕ) (t : List Node) → first_failing other i t ≡ none → (k : ℕ) → k < length t → node t k ≡ n → ⊥
  scan_none i [] e k h q = omega arith
  scan_none i (m ∷ t) e k h q = go (same n m) refl e k h q (λ e' k' h' q'. scan_none (suc i) t e' k' h' q')
    where
      go : (b : Bool) → same n m ≡ b → ◌≡◌ {A = Option ℕ} (elim (not b) [ true ↦ first_failing other (suc i) t | false ↦ some i ]) none
          → (k : ℕ) → k < suc (length t) → node (m ∷ t) k ≡ n
          → (first_failing other (suc i) t ≡ none → (k : ℕ) → k < length t → node t k ≡ n → ⊥) → ⊥
      go true p e' k h q rec = none≢some (sym e')
      go false p e' zero h q rec = true≢false (sym (node_same n m (sym q)) ∙ p)
      go false p e' (suc k) h q rec = rec e' k (omega arith) q

-- what a step gives: the table longer or as it was, and in it, at the number answered, the node asked for
pub record Given (n : Node) (t : List Node) (l : Laid) : Type 0 where
  pub more : List Node
  pub extends : l.table ≡ t ++ more
  pub inside : l.number < length l.table
  pub means : node l.table l.number ≡ n

pub ask_given : (n : Node) (t : List Node) → Given n t (ask n t)
unfolding ask
ask_given n t = go (place_of n t) refl
  where
    go : (o : Option ℕ) → place_of n t ≡ o → Given n t (found_or n t o)
    go (some k) e =
        let f = scan_some n 0 k t e in
        let p : f.at ≡ k = (let q = f.place in omega arith) in
        let l = f.inside in
        record { more = []; extends = sym (append-nil t); inside = omega arith; means = ap (node t) (sym p) ∙ f.equal }
    go none e =
        record {
          more = n ∷ [];
          extends = refl;
          inside = rw length-append (omega arith);
          means = get_or-append_seam t n [] no_node;
        }

-- the operands in use of every node are earlier nodes
abbrev pub Earlier : List ℕ → List Node → Type 0
Earlier symbols t = (k : ℕ) → k < length t → AllBelow k (operands_of symbols (node t k))

-- a number of a table with one more node is one of the table's or the new one's
pub last_or_before : (t : List Node) (n : Node) (k : ℕ) → k < length (snoc t n) → (k < length t) ⊎ (k ≡ length t)
last_or_before t n k h = go (split k (length t))
  where
    go : (k < length t) ⊎ (length t ≤ k) → (k < length t) ⊎ (k ≡ length t)
    go (inl l) = inl l
    go (inr l) = inr (let e : length (snoc t n) ≡ length t + 1 = length-append t (n ∷ []) in omega arith)

pub before_same : (t : List Node) (n : Node) (k : ℕ) → k < length t → node (snoc t n) k ≡ node t k
before_same t n k h = get_or-append t (n ∷ []) no_node k h

pub last_is : (t : List Node) (n : Node) (k : ℕ) → k ≡ length t → node (snoc t n) k ≡ n
last_is t n k e = ap (node (snoc t n)) e ∙ get_or-append_seam t n [] no_node

pub snoc_earlier : (symbols : List ℕ) (t : List Node) (n : Node) → Earlier symbols t → AllBelow (length t) (operands_of symbols n)
    → Earlier symbols (snoc t n)
snoc_earlier symbols t n earlier b k h = go (last_or_before t n k h)
  where
    go : (k < length t) ⊎ (k ≡ length t) → AllBelow k (operands_of symbols (node (snoc t n) k))
    go (inl l) = rw (before_same t n k l) (earlier k l)
    go (inr e) = rw (last_is t n k e, e) b

pub ask_earlier : (symbols : List ℕ) (n : Node) (t : List Node) → Earlier symbols t → AllBelow (length t) (operands_of symbols n)
    → Earlier symbols (ask n t).table
unfolding ask
ask_earlier symbols n t earlier b = go (place_of n t)
  where
    go : (o : Option ℕ) → Earlier symbols (found_or n t o).table
    go (some k) = earlier
    go none = snoc_earlier symbols t n earlier b

pub snoc_twins : (t : List Node) (n : Node) → NoTwins t → ((k : ℕ) → k < length t → node t k ≡ n → ⊥) → NoTwins (snoc t n)
snoc_twins t n twins new i j h g e = go (last_or_before t n i h) (last_or_before t n j g)
  where
    go : (i < length t) ⊎ (i ≡ length t) → (j < length t) ⊎ (j ≡ length t) → i ≡ j
    go (inl a) (inl b) = twins i j a b (sym (before_same t n i a) ∙ e ∙ before_same t n j b)
    go (inl a) (inr b) = absurd (new i a (sym (before_same t n i a) ∙ e ∙ last_is t n j b))
    go (inr a) (inl b) = absurd (new j b (sym (before_same t n j b) ∙ sym e ∙ last_is t n i a))
    go (inr a) (inr b) = a ∙ sym b

pub ask_twins : (n : Node) (t : List Node) → NoTwins t → NoTwins (ask n t).table
unfolding ask
ask_twins n t twins = go (place_of n t) refl
  where
    go : (o : Option ℕ) → place_of n t ≡ o → NoTwins (found_or n t o).table
    go (some k) e = twins
    go none e = snoc_twins t n twins (scan_none n 0 t e)

module _ (I : Interpretation) (symbols : List ℕ) where
  -- a longer table keeps the values of its first part
  pub values_kept : (t more : List Node) (k : ℕ) → k < length t → value_at (values I symbols (t ++ more)) k ≡ value_at (values I symbols t) k
  values_kept t more k h =
      let q = grown_prefix (node_value I symbols) t more in
      let l : k < length (values I symbols t) = (let e = length_grown (node_value I symbols) t in omega arith) in
      ap (λ (vs : List Value). value_at vs k) q.1 ∙ get_or-append (values I symbols t) q.0 (number 0) k l

  -- the step gives the right value: that of the node asked for, over the values that stood before
  pub ask_value : (n : Node) (t : List Node) → Earlier symbols t → AllBelow (length t) (operands_of symbols n)
      → value_at (values I symbols (ask n t).table) (ask n t).number ≡ node_value I symbols (values I symbols t) n
  ask_value n t earlier b =
      let g = ask_given n t in
      let u : List Node = (ask n t).table in
      let k : ℕ = (ask n t).number in
      value_fixed I symbols u k g.inside (ask_earlier symbols n t earlier b k g.inside)
      ∙ ap (node_value I symbols (values I symbols u)) g.means
      ∙ node_same_value (values I symbols u) (values I symbols t) (length t)
      (λ i h. ap (λ (w : List Node). value_at (values I symbols w) i) g.extends ∙ values_kept t g.more i h) I symbols n b
