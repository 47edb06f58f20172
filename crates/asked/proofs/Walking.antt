-- The walk from the root down: what is marked, and how many are found, after each node. Assumes nothing.
use mathlib.Core.Path.{◌≡◌, refl, sym, ap, ap₂, ◌∙◌}
use Prim.Native.Nat.{ℕ, zero, suc, ◌+◌, ◌-◌, ◌≤◌, ◌<◌}
use native.Mathlib.Omega.{arith}
use mathlib.Core.Bool.{Bool, true, false, cond, ◌||◌, true≢false, false≢true}
use mathlib.Core.Logic.{inl, inr}
use mathlib.Core.List.{List, [], ◌∷◌, ◌++◌}
use mathlib.Core.Option.{none}
use lib.ListN.{length, get_or, set, take, replicate, length-append, length-set, length-replicate}
use lib.Seq.{get_or-take, length-take-le, get_or-set_same, get_or-set_other}
use lib.Dec.{eqb}
use borrow.Author.Tests.{eqb-true, eq-eqb}
use Rattle.definitions.specs.Lists.{snoc}
use Rattle.definitions.specs.Problem.Node.{Node, node, no_node}
use Rattle.definitions.specs.Problem.Ops.{operands_of}
use Rattle.definitions.specs.Problem.Check.{node_count, symbols_of, nodes_of, first_wrong}
use Rattle.definitions.specs.Problem.Asked.{wanted_below}
use Rattle.theorems.proofs.Accepted.{Layout}
use Rattle.theorems.proofs.Laws.Tests.{split, same_test}
use Rattle.theorems.proofs.Laws.Ops.{AllBelow}
use Rattle.theorems.proofs.Asked.Reach.{reaches}
use Rattle.theorems.proofs.Asked.Marks.{mark, mark_append, marked_below, stays_marked, marks_found}
use Rattle.theorems.proofs.Asked.Trimmed.{wrong_take, earlier}
use Rattle.problem.proofs.NodeLaws.{length_nodes_of}
use Rattle.asked.specs.Reached.{operands_at, reached_of, Marked, MarksAre, Reaching}

-- of zeros, one is set
get_d_zeros : (n i : ℕ) → ◌≡◌ {A = ℕ} (get_or (replicate n 0) i 0) 0
get_d_zeros zero i = refl
get_d_zeros (suc n) zero = refl
get_d_zeros (suc n) (suc i) = get_d_zeros n i

cond_or : (a b : Bool) (y : ℕ) → cond a 1 (cond b 1 y) ≡ cond (a || b) 1 y
cond_or true b y = refl
cond_or false b y = refl

cond_one : (b : Bool) → ◌≡◌ {A = ℕ} (cond b 1 0) 1 → b ≡ true
cond_one true e = refl
cond_one false e = absurd (omega arith)

cond_other : (b : Bool) → (◌≡◌ {A = ℕ} (cond b 1 0) 1 → ⊥) → b ≡ false
cond_other true n = absurd (n refl)
cond_other false n = refl

-- before node k - 1 is looked at: these are marked, and so many are found
pub record Walking (s : List ℕ) (root : ℕ) (marks : List ℕ) (count k : ℕ) : Type 0 where
  pub within : k ≤ suc root
  pub long : length marks ≡ 256
  wanted : List ℕ
  marked : MarksAre wanted marks
  finds : marked_below (symbols_of s) (take (suc root) (nodes_of s)) k wanted
      ≡ marked_below (symbols_of s) (take (suc root) (nodes_of s)) (suc root) (root ∷ [])
  found : count + length (wanted_below (symbols_of s) (take (suc root) (nodes_of s)) k wanted) ≡ length (reached_of s root)

module _ {s : List ℕ} (l : Layout s) (root : ℕ) (inside : root < node_count s) where
  abbrev symbols : List ℕ
  symbols = symbols_of s

  abbrev cut : List Node
  cut = take (suc root) (nodes_of s)

  cut_length : length cut ≡ suc root
  cut_length = length-take-le (suc root) (nodes_of s) (omega (arith, length_nodes_of s))

  cut_right : first_wrong symbols [] cut ≡ none
  cut_right = wrong_take symbols (suc root) (nodes_of s) (omega (arith, length_nodes_of s)) l.nodes_right

  lower : (k : ℕ) → k < length cut → AllBelow k (operands_of symbols (node cut k))
  lower = earlier symbols cut cut_right

  -- the nodes up to the root are those of the table
  same_operands : (k : ℕ) → k ≤ root → operands_of symbols (node cut k) ≡ operands_at s k
  same_operands k b = ap (operands_of symbols) (get_or-take (suc root) (nodes_of s) k no_node (omega arith))

  from_root : reached_of s root ≡ wanted_below symbols cut (suc root) (root ∷ [])
  from_root =
      let c = cut_length in
      let q : length cut - 1 ≡ root = omega arith in
      ap₂ {C = List ℕ} (λ (m k : ℕ). wanted_below symbols cut m (k ∷ [])) c q

  pub walk_begins : (marks : List ℕ) → marks ≡ replicate 256 0 → Walking s root (set marks root 1) 0 (root + 1)
  walk_begins marks e =
      let few = l.few_nodes in
      let one : root + 1 ≡ suc root = omega arith in
      let long : length marks ≡ 256 = ap length e ∙ length-replicate {A = ℕ} 256 0 in
      record {
        within = omega arith;
        long = length-set marks root 1 ∙ long;
        wanted = root ∷ [];
        marked = λ j b. begun marks e long j;
        finds = ap (λ (k : ℕ). marked_below symbols cut k (root ∷ [])) one;
        found =
            (let a = ap (λ (k : ℕ). length (wanted_below symbols cut k (root ∷ []))) one in
            let b = ap length from_root in
            omega arith);
      }
    where
      begun : (m : List ℕ) → m ≡ replicate 256 0 → length m ≡ 256 → (j : ℕ) → get_or (set m root 1) j 0 ≡ cond (mark (root ∷ []) j) 1 0
      begun m e long j = go (eqb j root) refl
        where
          go : (b : Bool) → eqb j root ≡ b → get_or (set m root 1) j 0 ≡ cond (b || false) 1 0
          go true q =
              ap (λ (k : ℕ). get_or (set m root 1) k 0) (eqb-true j root q)
              ∙ get_or-set_same m root 1 0 (let few = l.few_nodes in omega arith)
          go false q =
              get_or-set_other m root j 1 0 (λ p. true≢false (sym (eq-eqb j root p) ∙ q))
              ∙ ap (λ (xs : List ℕ). get_or xs j 0) e ∙ get_d_zeros 256 j

  -- node k is marked: it is found, and its operands in use are wanted too
  pub walk_marked : (marks marks' : List ℕ) (count k : ℕ) → Walking s root marks count (suc k) → get_or marks k 0 ≡ 1
      → Marked (operands_at s k) marks marks' → length marks' ≡ 256 → Walking s root marks' (count + 1) k
  walk_marked marks marks' count k v one m long =
      let in-range = v.within in
      let few = l.few_nodes in
      let here : mark v.wanted k ≡ true = cond_one (mark v.wanted k) (sym (v.marked k (omega arith)) ∙ one) in
      let ops : List ℕ = operands_of symbols (node cut k) in
      let more = wanted_below symbols cut k (ops ++ v.wanted) in
      let count-it =
      ap (λ (b : Bool). length {A = ℕ} (elim b [ true ↦ snoc more k | false ↦ wanted_below symbols cut k v.wanted ])) here
      in
      let f = v.found in
      let a = length-append more (k ∷ []) in
      record {
        within = omega arith;
        long = long;
        wanted = ops ++ v.wanted;
        marked =
            λ j b.
            m j b ∙ ap₂ (λ (these : List ℕ) (y : ℕ). cond (mark these j) 1 y) (sym (same_operands k (omega arith))) (v.marked j b)
            ∙ cond_or (mark ops j) (mark v.wanted j) 0
            ∙ ap (λ (b : Bool). cond b 1 0) (sym (mark_append j ops v.wanted));
        finds =
            sym (ap {B = List ℕ} (λ (b : Bool). elim b [ true ↦ marked_below symbols cut k (ops ++ v.wanted) | false ↦ marked_below symbols cut k v.wanted ]) here)
            ∙ v.finds;
        found = omega arith;
      }

  -- node k is not marked: it is no part of the problem asked
  pub walk_passed : (marks : List ℕ) (count k : ℕ) → Walking s root marks count (suc k) → (get_or marks k 0 ≡ 1 → ⊥) → Walking s root marks count k
  walk_passed marks count k v other =
      let in-range = v.within in
      let few = l.few_nodes in
      let away : mark v.wanted k ≡ false = cond_other (mark v.wanted k) (λ e. other (v.marked k (omega arith) ∙ e)) in
      let ops : List ℕ = operands_of symbols (node cut k) in
      let same =
      ap {B = List ℕ} (λ (b : Bool). elim b [ true ↦ snoc (wanted_below symbols cut k (ops ++ v.wanted)) k | false ↦ wanted_below symbols cut k v.wanted ]) away
      in
      record {
        within = omega arith;
        long = v.long;
        wanted = v.wanted;
        marked = v.marked;
        finds =
            sym (ap {B = List ℕ} (λ (b : Bool). elim b [ true ↦ marked_below symbols cut k (ops ++ v.wanted) | false ↦ marked_below symbols cut k v.wanted ]) away)
            ∙ v.finds;
        found = ap (λ (xs : List ℕ). count + length xs) (sym same) ∙ v.found;
      }

  -- at the end the marks are what the root reaches
  marks_reached : (j : ℕ) → mark (reached_of s root) j ≡ mark (marked_below symbols cut (suc root) (root ∷ [])) j
  marks_reached j =
      let c = cut_length in
      ap (λ (xs : List ℕ). mark xs j) from_root
      ∙ elim (split j (suc root)) [
        | inl b ↦ marks_found symbols cut lower (suc root) (omega arith) (root ∷ []) j b
        | inr b ↦
            same_test (mark (wanted_below symbols cut (suc root) (root ∷ [])) j) false
            (λ e. (let r = (reaches symbols cut lower (suc root) (omega arith) (root ∷ [])).below j e in absurd (omega arith)))
            (λ e. absurd (false≢true e))
            ∙ sym
            (stays_marked symbols cut lower (suc root) (omega arith) (root ∷ []) j b
            ∙ same_test (mark (root ∷ []) j) false
            (λ e. absurd (not_root e b)) (λ e. absurd (false≢true e)))
      ]
    where
      not_root : mark (root ∷ []) j ≡ true → suc root ≤ j → ⊥
      not_root e b = go (eqb j root) refl e
        where
          go : (x : Bool) → eqb j root ≡ x → x || false ≡ true → ⊥
          go true q z = let same = eqb-true j root q in omega arith
          go false q z = false≢true z

  pub walk_ends : (marks : List ℕ) (count : ℕ) → Walking s root marks count 0 → Reaching s root marks count
  walk_ends marks count v =
      record {
        marked =
            λ j b.
            v.marked j b ∙ ap (λ (xs : List ℕ). cond (mark xs j) 1 0) v.finds ∙ ap (λ (b : Bool). cond b 1 0) (sym (marks_reached j));
        counted = (let f = v.found in omega arith);
      }
