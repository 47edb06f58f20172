-- The root is never a repeat (02, E2): in the problem asked, no earlier node equals the last one, so elimination lays it and its image is the
-- table's last node. Every earlier node lies at or below some operand of the root; a node equal to the root would have that operand too, and
-- so lie above it. Assumes nothing.
use mathlib.Core.Path.{◌≡◌, refl, sym, ap, ◌∙◌, subst}
use Prim.Native.Nat.{ℕ, zero, suc, ◌+◌, ◌-◌, ◌<◌, ◌≤◌}
use native.Mathlib.Omega.{arith}
use mathlib.Core.Logic.{inl, inr}
use mathlib.Core.List.{List, [], ◌∷◌, ◌++◌, append-nil, append_assoc}
use mathlib.Core.Option.{none}
use lib.ListN.{length, get_or, take, length-append}
use lib.Seq.{get_or-take, length-take-le, take-suc, take_all, get_or_at}
use Rattle.definitions.specs.Lists.{snoc}
use Rattle.definitions.specs.Problem.Node.{Node, node, no_node}
use Rattle.definitions.specs.Problem.Ops.{operands_of}
use Rattle.definitions.specs.Problem.Check.{symbol_count, node_count, symbols_of, nodes_of, first_wrong}
use Rattle.theorems.proofs.Accepted.{length_nodes_at, Layout}
use Rattle.definitions.specs.Elimination.{State, begin, last, step, steps, eliminated, table_of, root_of}
use Rattle.theorems.proofs.Laws.Tests.{split}
use Rattle.theorems.proofs.Elimination.Steps.{step_cases, step_done}
use Rattle.theorems.proofs.Elimination.Repeats.{found}
use Rattle.definitions.specs.Problem.Asked.{asked}
use Rattle.theorems.proofs.Asked.Reach.{In, below_in}
use Rattle.theorems.proofs.Asked.Trimmed.{AllUsed, earlier}
use Rattle.theorems.proofs.Asked.Formed.{Named, asked_layout, asked_used}

-- elimination takes the nodes one by one
steps_append : (symbols : List ℕ) (st : State) (xs ys : List Node) → steps symbols st (xs ++ ys) ≡ steps symbols (steps symbols st xs) ys
steps_append symbols st [] ys = refl
steps_append symbols st (x ∷ xs) ys = steps_append symbols (step symbols st x) xs ys

steps_done : (symbols : List ℕ) (st : State) (ns : List Node) → (steps symbols st ns).done ≡ st.done ++ ns
steps_done symbols st [] = sym (append-nil st.done)
steps_done symbols st (n ∷ ns) =
    steps_done symbols (step symbols st n) ns ∙ ap (λ (l : List Node). l ++ ns) (step_done symbols st n) ∙ append_assoc st.done (n ∷ []) ns

root_snoc : (images : List ℕ) (x : ℕ) → get_or (snoc images x) (length (snoc images x) - 1) 0 ≡ x
root_snoc images x = let l = length-append images (x ∷ []) in get_or_at images x [] 0 (length (snoc images x) - 1) (omega arith)

module _ (symbols : List ℕ) (t : List Node) (right : first_wrong symbols [] t ≡ none) (used : AllUsed symbols t (length t - 1)) where
  abbrev root : ℕ
  root = length t - 1

  -- an operand of the root at or above each earlier node
  above : (d j : ℕ) → root ≤ j + d → j < root → (o : ℕ) × (j ≤ o) × In o (operands_of symbols (node t root))
  above zero j h l = absurd (omega arith)
  above (suc d) j h l =
      elim (used j (omega arith)) [
        | inl q ↦ absurd (omega arith)
        | inr w ↦
            let i : ℕ = w.0 in
            let less = w.1 in
            let inside = w.2 in
            elim (split i root) [
              | inl p ↦
                  let a = above d i (omega arith) p in
                  let b = a.1 in
                  (a.0, omega arith, a.2)
              | inr p ↦ (j, omega arith, subst (λ (x : ℕ). In j (operands_of symbols (node t x))) (let q : i ≡ root = omega arith in q) w.3)
            ]
      ]

  pub root_fresh : (j : ℕ) → j < root → node t j ≡ node t root → ⊥
  root_fresh j l e =
      let a = above root j (omega arith) l in
      let b = a.1 in
      let o : In a.0 (operands_of symbols (node t j)) = subst (λ (n : Node). In a.0 (operands_of symbols n)) (sym e) a.2 in
      let c = below_in j (operands_of symbols (node t j)) a.0 (earlier symbols t right j (omega arith)) o in
      omega arith

  -- so it is laid, last
  pub root_laid : 0 < length t → root_of (steps symbols begin t) ≡ last (steps symbols begin t).out
  root_laid some_nodes =
      let n : Node = node t root in
      let xs : List Node = take root t in
      let st : State = steps symbols begin xs in
      let whole : t ≡ snoc xs n =
      sym (take_all (suc root) t (omega arith)) ∙ take-suc t root no_node (omega arith)
      in
      let done : st.done ≡ xs = steps_done symbols begin xs in
      let split_off : steps symbols begin t ≡ step symbols st n = ap (steps symbols begin) whole ∙ steps_append symbols begin xs (n ∷ []) in
      let lx : length xs ≡ root = length-take-le root t (omega arith) in
      subst (λ (F : State). root_of F ≡ last F.out) (sym split_off)
      (step_cases symbols st n (λ F. root_of F ≡ last F.out) (λ p. root_snoc st.images _)
      (λ i e.
      let f = found n st.done st.images i e in
      let w = f.within in
      let ld = ap length done in
      let less : f.at < root = omega arith in
      absurd
      (root_fresh f.at less
      (sym (get_or-take root t f.at no_node less) ∙ ap (λ (l : List Node). node l f.at) (sym done) ∙ sym f.equal)))
      (λ p e. root_snoc st.images _))

pub asked_root : (s : List ℕ) (named-root : ℕ) → Named s named-root
    → root_of (eliminated (asked s named-root)) ≡ length (table_of (asked s named-root)) - 1
unfolding eliminated
asked_root s named-root ok =
    let a : List ℕ = asked s named-root in
    let l : Layout a = asked_layout s named-root ok in
    let c = length_nodes_at a (8 + symbol_count a) (node_count a) in
    let m = l.some_nodes in
    root_laid (symbols_of a) (nodes_of a) l.nodes_right (asked_used s named-root ok) (omega arith)
