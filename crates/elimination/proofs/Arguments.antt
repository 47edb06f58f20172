-- The arguments of an application of an accepted problem: as many as its symbol's arity, which is at most three, and at least one
-- where a different earlier node applies the same symbol. Assumes nothing.
use mathlib.Core.Path.{◌≡◌, refl, sym, ap, ◌∙◌}
use Prim.Native.Nat.{ℕ, ◌≤◌, ◌<◌}
use native.Mathlib.Omega.{arith}
use mathlib.Core.Bool.{true}
use mathlib.Core.List.{List, [], ◌∷◌}
use mathlib.Core.Logic.{inl, inr}
use mathlib.Core.Option.{none}
use lib.ListN.{length, get_or, take, length-map, length-replicate}
use lib.Seq.{get_or-take, length-take-le}
use Rattle.definitions.specs.Problem.Node.{Node, node, no_node}
use Rattle.definitions.specs.Problem.Ops.{op_of, is_app, term, arity, symbol_right, node_right, fits}
use Rattle.definitions.specs.Problem.Ops.{sorts_of, count_of, fields_of, operands_of}
use Rattle.definitions.specs.Problem.Check.{node_count, symbols_of, nodes_of}
use Rattle.definitions.specs.Elimination.{images_of}
use Rattle.theorems.proofs.Laws.Tests.{and_left, split}
use Rattle.theorems.proofs.Laws.Ops.{app_sorts}
use Rattle.theorems.proofs.Accepted.{Accepted}
use Rattle.theorems.proofs.Tables.Fixed.{right_at_lem, right_fits}
use Rattle.theorems.proofs.Elimination.Repeats.{not_found}
use Rattle.theorems.proofs.Elimination.Variables.{no_operands}
use Rattle.problem.specs.Stages.{first_same}
use Rattle.problem.proofs.NodeLaws.{few_sorts}
use Rattle.elimination.specs.State.{state_at, three}
use Rattle.elimination.proofs.Prefix.{nodes_length, state_done}
use Rattle.elimination.proofs.Stepping.{none_earlier, images_done}

-- a list of at most three is what is taken of it with zeros after it
take_three : (xs : List ℕ) (a : ℕ) → length xs ≡ a → a ≤ 3 → take a (three xs) ≡ xs
take_three xs a e h = ap (λ m. take m (three xs)) (sym e) ∙ by xs (omega arith)
  where
    by : (xs : List ℕ) → length xs ≤ 3 → take (length xs) (three xs) ≡ xs
    by [] h = refl
    by (x ∷ []) h = refl
    by (x ∷ y ∷ []) h = refl
    by (x ∷ y ∷ z ∷ []) h = refl
    by (x ∷ y ∷ z ∷ u ∷ us) h = absurd (omega arith)

-- an application that is right has as many operands as its symbol's arity, and at most three
module _
    (symbols : List ℕ) (earlier : List Node) (n : Node)
    (right : node_right symbols earlier n ≡ true) (is_an_app : is_app (op_of n.op) ≡ true) where
  count_arity : count_of (sorts_of symbols n) ≡ arity symbols n.sym
  count_arity =
      ap count_of (app_sorts n.op (arity symbols n.sym) is_an_app) ∙ length-replicate (arity symbols n.sym) term

  count_few : count_of (sorts_of symbols n) ≤ 3
  count_few =
      let known = and_left (symbol_right symbols (op_of n.op) n.sym) (fits earlier (sorts_of symbols n) (fields_of n)) right in
      let (ss, e, h) = few_sorts symbols (op_of n.op) n.sym known in
      omega (arith, ap count_of e)

  arity_few : arity symbols n.sym ≤ 3
  arity_few = omega (arith, count_arity, count_few)

  images_many : (images : List ℕ) → length (images_of symbols images n) ≡ arity symbols n.sym
  images_many images =
      length-map (operands_of symbols n) (λ k. get_or images k 0)
      ∙ length-take-le (count_of (sorts_of symbols n)) (fields_of n) count_few
      ∙ count_arity

module _ (s : List ℕ) (ok : Accepted s) where
  right_node : (q : ℕ) → q < node_count s → node_right (symbols_of s) (take q (nodes_of s)) (node (nodes_of s) q) ≡ true
  right_node q h = right_at_lem (symbols_of s) (nodes_of s) q ok.layout.nodes_right (omega (arith, nodes_length s ok))

  -- node q is an application, whose symbol has an arity
  module _
      (q : ℕ) (h : q < node_count s) (p : is_app (op_of (node (nodes_of s) q).op) ≡ true)
      (ar : ℕ) (e : ar ≡ arity (symbols_of s) (node (nodes_of s) q).sym) where
    pub few_arguments : ar ≤ 3
    few_arguments = omega (arith, arity_few (symbols_of s) (take q (nodes_of s)) (node (nodes_of s) q) (right_node q h) p)

    -- its arguments are the first of the three images read, as many as the arity
    pub arguments_read : (k : ℕ) (xs : List ℕ) → xs ≡ three (images_of (symbols_of s) (state_at s k).images (node (nodes_of s) q))
        → take ar xs ≡ images_of (symbols_of s) (state_at s k).images (node (nodes_of s) q)
    arguments_read k xs t =
        let n = node (nodes_of s) q in
        let many = images_many (symbols_of s) (take q (nodes_of s)) n (right_node q h) p (state_at s k).images in
        ap (take ar) t ∙ take_three (images_of (symbols_of s) (state_at s k).images n) ar (many ∙ sym e) few_arguments

  -- an application with no arguments has zeros in its fields
  no_arguments : (q : ℕ) → q < node_count s → is_app (op_of (node (nodes_of s) q).op) ≡ true
      → arity (symbols_of s) (node (nodes_of s) q).sym ≡ 0
      → ((node (nodes_of s) q).a ≡ 0) × ((node (nodes_of s) q).b ≡ 0) × ((node (nodes_of s) q).c ≡ 0)
  no_arguments q h p z =
      let m = node (nodes_of s) q in
      let right = right_node q h in
      no_operands (take q (nodes_of s)) (sorts_of (symbols_of s) m) m (right_fits (symbols_of s) (take q (nodes_of s)) m right)
      (count_arity (symbols_of s) (take q (nodes_of s)) m right p ∙ z)

  module _ (k : ℕ) (h : k < node_count s) where
    abbrev n : Node
    n = node (nodes_of s) k

    pub arguments_given : (q : ℕ) → q < k → is_app (op_of n.op) ≡ true → (node (nodes_of s) q).op ≡ n.op
        → (node (nodes_of s) q).sym ≡ n.sym → first_same n (take k (nodes_of s)) ≡ none → 1 ≤ arity (symbols_of s) n.sym
    arguments_given q l p o e new =
        let m = node (nodes_of s) q in
        elim (split 0 (arity (symbols_of s) n.sym)) [
          | inl a ↦ a
          | inr a ↦
              let none-n : arity (symbols_of s) n.sym ≡ 0 = omega arith in
              let zn = no_arguments k h p none-n in
              let zm = no_arguments q (omega arith) (ap (λ op. is_app (op_of op)) o ∙ p) (ap (arity (symbols_of s)) e ∙ none-n) in
              let equal : n ≡ m =
              λ i.
              record {
                op = sym o i;
                sym = sym e i;
                a = (zn.0 ∙ sym zm.0) i;
                b = (zn.1 ∙ sym zm.1) i;
                c = (zn.2 ∙ sym zm.2) i;
              }
              in
              let done : m ≡ node (state_at s k).done q =
              sym (get_or-take k (nodes_of s) q no_node l) ∙ ap (λ (t : List Node). node t q) (sym (state_done s k))
              in
              let many = nodes_length s ok in
              let long = ap (length {A = Node}) (state_done s k) ∙ length-take-le k (nodes_of s) (omega arith) in
              let found = not_found n (state_at s k).done (state_at s k).images (images_done s ok k h) (none_earlier s ok k h new) in
              absurd (found q (omega arith) (equal ∙ done))
        ]
