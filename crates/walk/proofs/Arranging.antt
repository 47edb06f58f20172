-- Nodes that are arranged stand in an order: each has a position of its own, every position is a node's, and operands stand before
-- the nodes that use them. Assumes nothing.
use mathlib.Core.Path.{◌≡◌, sym, ◌∙◌}
use Prim.Native.Nat.{ℕ, ◌≤◌, ◌<◌}
use native.Mathlib.Omega.{arith}
use mathlib.Core.List.{List, [], ◌∷◌}
use lib.ListN.{length}
use Rattle.theorems.proofs.Accepted.{length_nodes_at}
use Rattle.theorems.proofs.Laws.Ops.{AllBelow}
use Rattle.ranges.specs.Table.{TableIn, table_in}
use Rattle.ranges.specs.declared.Shape.{Shape}
use Rattle.blocks.specs.Order.{pos_of}
use Rattle.blocks.proofs.Depends.{Each, operands_at, operands_below}
use Rattle.blocks.proofs.Levels.{level_operands}
use Rattle.blocks.proofs.Onto.{pos_onto}
use Rattle.blocks.proofs.Order.{pos_inside, pos_one, pos_operand}
use Rattle.order.specs.Order.{level_in, Arranged}
use Rattle.walk.specs.Reading.{InOrder, positions_in}
use Rattle.walk.proofs.Branching.{Ordering}

module _
    (table : List ℕ)
    (s : Shape)
    (tab : TableIn table s)
    (fast : ℕ)
    (sizes positions starts : List ℕ)
    (arranged : Arranged table s fast sizes positions starts) where
  abbrev level : ℕ → ℕ
  level = level_in table s fast sizes

  abbrev pos : ℕ → ℕ
  pos = positions_in positions

  abbrev place : ℕ → ℕ
  place k = pos_of level s.nodes k

  inside : (k : ℕ) → k < s.nodes → pos k < s.nodes
  inside k h = let e = arranged.placed k h in let p = pos_inside level s.nodes k h in omega arith

  one : (j k : ℕ) → j < s.nodes → k < s.nodes → pos j ≡ pos k → j ≡ k
  one j k g h e = pos_one level s.nodes j k g h (sym (arranged.placed j g) ∙ e ∙ arranged.placed k h)

  onto : (m : ℕ) → m < s.nodes → (k : ℕ) × (k < s.nodes) × (pos k ≡ m)
  onto m h = let w = pos_onto level s.nodes m h in (w.0, w.1, arranged.placed w.0 w.1 ∙ w.2)

  earlier : (k : ℕ) → k < s.nodes → (ks : List ℕ) → AllBelow k ks → Each (λ j. level k ≤ level j) ks → Each (λ j. pos j < pos k) ks
  earlier k h [] b e = tt
  earlier k h (j ∷ ks) b e =
      let l = b.0 in
      let p = pos_operand level s.nodes j k l h e.0 in
      let u = arranged.placed j (omega arith) in
      let v = arranged.placed k h in
      (omega arith, earlier k h ks b.1 e.1)

  pub ordering : Ordering table s.nodes (positions_in positions)
  ordering =
      record {
        inside = inside;
        one = one;
        onto = onto;
        operands_first =
            λ k h.
            let t = table_in table s.nodes in
            let l : k < length t = (let e = length_nodes_at table 0 s.nodes in omega arith) in
            earlier k h (operands_at t k) (operands_below s.variables s.truths t tab.free k l)
            (level_operands s.variables s.truths t tab.free fast sizes k l);
      }

  pub in_order : length positions ≡ s.nodes → InOrder positions
  in_order long =
      record {
        inside = λ k h. let i = inside k (omega arith) in omega arith;
        apart = λ j k g h e. one j k (omega arith) (omega arith) e;
      }
