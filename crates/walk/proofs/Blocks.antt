-- From block to block: the slow digits that moved are laid anew, the nodes before the tail are fresh already, and once the tail is
-- solved every node is. Assumes nothing.
use mathlib.Core.Path.{◌≡◌, sym, ap, ◌∙◌, subst}
use Prim.Native.Nat.{ℕ, suc, ◌+◌, ◌*◌, ◌-◌, ◌≤◌, ◌<◌}
use native.Mathlib.Omega.{arith}
use native.Mathlib.Nat.{mul-le-mul_left}
use mathlib.Core.Bool.{Bool, true, false}
use mathlib.Core.List.{List, ◌++◌}
use mathlib.Core.Logic.{inl, inr}
use lib.ListN.{length, get_or, get_or-append}
use lib.Seq.{get_or-append-add}
use borrow.Author.Tests.{lt-ltb, le-ltb}
use Rattle.definitions.specs.Lists.{product_of}
use Rattle.definitions.specs.Places.{next, digits_after}
use Rattle.definitions.specs.Witness.{byte_of}
use Rattle.theorems.proofs.Accepted.{length_nodes_at}
use Rattle.theorems.proofs.Laws.Tests.{split}
use Rattle.theorems.proofs.Search.Places.{Positive, after_within, digits_length}
use Rattle.ranges.specs.Table.{TableIn, table_in}
use Rattle.ranges.specs.declared.Shape.{Shape}
use Rattle.blocks.specs.Moves.{turning}
use Rattle.blocks.specs.Levels.{level_of}
use Rattle.blocks.specs.Order.{start_of, pos_of}
use Rattle.blocks.proofs.Moves.{step_digits}
use Rattle.blocks.proofs.Blocks.{block_digits}
use Rattle.blocks.proofs.Order.{pos_tail}
use Rattle.blocks.proofs.Stays.{above_value}
use Rattle.walk.specs.declared.branches.Branch.{Branch}
use Rattle.walk.specs.Cells.{cell, Decoded, SolvedFrom, Constant, least_of, DigitsHeld, SlowLaid, LaneHolds}
use Rattle.walk.specs.Digits.{Digits}
use Rattle.walk.specs.Kept.{lane_digits, KeptFresh, FreshBefore}
use Rattle.walk.proofs.Freshness.{kept_fresh}

-- cells of digits stand before S * 42, and those of fast ones before the slow ones'
pub digit_cell : (S c d l : ℕ) → l < S → c < d → S * c + l < S * d
digit_cell S c d l h g = let u : S * suc c ≤ S * d = mul-le-mul_left S g in omega arith

-- the slow digits up to the one that turned are laid anew
pub digits_next : (S N : ℕ) (fast slow xs before after : List ℕ) → product_of fast ≤ S → length xs ≡ length slow → turning slow xs < length slow
    → DigitsHeld S N fast slow xs before → (ds : List ℕ) → ((j : ℕ) → j < length slow → get_or ds j 0 ≡ get_or (next slow xs) j 0)
    → SlowLaid S N (length fast) ds (turning slow xs + 1) before after
    → DigitsHeld S N fast slow (next slow xs) after
digits_next S N fast slow xs before after room long some d ds same r =
    record {
      fast_held =
          λ v b l h.
          r.outside (S * (2 + v) + l) (inl (digit_cell S (2 + v) (2 + length fast) l (omega arith) (omega arith))) ∙ d.fast_held v b l h;
      slow_held =
          λ j b l h.
          elim (split (turning slow xs) j) [
            | inl g ↦
                (let u : S * (2 + (length fast + (turning slow xs + 1))) ≤ S * (2 + (length fast + j)) = mul-le-mul_left S (let v : 2 + (length fast + (turning slow xs + 1)) ≤ 2 + (length fast + j) = omega arith in v) in
                r.outside (S * (2 + (length fast + j)) + l) (inr (omega arith)) ∙ d.slow_held j b l h
                ∙ ap (λ x. x + least_of N (length fast + j)) (sym ((step_digits slow xs long).above j g)))
            | inr g ↦ r.laid j (omega arith) l h ∙ ap (λ x. x + least_of N (length fast + j)) (same j b)
          ];
    }

-- so each lane holds the digits of its place
module _ (S N : ℕ) (fast slow xs cells : List ℕ) (d : DigitsHeld S N fast slow xs cells) (room : product_of fast ≤ S) (l : ℕ) (h : l < product_of fast) where
  abbrev ds : List ℕ
  ds = digits_after fast l ++ xs

  digit_held : (v : ℕ) → v < length fast + length slow → cell S cells (2 + v) l ≡ get_or (digits_after fast l ++ xs) v 0 + least_of N v
  digit_held v b =
      let long = digits_length fast l in
      elim (split v (length fast)) [
        | inl g ↦
            d.fast_held v g l h
            ∙ ap (λ x. x + least_of N v) (sym (get_or-append (digits_after fast l) xs 0 v (omega arith)))
        | inr g ↦ at_slow (v - length fast) (omega arith) (omega arith)
      ]
    where
      at_slow : (j : ℕ) → v ≡ length fast + j → j < length slow → cell S cells (2 + v) l ≡ get_or (digits_after fast l ++ xs) v 0 + least_of N v
      at_slow j e b' =
          let long = digits_length fast l in
          subst (λ u. cell S cells (2 + u) l ≡ get_or (digits_after fast l ++ xs) u 0 + least_of N u) (sym e)
          (d.slow_held j b' l (omega arith)
          ∙ ap (λ x. x + least_of N (length fast + j))
          (sym (ap (λ m. get_or (digits_after fast l ++ xs) (m + j) 0) (sym long) ∙ get_or-append-add (digits_after fast l) xs j 0)))

  pub lane_holds : N ≤ length fast + length slow → LaneHolds S N (length fast + length slow) (digits_after fast l ++ xs) cells l
  lane_holds few =
      record {
        variable =
            λ v b.
            digit_held v (omega arith)
            ∙ ap (λ (x : Bool). get_or (digits_after fast l ++ xs) v 0 + elim x as (λ _. ℕ) [ true ↦ 1 | false ↦ 0 ]) (lt-ltb v N b);
        truth =
            λ v a b.
            digit_held v b
            ∙ ap (λ (x : Bool). get_or (digits_after fast l ++ xs) v 0 + elim x as (λ _. ℕ) [ true ↦ 1 | false ↦ 0 ]) (le-ltb v N a)
            ∙ (let e : get_or (digits_after fast l ++ xs) v 0 + 0 ≡ get_or (digits_after fast l ++ xs) v 0 = omega arith in e);
      }

-- what is solved leaves the digits' cells as they are
module _ (S N : ℕ) (fast slow xs : List ℕ) (bs : List Branch) (before after : List ℕ) (from : ℕ) (solved : SolvedFrom S bs from before after) where
  low_cell : (c l : ℕ) → l < S → c < 42 → cell S after c l ≡ cell S before c l
  low_cell c l h g = solved.kept (S * c + l) (digit_cell S c (42 + from) l h (omega arith))

  pub constant_solved : Constant S before → Constant S after
  constant_solved k = record { no = λ l h. low_cell 0 l h (omega arith) ∙ k.no l h; yes = λ l h. low_cell 1 l h (omega arith) ∙ k.yes l h }

  pub digits_solved : length fast + length slow ≤ 40 → product_of fast ≤ S → DigitsHeld S N fast slow xs before → DigitsHeld S N fast slow xs after
  digits_solved few room d =
      record {
        fast_held = λ v b l h. low_cell (2 + v) l (omega arith) (omega arith) ∙ d.fast_held v b l h;
        slow_held = λ j b l h. low_cell (2 + (length fast + j)) l h (omega arith) ∙ d.slow_held j b l h;
      }

-- the cells of false and true are not digits'
pub constant_laid : (S N F : ℕ) (xs : List ℕ) (to : ℕ) (before after : List ℕ) → SlowLaid S N F xs to before after → Constant S before → Constant S after
constant_laid S N F xs to before after r k =
    record {
      no = λ l h. r.outside (S * 0 + l) (inl (digit_cell S 0 (2 + F) l h (omega arith))) ∙ k.no l h;
      yes = λ l h. r.outside (S * 1 + l) (inl (digit_cell S 1 (2 + F) l h (omega arith))) ∙ k.yes l h;
    }

module _
    {table : List ℕ}
    {shape : Shape}
    (tab : TableIn table shape)
    (fast slow : List ℕ)
    (fine : Positive slow)
    (count_is : length fast + length slow ≡ shape.variables + shape.truths)
    (digits_right : (p : ℕ) → Digits shape (digits_after (fast ++ slow) p))
    (S : ℕ)
    (room : product_of fast ≤ S)
    (pos : ℕ → ℕ)
    (inside : (k : ℕ) → k < shape.nodes → pos k < shape.nodes)
    (bs : List Branch)
    (long : length bs ≡ shape.nodes)
    (decoded : Decoded S pos table shape bs shape.nodes) where
  abbrev nodes : ℕ
  nodes = shape.nodes

  abbrev N : ℕ
  N = shape.variables

  abbrev P : ℕ
  P = shape.truths

  lane_digits_lem : (q l : ℕ) → l < product_of fast → Digits shape (lane_digits fast slow q l)
  lane_digits_lem q l h = subst (Digits shape) (block_digits fast slow q l h) (digits_right (q * product_of fast + l))

  lane_all : (q : ℕ) (cells : List ℕ) → DigitsHeld S N fast slow (digits_after slow q) cells → (l : ℕ) → l < product_of fast
      → LaneHolds S N (N + P) (lane_digits fast slow q l) cells l
  lane_all q cells d l h =
      subst (λ (c : ℕ). LaneHolds S N c (lane_digits fast slow q l) cells l) count_is
      (lane_holds S N fast slow (digits_after slow q) cells d room l h (omega arith))

  -- THE LAW: where the nodes before the tail are fresh, and the tail is solved, the kept values equal values worked out afresh
  pub block_fresh : (q from : ℕ) (before cells : List ℕ) → SolvedFrom S bs from before cells → Constant S cells
      → DigitsHeld S N fast slow (digits_after slow q) cells → FreshBefore table shape S pos fast slow q from before
      → KeptFresh table shape S pos fast slow q cells
  block_fresh q from before cells solved constant d early =
      record {
        fresh =
            λ k g l h.
            kept_fresh tab pos inside S bs long before cells from decoded solved constant l (omega arith) (lane_digits fast slow q l)
            (lane_all q cells d l h) (lane_digits_lem q l h) (λ j b e. early.fresh j b e l h) k g;
      }

  -- at the first block nothing is asked: everything is worked out
  pub fresh_none : (q : ℕ) (cells : List ℕ) → FreshBefore table shape S pos fast slow q 0 cells
  fresh_none q cells = record { fresh = λ k g e. absurd (omega arith) }

  module _ (level_place : (k : ℕ) → k < nodes → pos k ≡ pos_of (level_of N (length fast) (fast ++ slow) (table_in table nodes)) nodes k) where
    abbrev level : ℕ → ℕ
    level = level_of N (length fast) (fast ++ slow) (table_in table nodes)

    -- nodes before the tail of the digit that turned have their value in the next block already: also where several digits turn back
    pub fresh_next : (q : ℕ) (before after : List ℕ) → KeptFresh table shape S pos fast slow q before
        → ((i : ℕ) → S * 42 ≤ i → get_or after i 0 ≡ get_or before i 0)
        → FreshBefore table shape S pos fast slow (suc q)
        (start_of (level_of N (length fast) (fast ++ slow) (table_in table nodes)) nodes (length fast + turning slow (digits_after slow q))) after
    fresh_next q before after b same =
        record {
          fresh =
              λ k g e l h.
              (let u : S * 42 ≤ S * (42 + pos k) = mul-le-mul_left S (let v : 42 ≤ 42 + pos k = omega arith in v) in
              same (S * (42 + pos k) + l) (omega arith))
              ∙ b.fresh k g l h
              ∙ ap byte_of
              (above_value slow (digits_after slow q) (after_within slow fine q) fast (digits_after fast l) (digits_length fast l) N P (table_in table nodes) tab.free k
              (let n = length_nodes_at table 0 nodes in omega arith) (high k g e));
        }
      where
        high : (k : ℕ) → k < nodes → pos k < start_of level nodes (length fast + turning slow (digits_after slow q)) → length fast + turning slow (digits_after slow q) < level k
        high k g e =
            elim (split (length fast + turning slow (digits_after slow q)) (level k)) [
              | inl l ↦ l
              | inr l ↦ absurd (let z = pos_tail level nodes (length fast + turning slow (digits_after slow q)) k l in let p = level_place k g in omega arith)
            ]
