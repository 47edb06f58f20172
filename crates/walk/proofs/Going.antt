-- The walk sets out, goes on from block to block, and ends where the odometer does or the budget is used up. Assumes nothing.
use mathlib.Core.Path.{◌≡◌, sym, ap, ap₂, ◌∙◌, subst}
use Prim.Native.Nat.{ℕ, suc, ◌+◌, ◌*◌, ◌-◌, ◌≤◌, ◌<◌}
use native.Mathlib.Nat.{mul-le-mul_left, mul-le-mul_right}
use native.Mathlib.Omega.{arith}
use mathlib.Core.Bool.{Bool, false}
use mathlib.Core.List.{List, ◌++◌}
use mathlib.Core.Logic.{inl, inr}
use lib.ListN.{length, get_or, take}
use lib.Seq.{get_or-take, length-take-le}
use Rattle.definitions.specs.Lists.{product_of}
use Rattle.definitions.specs.Places.{next, first, digits_after}
use Rattle.theorems.proofs.Laws.Tests.{split}
use Rattle.theorems.proofs.Search.Places.{digits_length, product_positive}
use Rattle.theorems.specs.Searched.{AllTrue}
use Rattle.ranges.specs.Table.{table_in}
use Rattle.ranges.specs.declared.Shape.{Shape}
use Rattle.blocks.specs.Moves.{turning}
use Rattle.blocks.specs.Levels.{level_of}
use Rattle.blocks.specs.Order.{start_of}
use Rattle.blocks.proofs.Blocks.{topped_last, last_topped}
use Rattle.blocks.proofs.Moves.{turning_topped, topped_turning}
use Rattle.blocks.proofs.Order.{start_inside}
use Rattle.order.specs.Order.{level_in}
use Rattle.walk.specs.Cells.{cell, least_of, SolvedFrom, SlowLaid}
use Rattle.walk.proofs.Found.{FirstLane}
use Rattle.std.specs.Prelude.{Option, Some, None}
use Rattle.walk.specs.declared.plan.Plan.{Plan}
use Rattle.walk.specs.declared.branches.Branch.{Branch}
use Rattle.walk.specs.Digits.{NextIs, SlowIs, digits_of, sizes_in, fast_of, slow_of}
use Rattle.walk.specs.Kept.{KeptFresh, FreshBefore}
use Rattle.walk.specs.Keeping.{Setting, Walking, PlanWalked}
use Rattle.walk.specs.Laid.{LanesReady}
use Rattle.walk.specs.Reading.{positions_in}
use Rattle.walk.specs.Walked.{root_true}
use Rattle.walk.specs.declared.odometer.Odometer.{Odometer}
use Rattle.walk.specs.declared.odometer.Step.{Step}
use Rattle.walk.specs.declared.split.Parts.{Parts}
use Rattle.walk.proofs.Blocks.{digit_cell, digits_next, constant_solved, digits_solved, constant_laid, block_fresh, fresh_none, fresh_next}
use Rattle.walk.proofs.Walking.{
  count_is,
  slow_length,
  fast_length,
  both_length,
  fine,
  room,
  product_is,
  digits_right,
  inside,
  levels_same,
  level_place,
  held_more,
  ends_true,
}

-- the digits in use, one by one
in_use : (o : Odometer) → (xs : List ℕ) → digits_of o ≡ xs → (j : ℕ) → j < o.count → get_or o.digits j 0 ≡ get_or xs j 0
in_use o xs e j h = sym (get_or-take o.count o.digits j 0 h) ∙ ap (λ (ys : List ℕ). get_or ys j 0) e

pub count_length : (o : Odometer) → o.count ≡ length (sizes_in o)
count_length o = let a = o.turning.few in let b = o.turning.sizes_long in sym (length-take-le o.count o.sizes (omega arith))

-- what a step says, where it is known which digit turned
pub turned_next : {o : Odometer} {r : Step} {t : Option ℕ} → r.turned ≡ t → NextIs o r.odometer r.turned → NextIs o r.odometer t
turned_next {o} {r} e n = subst (NextIs o r.odometer) e n

module _ (plan : Plan) (positions starts : List ℕ) (bs : List Branch) (set : Setting plan positions starts bs) where
  abbrev table : List ℕ
  table = plan.table.bytes.now

  abbrev s : Shape
  s = plan.table.shape

  abbrev root : ℕ
  root = plan.root

  abbrev o : Odometer
  o = plan.start

  abbrev p : Parts
  p = plan.parts

  abbrev N : ℕ
  N = s.variables

  abbrev nodes : ℕ
  nodes = s.nodes

  abbrev S : ℕ
  S = 16 * p.chunks

  abbrev W : ℕ
  W = p.lanes

  abbrev fast : List ℕ
  fast = fast_of o p

  abbrev slow : List ℕ
  slow = slow_of o p

  abbrev good : ℕ → Bool
  good = root_true table s root (sizes_in o)

  F-is : length fast ≡ p.fast
  F-is = fast_length plan positions starts bs set

  few_digits : length fast + length slow ≤ 40
  few_digits =
      let a = both_length plan positions starts bs set in
      let t = plan.table.well_formed in
      let v = t.few_variables in
      let w = t.few_truths in
      omega arith

  fits : product_of fast ≤ S
  fits = room plan positions starts bs set

  -- the odometer of the slow digits stands at the first block, and all cells of digits are laid
  pub sets_out : (budget : ℕ) (now : Odometer) → SlowIs o p.fast now → (mid cells : List ℕ) → LanesReady S N (fast_of o p) mid
      → SlowLaid S N p.fast now.digits now.count mid cells
      → Walking plan positions budget cells now 0 0 0
  sets_out budget now sl mid cells ready laid =
      let many = count_length now ∙ ap length sl.sizes_are in
      let at_first : digits_of now ≡ digits_after slow 0 = sl.at_first ∙ ap first sl.sizes_are in
      record {
        reached = omega arith;
        block_inside = product_positive slow (fine plan positions starts bs set);
        passed = omega arith;
        going = λ _. (let e : 0 ≡ 0 * W = omega arith in e);
        held = λ n a b. absurd (omega arith);
        sizes_are = sl.sizes_are;
        digits_are = at_first;
        from_few = omega arith;
        constant = constant_laid S N p.fast now.digits now.count mid cells laid ready.constant;
        digits_held =
            record {
              fast_held =
                  λ v b l h.
                  (let f = fits in let e = F-is in laid.outside (S * (2 + v) + l) (inl (digit_cell S (2 + v) (2 + p.fast) l (omega arith) (omega arith))))
                  ∙ ready.fast_held v b l h;
              slow_held = λ j b l h. slow_at j b l h many at_first;
            };
        early = fresh_none plan.table.well_formed fast slow (fine plan positions starts bs set) (both_length plan positions starts bs set)
            (digits_right plan positions starts bs set) S fits (positions_in positions) (inside plan positions starts bs set) bs set.branches_long set.decoded 0 cells;
      }
    where
      slow_at : (j : ℕ) → j < length slow → (l : ℕ) → l < S → now.count ≡ length slow → digits_of now ≡ digits_after slow 0
          → cell S cells (2 + (length fast + j)) l ≡ get_or (digits_after slow 0) j 0 + least_of N (length fast + j)
      slow_at j b l h many at_first =
          subst (λ F. cell S cells (2 + (F + j)) l ≡ get_or (digits_after slow 0) j 0 + least_of N (F + j)) (sym F-is)
          (laid.laid j (omega arith) l h
          ∙ ap (λ x. x + least_of N (p.fast + j)) (in_use now (digits_after slow 0) at_first j (omega arith)))

  module _ (budget : ℕ) (cells : List ℕ) (now : Odometer) (tried from q : ℕ) (w : Walking plan positions budget cells now tried from q) where
    now_count : now.count ≡ length slow
    now_count = count_length now ∙ ap length w.sizes_are

    -- the digit that turned is one of them
    pub turned_few : (next' : Odometer) (turned : ℕ) → NextIs now next' (Some turned) → (p.fast + turned < s.variables + s.truths) × (p.fast + turned < 40)
    turned_few next' turned n =
        let a = n.turned_is.1 in
        let b = now_count ∙ slow_length plan positions starts bs set in
        let c = count_is plan positions starts bs set in
        let f = plan.start.turning.few in
        (omega arith, omega arith)

  module _ (budget : ℕ) (cells : List ℕ) (now : Odometer) (tried from q : ℕ) (w : Walking plan positions budget cells now tried from q)
      (after : List ℕ) (solved : SolvedFrom S bs from cells after) where
    -- once the tail is solved, the kept values equal values worked out afresh
    pub all_fresh : KeptFresh table s S (positions_in positions) fast slow q after
    all_fresh =
        block_fresh plan.table.well_formed fast slow (fine plan positions starts bs set) (both_length plan positions starts bs set)
        (digits_right plan positions starts bs set) S fits (positions_in positions) (inside plan positions starts bs set) bs set.branches_long set.decoded q from cells after solved
        (constant_solved S N fast slow (digits_after slow q) bs cells after from solved w.constant)
        (digits_solved S N fast slow (digits_after slow q) bs cells after from solved few_digits fits w.digits_held) w.early

    module _ (going : tried < budget) (many : ℕ) (most : many ≤ W) (left : many ≤ budget - tried) (ample : many < W → budget - tried ≤ many)
        (found : FirstLane after (S * (42 + positions_in positions root)) many many) (next' : Odometer) where
      at : tried ≡ q * W
      at = w.going going

      held_all : AllTrue good (tried + many)
      held_all = held_more plan positions starts bs set q after all_fresh many many most found tried at w.held

      moves : turning (sizes_in now) (digits_of now) ≡ turning slow (digits_after slow q)
      moves = ap₂ turning w.sizes_are w.digits_are

      passes : tried + many ≤ suc q * W
      passes = let e = at in omega arith

      -- the odometer ends, and so does the walk
      pub ends_there : NextIs now next' None → (vals : List ℕ) → PlanWalked plan budget vals (record { tried = tried + many; falsified = false })
      ends_there n vals =
          let t : turning slow (digits_after slow q) ≡ length slow = sym moves ∙ n.turned_is ∙ now_count budget cells now tried from q w in
          let last : suc q ≡ product_of slow = topped_last slow (fine plan positions starts bs set) q w.block_inside (turning_topped slow (digits_after slow q) (digits_length slow q) t) in
          let whole = product_is plan positions starts bs set in
          let all : product_of (sizes_in o) ≡ suc q * W = whole ∙ ap (λ x. W * x) (sym last) ∙ (let c : W * suc q ≡ suc q * W = omega arith in c) in
          let u = passes in
          let z = at in
          ends_true plan positions starts bs set budget (tried + many) (omega arith) (omega arith)
          (elim (split many W) [ inl g ↦ inl (let y = ample g in omega arith) | inr g ↦ inr (omega arith) ])
          held_all vals

      module _ (turned : ℕ) (n : NextIs now next' (Some turned)) where
        turned_is : turned ≡ turning slow (digits_after slow q)
        turned_is = n.turned_is.0 ∙ moves

        tail_start : get_or starts (p.fast + turned) 0 ≡ start_of (level_in table s p.fast (take (s.variables + s.truths) o.sizes)) nodes (p.fast + turned)
        tail_start = set.arranged.starts_at (p.fast + turned) (omega arith) (turned_few budget cells now tried from q w next' turned n).0

        some : turning slow (digits_after slow q) < length slow
        some = let a = n.turned_is.1 in let b = turned_is in let c = now_count budget cells now tried from q w in omega arith

        more : suc q < product_of slow
        more =
            elim (split (suc q) (product_of slow)) [
              | inl g ↦ g
              | inr g ↦
                  absurd
                  (let low = w.block_inside in
                  let z =
                  topped_turning slow (digits_after slow q) (digits_length slow q)
                  (last_topped slow (fine plan positions starts bs set) q w.block_inside (omega arith))
                  in let y = some in
                  omega arith)
            ]

        next_are : digits_of next' ≡ digits_after slow (suc q)
        next_are = n.digits_next ∙ ap₂ next w.sizes_are w.digits_are

        start_same : start_of (level_in table s p.fast (take (s.variables + s.truths) o.sizes)) nodes (p.fast + turned)
            ≡ start_of (level_of N (length fast) (fast ++ slow) (table_in table nodes)) nodes (length fast + turning slow (digits_after slow q))
        start_same =
            ap (λ (g : ℕ → ℕ). start_of g nodes (p.fast + turned)) (levels_same plan positions starts bs set)
            ∙ ap₂ (λ (a b : ℕ). start_of (level_of N (length fast) (fast ++ slow) (table_in table nodes)) nodes (a + b)) (sym F-is) turned_is

        -- the next block
        pub goes_on : (final : List ℕ) → SlowLaid S N p.fast next'.digits (turned + 1) after final
            → (from' : ℕ) → from' ≡ get_or starts (p.fast + turned) 0
            → Walking plan positions budget final next' (tried + many) from' (q + 1)
        goes_on final laid from' f₀ =
            let f = f₀ ∙ tail_start in
            subst (λ m. Walking plan positions budget final next' (tried + many) from' m) (let z : suc q ≡ q + 1 = omega arith in z)
            (record {
              reached = omega arith;
              block_inside = more;
              passed = passes;
              going =
                  λ g.
                  (let full : many ≡ W = elim (split many W) [ inl b ↦ absurd (let y = ample b in omega arith) | inr b ↦ omega arith ] in
                  let z = at in
                  let c : tried + many ≡ suc q * W = omega arith in
                  c);
              held = held_all;
              sizes_are = ap₂ (λ (c : ℕ) (xs : List ℕ). take c xs) n.same_count n.same_sizes ∙ w.sizes_are;
              digits_are = next_are;
              from_few = subst (λ m. m ≤ nodes) (sym f) (start_inside (level_in table s p.fast (take (s.variables + s.truths) o.sizes)) nodes (p.fast + turned));
              constant = constant_laid S N p.fast next'.digits (turned + 1) after final laid
                  (constant_solved S N fast slow (digits_after slow q) bs cells after from solved w.constant);
              digits_held =
                  digits_next S N fast slow (digits_after slow q) after final fits (digits_length slow q) some
                  (digits_solved S N fast slow (digits_after slow q) bs cells after from solved few_digits fits w.digits_held) next'.digits
                  (λ j h. in_use next' (digits_after slow (suc q)) next_are j (let c = n.same_count in let k = now_count budget cells now tried from q w in omega arith))
                  (subst (λ F. SlowLaid S N F next'.digits (turning slow (digits_after slow q) + 1) after final) (sym F-is)
                  (subst (λ x. SlowLaid S N p.fast next'.digits (x + 1) after final) turned_is laid));
              early =
                  subst (λ m. FreshBefore table s S (positions_in positions) fast slow (suc q) m final) (sym (f ∙ start_same))
                  (fresh_next plan.table.well_formed fast slow (fine plan positions starts bs set) (both_length plan positions starts bs set)
                  (digits_right plan positions starts bs set) S fits (positions_in positions) (inside plan positions starts bs set) bs set.branches_long set.decoded
                  (level_place plan positions starts bs set) q after final all_fresh (high final laid));
            })
          where
            high : (final : List ℕ) → SlowLaid S N p.fast next'.digits (turned + 1) after final → (i : ℕ) → S * 42 ≤ i → get_or final i 0 ≡ get_or after i 0
            high final laid i h =
                let a = some in
                let b = turned_is in
                let c = few_digits in
                let d = F-is in
                let u : S * (2 + (p.fast + (turned + 1))) ≤ S * 42 = mul-le-mul_left S (let v : 2 + (p.fast + (turned + 1)) ≤ 42 = omega arith in v) in
                laid.outside i (inr (omega arith))

  -- the budget is used up
  pub ends_spent : (budget : ℕ) (cells : List ℕ) (now : Odometer) (tried from q : ℕ) → Walking plan positions budget cells now tried from q → budget ≤ tried → (vals : List ℕ)
      → PlanWalked plan budget vals (record { tried = tried; falsified = false })
  ends_spent budget cells now tried from q w h vals =
      let r = w.passed in
      let b = w.block_inside in
      let m : q * W ≤ product_of slow * W = mul-le-mul_right W (let v : q ≤ product_of slow = omega arith in v) in
      let whole = product_is plan positions starts bs set in
      ends_true plan positions starts bs set budget tried w.reached (omega arith) (inl h) w.held vals
