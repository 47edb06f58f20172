-- The walk on its way: the odometer stands at a block, all places before it are true, and what stands before the tail is fresh.
-- Assumes nothing.
use mathlib.Core.Path.{◌≡◌, refl, sym, ap, ap₂, ◌∙◌, subst}
use Prim.Native.Nat.{ℕ, suc, ◌+◌, ◌*◌, ◌-◌, ◌≤◌, ◌<◌, min}
use native.Mathlib.Nat.{min-le_left, min-le_right, le-min, mul-le-mul_right}
use native.Mathlib.Omega.{arith}
use native.Mathlib.Numerals.{add-one}
use mathlib.Core.Bool.{Bool, true, false, false≢true}
use mathlib.Core.List.{List, [], map, ◌++◌}
use mathlib.Core.Logic.{◌⊎◌, inl, inr}
use lib.ListN.{length, take, length-map, length-drop, take-append-drop, get_or-map}
use lib.Seq.{get_or-take, length-take-le, ext_get_or}
use Rattle.definitions.specs.Lists.{product_of}
use Rattle.definitions.specs.Logic.{number, values, node_value}
use Rattle.definitions.specs.Places.{digits_after, digits_at, assignment}
use Rattle.definitions.specs.Witness.{byte_of}
use Rattle.theorems.proofs.Accepted.{length_nodes_at}
use Rattle.theorems.proofs.Laws.Grown.{length_grown}
use Rattle.theorems.proofs.Laws.Tests.{split}
use Rattle.theorems.proofs.Search.Places.{Positive, after_within, product_of_append}
use Rattle.theorems.specs.Searched.{AllTrue}
use Rattle.ranges.specs.Table.{table_in}
use Rattle.ranges.specs.declared.Shape.{Shape}
use Rattle.blocks.specs.Levels.{level_of}
use Rattle.blocks.specs.Order.{pos_of}
use Rattle.blocks.proofs.Blocks.{block_digits}
use Rattle.blocks.proofs.Stays.{within_at}
use Rattle.order.specs.Order.{level_in}
use Rattle.walk.specs.Cells.{cell, LaneCopied}
use Rattle.walk.proofs.Found.{FirstLane}
use Rattle.walk.specs.declared.plan.Plan.{Plan}
use Rattle.walk.specs.declared.branches.Branch.{Branch}
use Rattle.walk.specs.Digits.{Digits, ValuesAre, value_in, sizes_in, fast_of, slow_of}
use Rattle.walk.specs.Kept.{lane_digits, KeptFresh}
use Rattle.walk.specs.Keeping.{Setting}
use Rattle.walk.specs.Reading.{positions_in}
use Rattle.walk.specs.Walked.{root_true, WalkIs}
use Rattle.walk.specs.declared.odometer.Odometer.{Odometer}
use Rattle.walk.specs.declared.split.Parts.{Parts}
use Rattle.walk.proofs.Arranging.{ordering}
use Rattle.walk.proofs.Slowing.{positive_drop}
use Rattle.walk.proofs.Turns.{positive}
use Rattle.walk.proofs.Values.{bit, truth_byte}

-- as many lanes as places are left, and at most all
pub lanes_few : (many left lanes : ℕ) → many ≡ min left lanes → (many ≤ lanes) × (many ≤ left) × (many < lanes → left ≤ many)
lanes_few many left lanes e =
    let a = min-le_left left lanes in
    let b = min-le_right left lanes in
    let most : many < lanes → left ≤ many =
    λ h.
    elim (split many left) [
      | inl g ↦ absurd (let z = le-min {k = suc many} {a = left} {b = lanes} (omega arith) (omega arith) in omega arith)
      | inr g ↦ g
    ]
    in (omega arith, omega arith, most)

-- the lesser of two is the one that is no more than the other
least_is : (a b m : ℕ) → m ≤ a → m ≤ b → (a ≤ m) ⊎ (b ≤ m) → m ≡ min a b
least_is a b m x y z =
    let l = le-min {k = m} {a = a} {b = b} x y in
    let u = min-le_left a b in
    let v = min-le_right a b in
    elim z [ inl g ↦ omega arith | inr g ↦ omega arith ]

module _ (plan : Plan) (positions starts : List ℕ) (bs : List Branch) (set : Setting plan positions starts bs) where
  abbrev table : List ℕ
  table = plan.table.bytes.now

  abbrev s : Shape
  s = plan.table.shape

  abbrev root : ℕ
  root = plan.root

  abbrev o : Odometer
  o = plan.start

  abbrev p : Parts
  p = plan.parts

  abbrev N : ℕ
  N = s.variables

  abbrev nodes : ℕ
  nodes = s.nodes

  abbrev S : ℕ
  S = 16 * p.chunks

  abbrev W : ℕ
  W = p.lanes

  abbrev ss : List ℕ
  ss = sizes_in o

  abbrev fast : List ℕ
  fast = fast_of o p

  abbrev slow : List ℕ
  slow = slow_of o p

  abbrev pos : ℕ → ℕ
  pos = positions_in positions

  abbrev good : ℕ → Bool
  good = root_true table s root ss

  abbrev limit : ℕ → ℕ
  limit budget = min budget (product_of ss)

  pub count_is : o.count ≡ N + s.truths
  count_is = plan.planned.begins.count_is

  sizes_length : length ss ≡ o.count
  sizes_length = let t = o.turning in let a = t.few in let b = t.sizes_long in length-take-le o.count o.sizes (omega arith)

  pub fast_length : length fast ≡ p.fast
  fast_length = let f = plan.planned.parts_are.parted.fast_few in let l = sizes_length in length-take-le p.fast ss (omega arith)

  pub slow_length : length slow ≡ o.count - p.fast
  slow_length = length-drop p.fast ss ∙ ap (λ n. n - p.fast) sizes_length

  pub both_length : length fast + length slow ≡ N + s.truths
  both_length =
      let a = fast_length in
      let b = slow_length in
      let c = count_is in
      let f = plan.planned.parts_are.parted.fast_few in
      omega arith

  whole : fast ++ slow ≡ ss
  whole = take-append-drop p.fast ss

  pub fine : Positive slow
  fine = positive_drop p.fast ss (positive o)

  pub lanes_are : W ≡ product_of fast
  lanes_are = plan.planned.parts_are.parted.lanes_are

  pub room : product_of fast ≤ S
  room = let e = lanes_are in let f = plan.planned.parts_are.parted.lanes_fit in omega arith

  pub product_is : product_of ss ≡ W * product_of slow
  product_is = ap product_of (sym whole) ∙ product_of_append fast slow ∙ ap (λ w. w * product_of slow) (sym lanes_are)

  -- the digits of every place are in their ranges
  pub digits_right : (t : ℕ) → Digits s (digits_after (fast ++ slow) t)
  digits_right t =
      subst (λ xs. Digits s (digits_after xs t)) (sym whole)
      (record {
        bits =
            λ v h.
            let c = count_is in
            let l = sizes_length in
            let b = within_at ss (digits_after ss t) (after_within ss (positive o) t) (N + v) (omega arith) in
            let e = get_or-take o.count o.sizes (N + v) 0 (omega arith) in
            let two = plan.planned.begins.bits v h in
            omega arith;
      })

  pub inside : (k : ℕ) → k < nodes → pos k < nodes
  inside = (ordering table s plan.table.well_formed p.fast (take (N + s.truths) o.sizes) positions starts set.arranged).inside

  sizes_same : take (N + s.truths) o.sizes ≡ fast ++ slow
  sizes_same = ap (λ n. take n o.sizes) (sym count_is) ∙ sym whole

  pub levels_same : level_in table s p.fast (take (N + s.truths) o.sizes) ≡ level_of N (length fast) (fast ++ slow) (table_in table nodes)
  levels_same = ap₂ (λ (F : ℕ) (xs : List ℕ). level_of N F xs (table_in table nodes)) (sym fast_length) sizes_same

  pub level_place : (k : ℕ) → k < nodes → pos k ≡ pos_of (level_of N (length fast) (fast ++ slow) (table_in table nodes)) nodes k
  level_place k h = set.arranged.placed k h ∙ ap (λ (f : ℕ → ℕ). pos_of f nodes k) levels_same

  -- place q * W + l + 1 is lane l of block q
  place_digits : (q l : ℕ) → l < W → digits_at ss (q * W + l + 1) ≡ lane_digits fast slow q l
  place_digits q l h =
      ap (digits_at ss) (add-one (q * W + l))
      ∙ ap₂ (λ (xs : List ℕ) (w : ℕ). digits_after xs (q * w + l)) (sym whole) lanes_are
      ∙ block_digits fast slow q l (let e = lanes_are in omega arith)

  -- a block and a lane are a place of the walk
  place_inside : (q l : ℕ) → q < product_of slow → l < W → q * W + l < product_of ss
  place_inside q l a b =
      let e = product_is in
      let m : suc q * W ≤ product_of slow * W = mul-le-mul_right W a in
      omega arith

  module _ (q : ℕ) (after : List ℕ) (kept : KeptFresh table s S pos fast slow q after) where
    lane_place : (l : ℕ) → l < W → (k : ℕ) → k < nodes → cell S after (42 + pos k) l ≡ value_in table s (digits_at ss (q * W + l + 1)) k
    lane_place l h k b =
        kept.fresh k b l (let e = lanes_are in omega arith) ∙ ap (λ ds. value_in table s ds k) (sym (place_digits q l h))

    root_byte : (l : ℕ) → l < W → cell S after (42 + pos root) l ≡ bit (good (q * W + l + 1))
    root_byte l h =
        let b = plan.planned.root_in.below in
        lane_place l h root b ∙ truth_byte plan.table.well_formed (digits_at ss (q * W + l + 1)) root b plan.planned.root_in.is_formula

    zero_false : (b : Bool) → bit b ≡ 0 → b ≡ false
    zero_false true e = absurd (omega arith)
    zero_false false e = refl

    not_zero : (b : Bool) → (bit b ≡ 0 → ⊥) → b ≡ true
    not_zero true e = refl
    not_zero false e = absurd (e refl)

    -- a lane that is not false is a place that holds
    lane_true : (l : ℕ) → l < W → (cell S after (42 + pos root) l ≡ 0 → ⊥) → (n : ℕ) → n ≡ q * W + l + 1 → good n ≡ true
    lane_true l h f n e = subst (λ m. good m ≡ true) (sym e) (not_zero (good (q * W + l + 1)) (λ z. f (root_byte l h ∙ z)))

    module _ (many lane : ℕ) (few : many ≤ W) (found : FirstLane after (S * (42 + pos root)) many lane) (tried : ℕ) (at : tried ≡ q * W)
        (held : AllTrue good tried) where
      -- the places before the lane's hold
      pub held_more : AllTrue good (tried + lane)
      held_more n a b =
          let i = found.inside in
          elim (split tried n) [
            | inr g ↦ held n a g
            | inl g ↦ lane_true (n - tried - 1) (omega arith) (found.before (n - tried - 1) (omega arith)) n (omega arith)
          ]

      -- the values at hand are those of the lane's place
      values_place : lane < many → (vals : List ℕ) → nodes ≤ length vals → LaneCopied S pos after lane nodes vals
          → ValuesAre table s (digits_at ss (tried + lane + 1)) vals
      values_place h vals long copied =
          let ds = digits_at ss (q * W + lane + 1) in
          let vs = values (assignment N ds) [] (table_in table nodes) in
          let a = length-take-le nodes vals long in
          let b : length vs ≡ nodes = length_grown (node_value (assignment N ds) []) (table_in table nodes) ∙ length_nodes_at table 0 nodes in
          let c = length-take-le nodes vs (omega arith) in
          subst (λ t. ValuesAre table s (digits_at ss (t + lane + 1)) vals) (sym at)
          (ext_get_or 0 (take nodes vals) (map byte_of (take nodes vs)) (a ∙ sym (length-map (take nodes vs) byte_of ∙ c))
          (λ k g.
          get_or-take nodes vals k 0 (omega arith) ∙ copied.copied k (omega arith) ∙ lane_place lane (omega arith) k (omega arith)
          ∙ sym (get_or-map byte_of (take nodes vs) k (number 0) ∙ ap byte_of (get_or-take nodes vs k (number 0) (omega arith)))))

      -- a false root: the walk ends
      pub falsifies : (budget : ℕ) → q < product_of slow → many ≤ budget - tried → lane < many → (vals : List ℕ) → nodes ≤ length vals
          → LaneCopied S pos after lane nodes vals
          → WalkIs table s root o (min budget (product_of (sizes_in o))) vals (record { tried = tried + lane + 1; falsified = true })
      falsifies budget low left h vals long copied =
          let u = place_inside q lane low (omega arith) in
          record {
            ends =
                record {
                  low = omega arith;
                  high = le-min {k = tried + lane + 1} {a = budget} {b = product_of ss} (omega arith) (omega arith);
                  fails = subst (λ t. good (t + lane + 1) ≡ false) (sym at) (zero_false _ (sym (root_byte lane (omega arith)) ∙ found.there h));
                  before = λ n a b. held_more n a (omega arith);
                };
            values_are = λ _. values_place h vals long copied;
          }

  -- all lanes that are looked at are true
  pub ends_true : (budget tried : ℕ) → tried ≤ budget → tried ≤ product_of ss → (budget ≤ tried) ⊎ (product_of ss ≤ tried) → AllTrue good tried → (vals : List ℕ)
      → WalkIs table s root o (min budget (product_of (sizes_in o))) vals (record { tried = tried; falsified = false })
  ends_true budget tried a b c held vals =
      let e : tried ≡ limit budget = least_is budget (product_of ss) tried a b c in
      record {
        ends = (e, λ n x y. held n x (omega arith));
        values_are = λ f. absurd (false≢true f);
      }
