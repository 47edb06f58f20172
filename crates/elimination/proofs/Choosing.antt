-- The choices for node k, one earlier application after another, latest first: what is laid so far, and the choices for the
-- applications still to come, are all of them. Assumes nothing.
use mathlib.Core.Path.{◌≡◌, refl, sym, ap, ap₂, ◌∙◌}
use Prim.Native.Nat.{ℕ, zero, suc, ◌+◌, ◌*◌, ◌-◌, ◌≤◌, ◌<◌}
use native.Mathlib.Omega.{arith}
use mathlib.Core.Bool.{Bool, true, false}
use mathlib.Core.List.{List, []}
use lib.ListN.{length, drop}
use lib.Seq.{drop-cons, drop-length}
use lib.Dec.{eqb}
use borrow.Author.Tests.{eqb-true}
use Rattle.definitions.specs.Lists.{keep, keep_if, snoc}
use Rattle.definitions.specs.Problem.Node.{Node, node, plain}
use Rattle.definitions.specs.Problem.Check.{symbols_of, nodes_of}
use Rattle.definitions.specs.Elimination.{App, images_of, last, condition, choice_op, choices, same_symbol}
use Rattle.theorems.proofs.Laws.Tests.{and_left, and_right}
use Rattle.problem.specs.Stages.{one_symbol}
use Rattle.problem.specs.Lays.{Lays}
use Rattle.elimination.specs.State.{state_at, no_app, app_at}
use Rattle.problem.proofs.Laying.{lays_on, lays_as}

-- two nodes that are of one op and one symbol
module _ (m n : Node) where
  pub op_same : one_symbol m n ≡ true → m.op ≡ n.op
  op_same e = eqb-true _ _ (and_left (eqb m.op n.op) (eqb m.sym n.sym) e)

  pub symbol_same : one_symbol m n ≡ true → m.sym ≡ n.sym
  symbol_same e = eqb-true _ _ (and_right (eqb m.op n.op) (eqb m.sym n.sym) e)

pub choice_other : (op : ℕ) → (op ≡ 0 → ⊥) → choice_op op ≡ 9
choice_other zero h = absurd (h refl)
choice_other (suc op) h = refl

module _ (s : List ℕ) (k : ℕ) where
  abbrev n : Node
  n = node (nodes_of s) k

  abbrev apps : List App
  apps = (state_at s k).apps

  -- the images of a node's operands
  abbrev pub args : Node → List ℕ
  args m = images_of (symbols_of s) (state_at s k).images m

  -- of the first i applications in node order, those of the symbol of node k, latest first
  abbrev pub left : ℕ → List App
  left i = keep (same_symbol n) (drop (length apps - i) apps)

  left_all : left (length apps) ≡ keep (same_symbol n) apps
  left_all = ap (λ j. keep (same_symbol n) (drop j apps)) (let e : length apps - length apps ≡ 0 = omega arith in e)

  left_none : left 0 ≡ []
  left_none =
      ap (λ j. keep (same_symbol n) (drop j apps)) (let e : length apps - 0 ≡ length apps = omega arith in e)
      ∙ ap (keep (same_symbol n)) (drop-length apps)

  left_next : (i : ℕ) → 0 < i → i ≤ length apps
      → left i ≡ keep_if (same_symbol n (app_at s k (i - 1))) (app_at s k (i - 1)) (left (i - 1))
  left_next i h l =
      let j = length apps - suc (i - 1) in
      let here : length apps - i ≡ j = omega arith in
      let next : suc j ≡ length apps - (i - 1) = omega arith in
      ap (λ m. keep (same_symbol n) (drop m apps)) here
      ∙ ap (keep (same_symbol n)) (drop-cons apps j no_app (omega arith))
      ∙ ap (λ m. keep_if (same_symbol n (app_at s k (i - 1))) (app_at s k (i - 1)) (keep (same_symbol n) (drop m apps))) next

  left_same : (i : ℕ) → 0 < i → i ≤ length apps → same_symbol n (app_at s k (i - 1)) ≡ true
      → left i ≡ keep_if true (app_at s k (i - 1)) (left (i - 1))
  left_same i h l e = left_next i h l ∙ ap (λ (b : Bool). keep_if b (app_at s k (i - 1)) (left (i - 1))) e

  left_other : (i : ℕ) → 0 < i → i ≤ length apps → same_symbol n (app_at s k (i - 1)) ≡ false → left i ≡ left (i - 1)
  left_other i h l e = left_next i h l ∙ ap (λ (b : Bool). keep_if b (app_at s k (i - 1)) (left (i - 1))) e

  -- the choices for some applications, after what is laid
  abbrev pub chosen : List Node → List App → List Node
  chosen t js = choices n.op args t (args n) js

  -- the choice for one application
  abbrev pub chosen_one : App → List Node → List Node
  chosen_one app t =
      snoc (condition t (args n) (args app.of))
      (plain (choice_op n.op) (last (condition t (args n) (args app.of))) app.own (last t))

  pub chosen_one_lem : (app : App) (op own : ℕ) (xs ys : List ℕ) → op ≡ choice_op n.op → own ≡ app.own → xs ≡ args n
      → ys ≡ args app.of → (t : List Node)
      → snoc (condition t xs ys) (plain op (last (condition t xs ys)) own (last t)) ≡ chosen_one app t
  chosen_one_lem app op own xs ys o w x y t =
      ap₂ (λ (us vs : List ℕ). snoc (condition t us vs) (plain op (last (condition t us vs)) own (last t))) x y
      ∙ ap₂ (λ (c v : ℕ).
      snoc (condition t (args n) (args app.of)) (plain c (last (condition t (args n) (args app.of))) v (last t))) o w

  -- from the buffer work₀ of at₀ nodes to the buffer work of `at` nodes, with the first i applications still to come
  pub record Choosing (work₀ : List ℕ) (at₀ : ℕ) (work : List ℕ) (at i : ℕ) : Type 0 where
    pub made : List Node → List Node
    pub lays : Lays work₀ work at₀ at made
    pub rest : (t : List Node) → chosen (made t) (left i) ≡ chosen t (keep (same_symbol n) apps)
    pub room : at + 6 * length (left i) ≤ 2632
    pub more : at₀ ≤ at
    pub few : i ≤ length apps
    pub long : length work ≡ length work₀

  module _ (work₀ : List ℕ) (at₀ : ℕ) where
    pub choosing_first : (i : ℕ) → i ≡ length apps → at₀ + 6 * length (keep (same_symbol n) apps) ≤ 2632
        → Choosing work₀ at₀ work₀ at₀ i
    choosing_first i e h =
        let all : left i ≡ keep (same_symbol n) apps = ap left e ∙ left_all in
        record {
          made = λ t. t;
          lays = record { lays = λ t w l q. q; counts = λ t l. l };
          rest = λ t. ap (chosen t) all;
          room = omega (arith, ap (length {A = App}) all);
          more = omega arith;
          few = omega arith;
          long = refl;
        }

    module _ (work : List ℕ) (at i : ℕ) (c : Choosing work₀ at₀ work at i) where
      -- the whole is laid
      pub choosing_last : i ≡ 0 → Lays work₀ work at₀ at (λ t. chosen t (keep (same_symbol n) apps))
      choosing_last e =
          lays_as (λ t l. ap (chosen (c.made t)) (sym (ap left e ∙ left_none)) ∙ c.rest t) refl c.lays

      module _ (h : 0 < i) where
        pub choosing_other : same_symbol n (app_at s k (i - 1)) ≡ false → Choosing work₀ at₀ work at (i - 1)
        choosing_other e =
            let same = left_other i h c.few e in
            let few = c.few in
            let room = c.room in
            record {
              made = c.made;
              lays = c.lays;
              rest = λ t. ap (chosen (c.made t)) (sym same) ∙ c.rest t;
              room = omega (arith, ap (length {A = App}) same);
              more = c.more;
              few = omega arith;
              long = c.long;
            }

        module _ (e : same_symbol n (app_at s k (i - 1)) ≡ true) where
          pub choosing_room : at + 6 ≤ 2632
          choosing_room = let room = c.room in omega (arith, ap (length {A = App}) (left_same i h c.few e))

          pub choosing_same : (work' : List ℕ) (at' : ℕ) → Lays work work' at at' (chosen_one (app_at s k (i - 1))) → at < at'
              → at' ≤ at + 6 → length work' ≡ length work → Choosing work₀ at₀ work' at' (i - 1)
          choosing_same work' at' p l u q =
              let same = left_same i h c.few e in
              let few = c.few in
              let room = c.room in
              let more = c.more in
              record {
                made = λ t. chosen_one (app_at s k (i - 1)) (c.made t);
                lays = lays_on c.lays refl p;
                rest = λ t. ap (chosen (c.made t)) (sym same) ∙ c.rest t;
                room = omega (arith, ap (length {A = App}) same);
                more = omega arith;
                few = omega arith;
                long = q ∙ c.long;
              }
