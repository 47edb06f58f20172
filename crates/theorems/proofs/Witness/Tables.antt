-- The tables of an assignment's rows: with them every node of a problem has the value of its image. They agree with the
-- interpretation built from the assignment wherever a node of the problem asks. Assumes nothing.
use mathlib.Core.Path.{◌≡◌, refl, sym, ap, ap₂, ◌∙◌, subst}
use Prim.Native.Nat.{ℕ, zero, suc, ◌≤◌, ◌<◌}
use native.Mathlib.Omega.{arith}
use mathlib.Core.Bool.{Bool, true, false, ◌&&◌, false≢true}
use mathlib.Core.List.{List, [], ◌∷◌, map, reverse, reverse_aux, reverse-reverse}
use mathlib.Core.Logic.{inl, inr}
use mathlib.Core.Option.{none}
use lib.ListN.{length, get_or, take, length-map, length-take}
use lib.Seq.{ext_get_or, length-take-le}
use lib.Dec.{eqb, ltb, leb}
use borrow.Author.Tests.{eqb-true, eq-eqb, ltb-true, leb-true}
use Rattle.definitions.specs.Lists.{keep, keep_if}
use Rattle.definitions.specs.Problem.Node.{Node, node}
use Rattle.definitions.specs.Problem.Ops.{apply, test, op_of, is_app, arity, is_function, is_predicate, symbol_right}
use Rattle.definitions.specs.Problem.Ops.{operand_sorts, sorts_of, count_of, fields_of, operands_of}
use Rattle.definitions.specs.Problem.Check.{first_wrong}
use Rattle.definitions.specs.Logic.{Interpretation, Value, number, truth, number_of, truth_of, value_at, number_at}
use Rattle.definitions.specs.Logic.{op_value, node_value, values}
use Rattle.definitions.specs.Elimination.{App, State, begin, images_of, steps}
use Rattle.definitions.specs.Witness.{Row, row_of, byte_of, app_row, lists, listed, tables}
use Rattle.theorems.proofs.Laws.Tests.{and_left, and_right}
use Rattle.theorems.proofs.Laws.Ops.{app_op, Alike, AllBelow, op_alike, app_alike, numbers_below}
use Rattle.theorems.proofs.Tables.Fixed.{fixed, right_at_lem, right_below, node_same_value}
use Rattle.theorems.proofs.Elimination.Chosen.{chosen, same_list, pick_value}
use Rattle.theorems.proofs.Elimination.Variables.{same_list_lem, take_many}
use Rattle.theorems.proofs.Elimination.OfAssignment.{is_sym, given, built, built_value}
use Rattle.theorems.proofs.Elimination.WellLaid.{AppPlaced, AllPlaced, apps_placed}

-- every application of a list has a property
module _ (Q : App → Type 0) where
  abbrev Each : List App → Type 0
  Each [] = Unit {0}
  Each (j ∷ js) = Q j × Each js

  each_onto : (js r : List App) → Each js → Each r → Each (reverse_aux js r)
  each_onto [] r e f = f
  each_onto (j ∷ js) r e f = each_onto js (j ∷ r) e.1 (e.0, f)

  each_reverse : (js : List App) → Each js → Each (reverse js)
  each_reverse js e = each_onto js [] e tt

-- two lists of at most three numbers that are equal where a row has them are equal
same_three : (xs ys : List ℕ) → length xs ≡ length ys → length xs ≤ 3 → get_or xs 0 0 ≡ get_or ys 0 0
    → get_or xs 1 0 ≡ get_or ys 1 0 → get_or xs 2 0 ≡ get_or ys 2 0 → xs ≡ ys
same_three xs ys l h x y z = ext_get_or 0 xs ys l at
  where
    at : (i : ℕ) → i < length xs → get_or xs i 0 ≡ get_or ys i 0
    at zero b = x
    at (suc zero) b = y
    at (suc (suc zero)) b = z
    at (suc (suc (suc i))) b = absurd (omega arith)

-- the rows of applications whose arguments and values as bytes are known, asked for a symbol at some arguments
module _ (qs : App → List ℕ) (byte : App → ℕ) (f : ℕ) (xs : List ℕ) where
  abbrev row_for : App → Row
  row_for j = row_of j.of.sym (qs j) (byte j)

  abbrev Listed : App → Type 0
  Listed j = lists f xs (row_for j) ≡ true

  abbrev Unlisted : App → Type 0
  Unlisted j = lists f xs (row_for j) ≡ false

  -- the row of an application of the symbol at the arguments lists them, and no row of other arguments as many does
  row_lists : (j : App) → j.of.sym ≡ f → xs ≡ qs j → Listed j
  row_lists j s e = ap₂ ◌&&◌ (ap₂ ◌&&◌ (ap₂ ◌&&◌ (eq-eqb j.of.sym f s) (at 0)) (at 1)) (at 2)
    where
      at : (i : ℕ) → eqb (get_or (qs j) i 0) (get_or xs i 0) ≡ true
      at i = eq-eqb (get_or (qs j) i 0) (get_or xs i 0) (ap (λ (ys : List ℕ). get_or ys i 0) (sym e))

  row_listed : (j : App) → Listed j
      → (j.of.sym ≡ f) × (length (qs j) ≡ length xs → length (qs j) ≤ 3 → qs j ≡ xs)
  row_listed j e =
      let s = eqb j.of.sym f in
      let e₂ = and_left (s && t 0 && t 1) (t 2) e in
      let e₁ = and_left (s && t 0) (t 1) e₂ in (
        eqb-true j.of.sym f (and_left s (t 0) e₁),
        λ l h.
            same_three (qs j) xs l h (at 0 (and_right s (t 0) e₁)) (at 1 (and_right (s && t 0) (t 1) e₂))
            (at 2 (and_right (s && t 0 && t 1) (t 2) e)),
      )
    where
      t : ℕ → Bool
      t i = eqb (get_or (qs j) i 0) (get_or xs i 0)

      at : (i : ℕ) → t i ≡ true → get_or (qs j) i 0 ≡ get_or xs i 0
      at i = eqb-true (get_or (qs j) i 0) (get_or xs i 0)

  -- what no row lists, no choice picks
  none_chosen : (own : App → Value) (op : ℕ) (v : Value) (js : List App) → Each Unlisted js
      → chosen qs own xs v (keep (is_sym op f) js) ≡ v
  none_chosen own op v [] e = refl
  none_chosen own op v (j ∷ js) e = go (is_sym op f j) refl (same_list xs (qs j)) refl (none_chosen own op v js e.1)
    where
      go : (b : Bool) → is_sym op f j ≡ b → (c : Bool) → same_list xs (qs j) ≡ c
          → chosen qs own xs v (keep (is_sym op f) js) ≡ v
          → chosen qs own xs v (keep_if b j (keep (is_sym op f) js)) ≡ v
      go false p c q rest = rest
      go true p true q rest =
          let s = eqb-true j.of.sym f (and_right (eqb j.of.op op) (eqb j.of.sym f) p) in
          absurd (false≢true (sym e.0 ∙ row_lists j s (same_list_lem xs (qs j) q)))
      go true p false q rest =
          ap (λ (c : Bool). chosen qs own xs (pick_value c (own j) v) (keep (is_sym op f) js)) q ∙ rest

  -- where each row that lists them gives one value, which is 0 if there is none, that value is listed
  listed_value : (b : ℕ) (js : List App) → Each (λ j. Listed j → byte j ≡ b) js → (Each Unlisted js → b ≡ 0)
      → listed f xs (map row_for js) ≡ b
  listed_value b [] all nil = sym (nil tt)
  listed_value b (j ∷ js) all nil = go (lists f xs (row_for j)) refl (listed_value b js all.1)
    where
      go : (c : Bool) → lists f xs (row_for j) ≡ c → ((Each Unlisted js → b ≡ 0) → listed f xs (map row_for js) ≡ b)
          → ◌≡◌ {A = ℕ} (elim c [ true ↦ byte j | false ↦ listed f xs (map row_for js) ]) b
      go true e rec = all.0 e
      go false e rec = rec (λ u. nil (e, u))

-- a symbol is of a function or of a predicate, not of both
symbol_op : (symbols : List ℕ) (o op f : ℕ) → is_app (op_of o) ≡ true → is_app (op_of op) ≡ true
    → symbol_right symbols (op_of o) f ≡ true → symbol_right symbols (op_of op) f ≡ true → o ≡ op
symbol_op symbols o op f p q =
    elim (app_op o p) [
      | inl s ↦ elim (app_op op q) [ inl t ↦ λ a b. s ∙ sym t | inr t ↦ rw (s, t) (λ a b. absurd (apart a b)) ]
      | inr s ↦ elim (app_op op q) [ inl t ↦ rw (s, t) (λ a b. absurd (apart b a)) | inr t ↦ λ a b. s ∙ sym t ]
    ]
  where
    apart : symbol_right symbols apply f ≡ true → symbol_right symbols test f ≡ true → ⊥
    apart a b =
        let byte = get_or symbols f 0 in
        let known = ltb f (length symbols) in
        let less = ltb-true byte 4 (and_right known (is_function byte) a) in
        let more = leb-true 16 byte (and_left (leb 16 byte) (ltb byte 20) (and_right known (is_predicate byte) b)) in
        omega arith

-- where the rows list an application's value as a byte, the tables give the value
tables_give : (rows : List Row) (I : Interpretation) (vs : List Value) (n : Node) (xs : List ℕ) (op : ℕ)
    → is_app (op_of op) ≡ true → listed n.sym xs rows ≡ byte_of (op_value I vs (op_of op) n xs)
    → op_value (tables rows) vs (op_of op) n xs ≡ op_value I vs (op_of op) n xs
unfolding tables
tables_give rows I vs n xs op p =
    elim (app_op op p) [
      | inl q ↦ rw q (λ e. ap number e)
      | inr q ↦ rw q (λ e. ap truth (ap (λ (b : ℕ). eqb b 1) e ∙ bit (I.predicate n.sym xs)))
    ]
  where
    bit : (b : Bool) → eqb (byte_of (truth b)) 1 ≡ b
    bit true = refl
    bit false = refl

-- nodes of one op and symbol have as many operands in use, at most three
operands_many : (symbols : List ℕ) (m n : Node) → m.op ≡ n.op → m.sym ≡ n.sym
    → length (operands_of symbols m) ≡ length (operands_of symbols n)
operands_many symbols m n p q =
    ap₂ (λ (o s : ℕ). length (take (count_of (operand_sorts (op_of o) (arity symbols s))) (fields_of m))) p q
    ∙ take_many (count_of (sorts_of symbols n)) m n

operands_few : (symbols : List ℕ) (n : Node) → length (operands_of symbols n) ≤ 3
operands_few symbols n = let l = length-take (count_of (sorts_of symbols n)) (fields_of n) in omega arith

alike_self : (vs : List Value) (ks : List ℕ) → Alike vs vs ks ks
alike_self vs [] = tt
alike_self vs (k ∷ ks) = (refl, alike_self vs ks)

module _ (A : Interpretation) (symbols : List ℕ) (T : List Node) (right : first_wrong symbols [] T ≡ none) where
  abbrev F : State
  F = steps symbols begin T

  -- the values of the images, and of the nodes under the interpretation built
  abbrev vs : List Value
  vs = values A [] F.out

  abbrev B : Interpretation
  B = built A symbols T right

  abbrev ws : List Value
  ws = values B symbols T

  abbrev args : App → List ℕ
  args = given A symbols T right

  abbrev byte : App → ℕ
  byte j = byte_of (value_at vs j.image)

  -- the rows of the assignment, and their tables
  abbrev pub rows_under : List Row
  rows_under = map (app_row symbols F.images vs) (reverse F.apps)

  abbrev I : Interpretation
  I = tables rows_under

  symbol_right_lem : (k : ℕ) → k < length T → symbol_right symbols (op_of (node T k).op) (node T k).sym ≡ true
  symbol_right_lem k h = and_left _ _ (right_at_lem symbols T k right h)

  below_right : (k : ℕ) → k < length T → AllBelow k (operands_of symbols (node T k))
  below_right k h =
      subst (λ (m : ℕ). AllBelow m (operands_of symbols (node T k))) (length-take-le k T (omega arith))
      (right_below symbols (take k T) (node T k) (right_at_lem symbols T k right h))

  args_many : (j : App) → length (args j) ≡ length (operands_of symbols j.of)
  args_many j =
      length-map (images_of symbols F.images j.of) (number_at vs)
      ∙ length-map (operands_of symbols j.of) (λ k. get_or F.images k 0)

  module _ (j : App) (placed : AppPlaced symbols T right j) where
    -- the image of a distinct application has the value of the application at its arguments
    placed_value : value_at vs j.image ≡ op_value B ws (op_of j.of.op) j.of (args j)
    placed_value =
        let k = placed.at in
        let h = placed.at_node in
        let operands = operands_of symbols j.of in
        ap (value_at vs) placed.image_at
        ∙ built_value A symbols T right k h
        ∙ fixed B symbols T right k h
        ∙ ap (node_value B symbols ws) (sym placed.of_node)
        ∙ ap (op_value B ws (op_of j.of.op) j.of)
        (sym (numbers_below vs ws (λ i. get_or F.images i 0) k (λ i l. built_value A symbols T right i (omega arith)) operands
        (rw placed.of_node (below_right k h))))

    placed_right : symbol_right symbols (op_of j.of.op) j.of.sym ≡ true
    placed_right = rw placed.of_node (symbol_right_lem placed.at placed.at_node)

  -- the tables are asked for the symbol of an application, at as many arguments
  module _ (n : Node) (is_an_app : is_app (op_of n.op) ≡ true) (known : symbol_right symbols (op_of n.op) n.sym ≡ true)
      (xs : List ℕ) (many : length xs ≡ length (operands_of symbols n)) where
    -- what the interpretation built gives there
    abbrev asked : Value
    asked = op_value B ws (op_of n.op) n xs

    abbrev Gives : App → Type 0
    Gives j = Listed args byte n.sym xs j → byte j ≡ byte_of asked

    -- a row that lists the arguments gives that value
    row_gives : (j : App) → AppPlaced symbols T right j → Gives j
    row_gives j placed e =
        let found = row_listed args byte n.sym xs j e in
        let s = found.0 in
        let o =
        symbol_op symbols j.of.op n.op n.sym placed.is_an_app is_an_app
        (subst (λ (f : ℕ). symbol_right symbols (op_of j.of.op) f ≡ true) s (placed_right j placed)) known
        in
        let l = args_many j in
        let few = operands_few symbols j.of in
        let same = found.1 (l ∙ operands_many symbols j.of n o s ∙ sym many) (omega arith) in
        ap byte_of
        (placed_value j placed
        ∙ ap₂ (λ (op : ℕ) (ys : List ℕ). op_value B ws (op_of op) j.of ys) o same
        ∙ app_alike B ws ws n.op j.of n xs is_an_app s)

    rows_give : (js : List App) → AllPlaced symbols T right js → Each Gives js
    rows_give [] a = tt
    rows_give (j ∷ js) a = (row_gives j a.0, rows_give js a.1)

    -- where no row lists them, that value is 0 or false
    no_row : Each (Unlisted args byte n.sym xs) F.apps → byte_of asked ≡ 0
    unfolding built
    no_row u =
        elim (app_op n.op is_an_app) [
          | inl q ↦ rw q (ap number_of (none_chosen args byte n.sym xs _ 0 (number 0) F.apps u))
          | inr q ↦
              rw q
              (ap (λ (v : Value). byte_of (truth (truth_of v))) (none_chosen args byte n.sym xs _ 6 (truth false) F.apps u))
        ]

    tables_asked : op_value I ws (op_of n.op) n xs ≡ asked
    tables_asked =
        tables_give rows_under B ws n xs n.op is_an_app
        (listed_value args byte n.sym xs (byte_of asked) (reverse F.apps)
        (each_reverse Gives F.apps (rows_give F.apps (apps_placed symbols T right)))
        (λ u. no_row (rw reverse-reverse at (each_reverse (Unlisted args byte n.sym xs) (reverse F.apps) u))))

  -- at every node of the problem the tables and the interpretation built agree
  node_agrees : (n : Node) → symbol_right symbols (op_of n.op) n.sym ≡ true
      → node_value I symbols ws n ≡ node_value B symbols ws n
  node_agrees n known = go (is_app (op_of n.op)) refl
    where
      go : (b : Bool) → is_app (op_of n.op) ≡ b → node_value I symbols ws n ≡ node_value B symbols ws n
      go true p =
          tables_asked n p known (map (number_at ws) (operands_of symbols n)) (length-map (operands_of symbols n) (number_at ws))
      go false p =
          op_alike I B ws ws (op_of n.op) (arity symbols n.sym) n n _ _ p (alike_self ws (operands_of symbols n))

  abbrev Agree : ℕ → Type 0
  Agree k = value_at (values I symbols T) k ≡ value_at ws k

  agree_next : (k : ℕ) → k < length T → ((i : ℕ) → i < k → Agree i) → Agree k
  agree_next k h before =
      fixed I symbols T right k h
      ∙ node_same_value (values I symbols T) ws k before I symbols (node T k) (below_right k h)
      ∙ node_agrees (node T k) (symbol_right_lem k h)
      ∙ sym (fixed B symbols T right k h)

  agree_below : (m : ℕ) → m ≤ length T → (k : ℕ) → k < m → Agree k
  agree_below zero h k l = absurd (omega arith)
  agree_below (suc m) h k l = agree_next k (omega arith) (λ i b. agree_below m (omega arith) i (omega arith))

  -- the tables of an assignment's rows: every node of the problem has the value of its image
  pub tables_value : (k : ℕ) → k < length T
      → value_at (values (tables rows_under) symbols T) k ≡ value_at (values A [] F.out) (get_or F.images k 0)
  tables_value k h = agree_below (suc k) h k (omega arith) ∙ sym (built_value A symbols T right k h)
