-- The row of a distinct application at a place, from the values that the code has at hand. Assumes nothing.
use mathlib.Core.Path.{◌≡◌, refl, sym, ap, ◌∙◌, subst}
use Prim.Native.Nat.{ℕ, zero, suc, ◌-◌, ◌<◌}
use native.Mathlib.Omega.{arith}
use Rattle.std.proofs.lemmas.List.{get_or-map, get_or-reverse}
use native.Mathlib.Nat.{min-le_left, le-min}
use mathlib.Core.Bool.{Bool, true, cond}
use mathlib.Core.List.{List, [], ◌∷◌, map, reverse}
use mathlib.Core.Logic.{inl, inr}
use mathlib.Core.Option.{none}
use lib.ListN.{length, get_or, take, length-map, length-take, length-reverse, length-replicate, get_or-eq_default}
use lib.Seq.{get_or-take}
use lib.Dec.{ltb}
use borrow.Author.Tests.{lt-ltb, le-ltb}
use Rattle.definitions.specs.Problem.Node.{Node, node}
use Rattle.definitions.specs.Problem.Ops.{Sort, term, op_of, is_app, arity, sorts_of, count_of, fields_of, operands_of}
use Rattle.definitions.specs.Problem.Check.{node_count, symbols_of, nodes_of, first_wrong}
use Rattle.definitions.specs.Logic.{Interpretation, Value, number, number_of, value_at, number_at, node_value, values}
use Rattle.definitions.specs.Elimination.{App, State, images_of, begin, steps, eliminated}
use Rattle.definitions.specs.Places.{assignment_at, values_at}
use Rattle.definitions.specs.Witness.{byte_of, row_of, app_row, rows_at}
use Rattle.theorems.proofs.Accepted.{Accepted}
use Rattle.theorems.proofs.Laws.Tests.{split}
use Rattle.theorems.proofs.Laws.Ops.{app_sorts}
use Rattle.theorems.proofs.Laws.Grown.{length_grown}
use Rattle.theorems.proofs.Tables.Fixed.{Terms, operands_terms, right_at_lem}
use Rattle.theorems.proofs.Elimination.OfAssignment.{built, built_value}
use Rattle.theorems.proofs.Elimination.WellLaid.{AppPlaced, AllPlaced, apps_placed, image_within}
use Rattle.elimination.specs.State.{state_at, no_app, app_at, noted, ImagesRead, three}
use Rattle.elimination.specs.declared.laid.Laid.{Laid}
use Rattle.elimination.proofs.Promising.{whole_state}
use Rattle.elimination.proofs.Prefix.{nodes_length, apps_few}
use Rattle.decision.specs.Rows.{row_of5, no_row, Noted, ValuesOf}

three_at : (xs : List ℕ) (j : ℕ) → j < 3 → get_or (three xs) j 0 ≡ get_or xs j 0
three_at xs zero h = refl
three_at xs (suc zero) h = refl
three_at xs (suc (suc zero)) h = refl
three_at xs (suc (suc (suc j))) h = absurd (omega arith)

terms_at : (I : Interpretation) (symbols : List ℕ) (T : List Node) (right : first_wrong symbols [] T ≡ none) (m : ℕ) (ks : List ℕ)
    → Terms I symbols T right m ks → (j : ℕ) → j < length ks
    → (get_or ks j 0 < m) × (value_at (values I symbols T) (get_or ks j 0) ≡ number (number_at (values I symbols T) (get_or ks j 0)))
terms_at I symbols T right m [] t j h = absurd (omega arith)
terms_at I symbols T right m (k ∷ ks) t zero h = (t.0, t.1)
terms_at I symbols T right m (k ∷ ks) t (suc j) h = terms_at I symbols T right m ks t.2 j (omega arith)

module _ (s : List ℕ) (ok : Accepted s) where
  abbrev symbols : List ℕ
  symbols = symbols_of s

  abbrev T : List Node
  T = nodes_of s

  abbrev F : State
  F = steps symbols begin T

  -- after all nodes, the elimination is done
  pub whole : state_at s (node_count s) ≡ F
  unfolding eliminated
  whole = whole_state s ok

  placed_at : (apps : List App) → AllPlaced symbols T ok.layout.nodes_right apps → (i : ℕ) → i < length apps
      → AppPlaced symbols T ok.layout.nodes_right (get_or apps i no_app)
  placed_at [] a i h = absurd (omega arith)
  placed_at (app ∷ apps) a zero h = a.0
  placed_at (app ∷ apps) a (suc i) h = placed_at apps a.1 i (omega arith)

  -- an application of the problem, at node q
  module _ (q : ℕ) (within : q < length T) (is_an_app : is_app (op_of (node T q).op) ≡ true) (p : ℕ) where
    abbrev n : Node
    n = node T q

    abbrev vs : List Value
    vs = values (assignment_at s p) [] F.out

    abbrev ws : List Value
    ws = values (built (assignment_at s p) symbols T ok.layout.nodes_right) symbols T

    -- the image of an argument has a number
    argument_number : (j : ℕ) → j < length (operands_of symbols n)
        → value_at vs (get_or (images_of symbols F.images n) j 0) ≡ number (number_at vs (get_or (images_of symbols F.images n) j 0))
    argument_number j h =
        let A = assignment_at s p in
        let right = ok.layout.nodes_right in
        let B = built A symbols T right in
        let k = get_or (operands_of symbols n) j 0 in
        let t = terms_at B symbols T right q (operands_of symbols n) (operands_terms B symbols T right q n (omega arith) is_an_app (right_at_lem symbols T q right within)) j h in
        let below = t.0 in
        let here : value_at vs (get_or F.images k 0) ≡ value_at ws k = built_value A symbols T right k (omega arith) in
        let at : get_or (images_of symbols F.images n) j 0 ≡ get_or F.images k 0 = get_or-map (λ i. get_or F.images i 0) (operands_of symbols n) j 0 0 h in
        subst (λ m. value_at vs m ≡ number (number_at vs m)) (sym at)
        (here ∙ t.1 ∙ ap (λ (v : Value). number (number_of v)) (sym here))

    argument_within : (j : ℕ) → j < length (operands_of symbols n) → get_or (images_of symbols F.images n) j 0 < length vs
    argument_within j h =
        let right = ok.layout.nodes_right in
        let k = get_or (operands_of symbols n) j 0 in
        let below = (terms_at (assignment_at s p) symbols T right q (operands_of symbols n) (operands_terms (assignment_at s p) symbols T right q n (omega arith) is_an_app (right_at_lem symbols T q right within)) j h).0 in
        let inside = image_within symbols T right k (omega arith) in
        let at : get_or (images_of symbols F.images n) j 0 ≡ get_or F.images k 0 = get_or-map (λ i. get_or F.images i 0) (operands_of symbols n) j 0 0 h in
        let g = length_grown (node_value (assignment_at s p) []) F.out in
        omega arith

    -- its arguments are as many as its arity says, of three
    arguments : count_of (sorts_of symbols n) ≡ arity symbols n.sym
    arguments = ap count_of (app_sorts n.op (arity symbols n.sym) is_an_app) ∙ length-replicate {A = Sort} (arity symbols n.sym) term

    images_many : length (images_of symbols F.images n) ≡ length (operands_of symbols n)
    images_many = length-map (operands_of symbols n) (λ k. get_or F.images k 0)

    module _ (vals : List ℕ) (are : take (length vs) vals ≡ map byte_of vs) where
      byte_at : (m : ℕ) → m < length vs → get_or vals m 0 ≡ byte_of (value_at vs m)
      byte_at m h = sym (get_or-take (length vs) vals m 0 h) ∙ ap (λ (xs : List ℕ). get_or xs m 0) are ∙ get_or-map byte_of vs m (number 0) 0 h

      -- argument j of the row, as the code reads it
      argument_is : (j : ℕ) → j < 3 → (image : ℕ) → image ≡ get_or (images_of symbols F.images n) j 0
          → cond (ltb j (arity symbols n.sym)) (get_or vals image 0) 0 ≡ get_or (map (number_at vs) (images_of symbols F.images n)) j 0
      argument_is j h image e =
          let is = images_of symbols F.images n in
          let many = images_many in
          let count = arguments in
          let taken = length-take (count_of (sorts_of symbols n)) (fields_of n) in
          elim (split j (arity symbols n.sym)) [
            | inl b ↦
                let least = le-min {k = suc j} {a = count_of (sorts_of symbols n)} {b = 3} (omega arith) (omega arith) in
                let inside : j < length (operands_of symbols n) = omega arith in
                ap (λ (b : Bool). cond b (get_or vals image 0) 0) (lt-ltb j (arity symbols n.sym) b)
                ∙ byte_at image (subst (λ m. m < length vs) (sym e) (argument_within j inside))
                ∙ ap (λ m. byte_of (value_at vs m)) e
                ∙ ap byte_of (argument_number j inside)
                ∙ sym (get_or-map (number_at vs) is j 0 0 (omega arith))
            | inr b ↦
                let few = min-le_left (count_of (sorts_of symbols n)) 3 in
                ap (λ (b : Bool). cond b (get_or vals image 0) 0) (le-ltb j (arity symbols n.sym) b)
                ∙ sym (get_or-eq_default (map (number_at vs) is) 0 {n = j} (let l = length-map is (number_at vs) in omega arith))
          ]

-- there are at most 40 rows
pub rows_room : {s : List ℕ} → Accepted s → {l : Laid} → Noted s l → {i : ℕ} → i < l.count → i < 40
rows_room {s} ok laid h = let a = apps_few s ok (node_count s) (omega arith) in let c = laid.count_is in omega arith

-- the row of distinct application i, in node order
module _ {s : List ℕ} (ok : Accepted s) {l : Laid} (laid : Noted s l) {i : ℕ} (h : i < l.count)
    {q : ℕ} (is_q : q ≡ (noted l i).node) where
  abbrev app : App
  app = app_at s (node_count s) i

  its_node : node (nodes_of s) q ≡ app.of
  its_node = ap (node (nodes_of s)) is_q ∙ laid.app_of i h

  its_image : get_or l.images q 0 ≡ app.image
  its_image = ap (λ n. get_or l.images n 0) is_q ∙ laid.app_image i h

  count_is : l.count ≡ length (F s ok).apps
  count_is = laid.count_is ∙ ap (λ (st : State). length st.apps) (whole s ok)

  app_is : get_or (reverse (F s ok).apps) i no_app ≡ app
  app_is =
      let c = count_is in
      get_or-reverse (F s ok).apps i no_app (omega arith)
      ∙ ap (λ m. get_or (F s ok).apps m no_app) (let e : length (F s ok).apps - 1 - i ≡ length (F s ok).apps - suc i = omega arith in e)
      ∙ ap (λ (st : State). get_or st.apps (length st.apps - suc i) no_app) (sym (whole s ok))

  placed : AppPlaced (symbols_of s) (nodes_of s) ok.layout.nodes_right app
  placed =
      let c = count_is in
      subst (AppPlaced (symbols_of s) (nodes_of s) ok.layout.nodes_right)
      (ap (λ (st : State). get_or st.apps (length st.apps - suc i) no_app) (sym (whole s ok)))
      (placed_at s ok (F s ok).apps (apps_placed (symbols_of s) (nodes_of s) ok.layout.nodes_right) (length (F s ok).apps - suc i) (omega arith))

  pub q_within : q < length (nodes_of s)
  q_within = let n = nodes_length s ok in let b = laid.app_before i h in omega arith

  q_app : is_app (op_of (node (nodes_of s) q).op) ≡ true
  q_app = ap (λ (n : Node). is_app (op_of n.op)) (its_node) ∙ placed.is_an_app

  image_in : get_or l.images q 0 < length (F s ok).out
  image_in =
      subst (λ m. m < length (F s ok).out) (sym (its_image ∙ placed.image_at))
      (image_within (symbols_of s) (nodes_of s) ok.layout.nodes_right placed.at placed.at_node)

  nodes_are : l.nodes ≡ length (F s ok).out
  nodes_are = laid.nodes_are ∙ ap (λ (st : State). length st.out) (whole s ok)

  pub image_fits : get_or l.images q 0 < l.nodes
  image_fits = let many = nodes_are in omega (arith, image_in)

  module _ {xs : List ℕ} (images : ImagesRead s l q xs) (p : ℕ) (vals : List ℕ) where
    images_are : xs ≡ three (images_of (symbols_of s) (state_at s (node_count s)).images (node (nodes_of s) q))
    images_are =
        let within = q_within in
        (images (node_count s) (omega (arith, nodes_length s ok)) (omega arith) laid.images_are).0

    abbrev pub argument : ℕ → ℕ
    argument j = cond (ltb j (arity (symbols_of s) (node (nodes_of s) q).sym)) (get_or vals (get_or xs j 0) 0) 0

    image_is : (j : ℕ) → j < 3 → get_or xs j 0 ≡ get_or (images_of (symbols_of s) (F s ok).images (node (nodes_of s) q)) j 0
    image_is j g =
        ap (λ (ys : List ℕ). get_or ys j 0) images_are
        ∙ three_at (images_of (symbols_of s) (state_at s (node_count s)).images (node (nodes_of s) q)) j g
        ∙ ap (λ (st : State). get_or (images_of (symbols_of s) st.images (node (nodes_of s) q)) j 0) (whole s ok)

    -- also where the field is unused
    pub images_fit : (j : ℕ) → j < 3 → get_or xs j 0 < l.nodes
    images_fit j g =
        let is = images_of (symbols_of s) (F s ok).images (node (nodes_of s) q) in
        let many = nodes_are in
        let some = image_in in
        let here = image_is j g in
        let images = images_many s ok q q_within q_app p in
        let values = length_grown (node_value (assignment_at s p) []) (F s ok).out in
        elim (split j (length (operands_of (symbols_of s) (node (nodes_of s) q)))) [
          | inl b ↦ let within = argument_within s ok q q_within q_app p j b in omega arith
          | inr b ↦ omega (arith, get_or-eq_default is 0 {n = j} (omega arith))
        ]

    pub row_is : ValuesOf s p vals
        → get_or (rows_at s p) i no_row
        ≡ row_of5 (node (nodes_of s) q).sym (argument 0) (argument 1) (argument 2) (get_or vals (get_or l.images q 0) 0)
    unfolding rows_at values_at eliminated
    row_is are =
        let c = count_is in
        let vs = values (assignment_at s p) [] (F s ok).out in
        let symbol = (node (nodes_of s) q).sym in
        let is = map (number_at vs) (images_of (symbols_of s) (F s ok).images (node (nodes_of s) q)) in
        let value = byte_of (value_at vs app.image) in
        let there = argument_is s ok q q_within q_app p vals are in
        get_or-map (app_row (symbols_of s) (F s ok).images vs) (reverse (F s ok).apps) i no_app no_row
        (let r = length-reverse (F s ok).apps in omega arith)
        ∙ ap (app_row (symbols_of s) (F s ok).images vs) app_is
        ∙ ap (λ (n : Node). row_of n.sym (map (number_at vs) (images_of (symbols_of s) (F s ok).images n)) value) (sym its_node)
        ∙ ap (λ x. row_of5 symbol x (get_or is 1 0) (get_or is 2 0) value) (sym (there 0 (omega arith) (get_or xs 0 0) (image_is 0 (omega arith))))
        ∙ ap (λ x. row_of5 symbol (argument 0) x (get_or is 2 0) value) (sym (there 1 (omega arith) (get_or xs 1 0) (image_is 1 (omega arith))))
        ∙ ap (λ x. row_of5 symbol (argument 0) (argument 1) x value) (sym (there 2 (omega arith) (get_or xs 2 0) (image_is 2 (omega arith))))
        ∙ ap (row_of5 symbol (argument 0) (argument 1) (argument 2))
        (ap (λ m. byte_of (value_at vs m)) (sym its_image)
        ∙ sym (byte_at s ok q q_within q_app p vals are (get_or l.images q 0)
        (let a = image_in in let g = length_grown (node_value (assignment_at s p) []) (F s ok).out in omega arith)))

    -- the row as the code reads it
    module _ {n : Node} (is_node : n ≡ node (nodes_of s) q) {ar : ℕ} (is_arity : ar ≡ arity (symbols_of s) n.sym) where
      arity_is : ar ≡ arity (symbols_of s) (node (nodes_of s) q).sym
      arity_is = is_arity ∙ ap (λ (n : Node). arity (symbols_of s) n.sym) is_node

      read : (j : ℕ) → cond (ltb j ar) (get_or vals (get_or xs j 0) 0) 0 ≡ argument j
      read j = ap (λ m. cond (ltb j m) (get_or vals (get_or xs j 0) 0) 0) arity_is

      pub row_read_lem : {x y z value : ℕ} → x ≡ cond (ltb 0 ar) (get_or vals (get_or xs 0 0) 0) 0
          → y ≡ cond (ltb 1 ar) (get_or vals (get_or xs 1 0) 0) 0 → z ≡ cond (ltb 2 ar) (get_or vals (get_or xs 2 0) 0) 0
          → value ≡ get_or vals (get_or l.images q 0) 0 → ValuesOf s p vals
          → row_of5 n.sym x y z value ≡ get_or (rows_at s p) i no_row
      row_read_lem {x} {y} {z} {value} ex ey ez ev are =
          ap (λ (n : Node). row_of5 n.sym x y z value) is_node
          ∙ ap (λ m. row_of5 (node (nodes_of s) q).sym m y z value) (ex ∙ read 0)
          ∙ ap (λ m. row_of5 (node (nodes_of s) q).sym (argument 0) m z value) (ey ∙ read 1)
          ∙ ap (λ m. row_of5 (node (nodes_of s) q).sym (argument 0) (argument 1) m value) (ez ∙ read 2)
          ∙ ap (λ m. row_of5 (node (nodes_of s) q).sym (argument 0) (argument 1) (argument 2) m) ev
          ∙ sym (row_is are)
