-- The small model, over any function-free table whose equations link no pair outside given classes: an assignment and its
-- renaming into the ranks agree at every formula. A term has, in both, the value of one and the same leaf. Assumes nothing.
use mathlib.Core.Path.{◌≡◌, refl, sym, ap, ap₂, ◌∙◌, subst}
use Prim.Native.Nat.{ℕ, zero, suc, ◌≤◌, ◌<◌}
use native.Mathlib.Omega.{arith}
use mathlib.Core.Bool.{Bool, true, false, ◌&&◌, ◌||◌, cond, false≢true}
use mathlib.Core.Logic.{◌⊎◌, inl, inr}
use mathlib.Core.List.{List, [], ◌∷◌, map}
use mathlib.Core.Option.{Option, some}
use lib.ListN.{length, get_or, take}
use lib.Seq.{get_or-take, length-take-le}
use lib.Dec.{eqb}
use borrow.Author.Tests.{eqb-true, eq-eqb}
use Rattle.definitions.specs.Problem.Node.{Node, node, no_node, grown}
use Rattle.definitions.specs.Problem.Ops.{op_of, Sort, term, formula, sort_of, operand_sorts, fits, count_of, fields_of, is_app}
use Rattle.definitions.specs.Logic.{Interpretation, Value, number, truth, number_of, truth_of, value_at, number_at, truth_at, op_value, values}
use Rattle.definitions.specs.Ranges.{Variables, no_variable, op_leaves, node_leaves, leaf, links, linked}
use Rattle.theorems.specs.Classes.{LinksInside}
use Rattle.theorems.proofs.Laws.Tests.{or_left, or_right, and_intro, same_test, split}
use Rattle.theorems.proofs.Laws.Ops.{Alike, Sorted, operands_sorted, op_alike, sort_at}
use Rattle.theorems.proofs.Laws.Grown.{grown_at}
use Rattle.theorems.proofs.Tables.Free.{Free, names_of, free_named, free_fits, free_fixed}
use Rattle.theorems.proofs.Ranges.Components.{any_at}
use Rattle.theorems.proofs.Ranges.Renaming.{Equivalence, renamed, renamed_same}

-- all of these sorts are of formulas
abbrev AllFormulas : List Sort → Type 0
AllFormulas [] = Unit {0}
AllFormulas (s ∷ ss) = (s ≡ formula) × AllFormulas ss

formula≢term : formula ≡ term → ⊥
formula≢term e = let z : ◌≡◌ {A = ℕ} 0 1 = cc in omega arith

module _
    (t : List Node)
    (N P : ℕ)
    (free : Free N P t)
    (J : ℕ → ℕ → Bool)
    (E : Equivalence J N)
    (inside : LinksInside t N J)
    (A B : Interpretation)
    (numbers : (v : ℕ) → v < N → B.function v [] ≡ renamed J (λ u. A.function u []) v)
    (truths : (v : ℕ) → v < P → B.predicate v [] ≡ A.predicate v []) where
  abbrev a : ℕ → ℕ
  a v = A.function v []

  abbrev b : ℕ → ℕ
  b v = B.function v []

  abbrev xs : List Value
  xs = values A [] t

  abbrev ys : List Value
  ys = values B [] t

  -- a term has the value of one leaf under both
  pub record Leafy (k : ℕ) : Type 0 where
    pub v : ℕ
    pub low : v < N
    pub is : leaf t k v ≡ true
    pub left : value_at xs k ≡ number (a v)
    pub right : value_at ys k ≡ number (b v)

  pub record Agree (k : ℕ) : Type 0 where
    pub at_formula : sort_at t k ≡ formula → value_at xs k ≡ value_at ys k
    pub at_term : sort_at t k ≡ term → Leafy k

  module _ (m : ℕ) (hm : m < length t) (before : (k : ℕ) → k < m → Agree k) where
    abbrev n : Node
    n = node t m

    -- what is known of the operands: earlier nodes of these sorts
    abbrev Known : List Sort → List ℕ → Type 0
    Known [] ks = Unit {0}
    Known (s ∷ ss) [] = ⊥
    Known (s ∷ ss) (k ∷ ks) = (k < m) × (sort_at t k ≡ s) × Known ss ks

    known : (ss : List Sort) (ks : List ℕ) → Sorted (take m t) ss ks → Known ss ks
    known [] ks w = tt
    known (s ∷ ss) [] w = absurd w
    known (s ∷ ss) (k ∷ ks) w =
        let h : k < m = (let x = w.0 in let y = length-take-le m t (omega arith) in omega arith) in
        (h, ap (λ (q : Node). sort_of (op_of q.op)) (sym (get_or-take m t k no_node h)) ∙ w.1, known ss ks w.2)

    same_truth : (k : ℕ) → k < m → sort_at t k ≡ formula → truth_at xs k ≡ truth_at ys k
    same_truth k h s = ap truth_of ((before k h).at_formula s)

    -- operands that are all formulas have the same values
    alike : (ss : List Sort) (ks : List ℕ) → AllFormulas ss → Known ss ks → Alike xs ys (take (length ss) ks) (take (length ss) ks)
    alike [] ks f w = tt
    alike (s ∷ ss) [] f w = absurd w
    alike (s ∷ ss) (k ∷ ks) f w = ((before k w.0).at_formula (w.1 ∙ f.0), alike ss ks f.1 w.2)

    abbrev ls : List Variables
    ls = grown node_leaves [] t

    leaf_here : (v : ℕ) → leaf t m v ≡ op_leaves (take m ls) (op_of n.op) n v
    leaf_here v = ap (λ (f : Variables). f v) (grown_at node_leaves t m no_variable hm)

    leaf_kept : (k : ℕ) → k < m → (v : ℕ) → get_or (take m ls) k no_variable v ≡ leaf t k v
    leaf_kept k h v = ap (λ (f : Variables). f v) (get_or-take m ls k no_variable h)

    -- an equation's sides are equal under both or under neither
    sides : (u v : ℕ) → u < N → v < N → leaf t n.a u ≡ true → leaf t n.b v ≡ true → n.op ≡ 2 → eqb (a u) (a v) ≡ eqb (b u) (b v)
    sides u v hu hv lu lv q =
        let link : linked t u v ≡ true =
        any_at (links t u v) t m hm
        (and_intro (eqb n.op 2) (leaf t n.a u && leaf t n.b v || leaf t n.a v && leaf t n.b u) (eq-eqb n.op 2 q)
        (or_left (leaf t n.a u && leaf t n.b v) (leaf t n.a v && leaf t n.b u) (and_intro (leaf t n.a u) (leaf t n.b v) lu lv)))
        in
        let iff = renamed_same J N E a u v hu hv (inside u v hu hv link) in
        same_test (eqb (a u) (a v)) (eqb (b u) (b v))
        (λ e. eq-eqb (b u) (b v) (numbers u hu ∙ iff.0 (eqb-true (a u) (a v) e) ∙ sym (numbers v hv)))
        (λ e. eq-eqb (a u) (a v) (iff.1 (sym (numbers u hu) ∙ eqb-true (b u) (b v) e ∙ numbers v hv)))

    -- what is known of node m, by the number of its op
    record Here (op : ℕ) : Type 0 where
      is_op : n.op ≡ op
      x_value : value_at xs m ≡ op_value A xs (op_of op) n (map (number_at xs) (take (count_of (operand_sorts (op_of op) 0)) (fields_of n)))
      y_value : value_at ys m ≡ op_value B ys (op_of op) n (map (number_at ys) (take (count_of (operand_sorts (op_of op) 0)) (fields_of n)))
      sort : sort_at t m ≡ sort_of (op_of op)
      fit : fits (take m t) (operand_sorts (op_of op) 0) (fields_of n) ≡ true
      named : n.sym < names_of N P (op_of op)
      leaves : (v : ℕ) → leaf t m v ≡ op_leaves (take m ls) (op_of op) n v

    here : (op : ℕ) → n.op ≡ op → Here op
    here op q =
        subst Here q
        (record {
          is_op = refl;
          x_value = free_fixed N P t free m hm A;
          y_value = free_fixed N P t free m hm B;
          sort = refl;
          fit = free_fits N P t free m hm;
          named = free_named N P t free m hm;
          leaves = leaf_here;
        })

    operands : (op : ℕ) → Here op → (ss : List Sort) → operand_sorts (op_of op) 0 ≡ some ss → Known ss (fields_of n)
    operands op w ss e =
        known ss (fields_of n)
        (operands_sorted (take m t) ss (fields_of n) (subst (λ (o : Option (List Sort)). fits (take m t) o (fields_of n) ≡ true) e w.fit))

    not_term : sort_at t m ≡ formula → sort_at t m ≡ term → ⊥
    not_term e f = formula≢term (sym e ∙ f)

    -- a variable node
    at_variable : Here 0 → Agree m
    at_variable w =
        record {
          at_formula = λ e. absurd (not_term e w.sort);
          at_term =
              λ _.
              record {
                v = n.sym;
                low = w.named;
                is = w.leaves n.sym ∙ eq-eqb n.sym n.sym refl;
                left = w.x_value;
                right = w.y_value;
              };
        }

    -- a choice of terms: the leaf of the operand that is picked
    at_choice : Here 1 → Agree m
    at_choice w =
        record { at_formula = λ e. absurd (not_term e w.sort); at_term = λ _. go (truth_at xs n.a) refl }
      where
        k : Known (formula ∷ term ∷ term ∷ []) (fields_of n)
        k = operands 1 w (formula ∷ term ∷ term ∷ []) refl

        same : truth_at xs n.a ≡ truth_at ys n.a
        same = same_truth n.a k.0 k.1

        go : (c : Bool) → truth_at xs n.a ≡ c → Leafy m
        go true q =
            let l = (before n.b k.2.0).at_term k.2.1 in
            record {
              v = l.v;
              low = l.low;
              is =
                  w.leaves l.v
                  ∙ or_left (get_or (take m ls) n.b no_variable l.v) (get_or (take m ls) n.c no_variable l.v)
                  (leaf_kept n.b k.2.0 l.v ∙ l.is);
              left = w.x_value ∙ ap₂ (λ (c : Bool) (x : ℕ). number (cond c x (number_at xs n.c))) q (ap number_of l.left);
              right = w.y_value ∙ ap₂ (λ (c : Bool) (x : ℕ). number (cond c x (number_at ys n.c))) (sym same ∙ q) (ap number_of l.right);
            }
        go false q =
            let l = (before n.c k.2.2.0).at_term k.2.2.1 in
            record {
              v = l.v;
              low = l.low;
              is =
                  w.leaves l.v
                  ∙ or_right (get_or (take m ls) n.b no_variable l.v) (get_or (take m ls) n.c no_variable l.v)
                  (leaf_kept n.c k.2.2.0 l.v ∙ l.is);
              left = w.x_value ∙ ap₂ (λ (c : Bool) (x : ℕ). number (cond c (number_at xs n.b) x)) q (ap number_of l.left);
              right = w.y_value ∙ ap₂ (λ (c : Bool) (x : ℕ). number (cond c (number_at ys n.b) x)) (sym same ∙ q) (ap number_of l.right);
            }

    -- a formula with the same value under both
    formula_agrees : sort_at t m ≡ formula → value_at xs m ≡ value_at ys m → Agree m
    formula_agrees s e = record { at_formula = λ _. e; at_term = λ f. absurd (not_term s f) }

    at_equation : Here 2 → Agree m
    at_equation w =
        let k = operands 2 w (term ∷ term ∷ []) refl in
        let l = (before n.a k.0).at_term k.1 in
        let r = (before n.b k.2.0).at_term k.2.1 in
        formula_agrees w.sort
        (w.x_value
        ∙ ap truth
        (ap₂ eqb (ap number_of l.left) (ap number_of r.left)
        ∙ sides l.v r.v l.low r.low l.is r.is w.is_op
        ∙ sym (ap₂ eqb (ap number_of l.right) (ap number_of r.right)))
        ∙ sym w.y_value)

    at_truth_variable : Here 6 → Agree m
    at_truth_variable w =
        formula_agrees w.sort (w.x_value ∙ ap truth (sym (truths n.sym w.named)) ∙ sym w.y_value)

    -- a connective of formulas
    at_connective : (op : ℕ) → Here op → is_app (op_of op) ≡ false → (ss : List Sort) → operand_sorts (op_of op) 0 ≡ some ss → AllFormulas ss
        → sort_of (op_of op) ≡ formula → Agree m
    at_connective op w p ss e f s =
        formula_agrees (w.sort ∙ s)
        (w.x_value
        ∙ op_alike A B xs ys (op_of op) 0 n n _ _ p
        (subst (λ (o : Option (List Sort)). Alike xs ys (take (count_of o) (fields_of n)) (take (count_of o) (fields_of n))) (sym e)
        (alike ss (fields_of n) f (operands op w ss e)))
        ∙ sym w.y_value)

    agree_here : (op : ℕ) → Here op → Agree m
    agree_here zero w = at_variable w
    agree_here (suc zero) w = at_choice w
    agree_here (suc (suc zero)) w = at_equation w
    agree_here (suc (suc (suc zero))) w = at_connective 3 w refl (formula ∷ []) refl (refl, tt) refl
    agree_here (suc (suc (suc (suc zero)))) w = at_connective 4 w refl (formula ∷ formula ∷ []) refl (refl, (refl, tt)) refl
    agree_here (suc (suc (suc (suc (suc zero))))) w =
        at_connective 5 w refl (formula ∷ formula ∷ []) refl (refl, (refl, tt)) refl
    agree_here (suc (suc (suc (suc (suc (suc zero)))))) w = at_truth_variable w
    agree_here (suc (suc (suc (suc (suc (suc (suc zero))))))) w = at_connective 7 w refl [] refl tt refl
    agree_here (suc (suc (suc (suc (suc (suc (suc (suc zero)))))))) w = at_connective 8 w refl [] refl tt refl
    agree_here (suc (suc (suc (suc (suc (suc (suc (suc (suc zero))))))))) w =
        at_connective 9 w refl (formula ∷ formula ∷ formula ∷ []) refl (refl, (refl, (refl, tt))) refl
    agree_here (suc (suc (suc (suc (suc (suc (suc (suc (suc (suc op)))))))))) w = absurd (false≢true w.fit)

  agree_below : (m : ℕ) → m ≤ length t → (k : ℕ) → k < m → Agree k
  agree_below zero h k l = absurd (omega arith)
  agree_below (suc m) h k l = go (split k m) (agree_below m (omega arith))
    where
      go : (k < m) ⊎ (m ≤ k) → ((j : ℕ) → j < m → Agree j) → Agree k
      go (inl below) rec = rec k below
      go (inr above) rec =
          subst Agree (let q : m ≡ k = omega arith in q) (agree_here m (omega arith) rec (node t m).op (here m (omega arith) rec (node t m).op refl))

  -- every node agrees with its value under the renaming
  pub agree : (k : ℕ) → k < length t → Agree k
  agree k h = agree_below (length t) (omega arith) k h
