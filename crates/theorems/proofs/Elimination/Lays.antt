-- What elimination lays keeps the table well formed: own variables, conditions, choices and copies. Assumes nothing.
use mathlib.Core.Path.{◌≡◌, refl, sym, ap}
use Prim.Native.Nat.{ℕ, zero, suc, ◌≤◌, ◌<◌}
use native.Mathlib.Omega.{arith}
use mathlib.Core.Bool.{Bool, true, false, false≢true}
use mathlib.Core.List.{List, [], ◌∷◌, map}
use mathlib.Core.Logic.{inl, inr}
use mathlib.Core.Option.{Option, none, some}
use lib.ListN.{length, get_or, take, drop, replicate}
use lib.Dec.{eqb}
use Rattle.definitions.specs.Lists.{all, snoc, keep, keep_if}
use Rattle.definitions.specs.Problem.Node.{Node, plain}
use Rattle.definitions.specs.Problem.Ops.{op_of, is_app, Sort, term, formula, sort_of, arity, operand_sorts, fits, sorts_of, count_of, fields_of, operands_of}
use Rattle.definitions.specs.Elimination.{App, last, further, condition, choice_op, choices, variable_node, node_on}
use Rattle.theorems.proofs.Laws.Ops.{app_op, app_sorts, Sorted, operands_sorted, fields_node_on}
use Rattle.theorems.proofs.Tables.Free.{names_of, Free}
use Rattle.theorems.proofs.Elimination.Grows.{plain_op, free_more, Stands, Terms, Grows, stands_snoc, stays, stays_terms, grows_self, join, grows_snoc, lay}

-- what is known of an earlier application of the symbol, for the arguments xs: both have arguments, its arguments are terms, and
-- its own variable stands, of sort s
module _ (s : Sort) (args : Node → List ℕ) (xs : List ℕ) where
  pub record Knows (t : List Node) (j : App) : Type 0 where
    pub given : 0 < length xs
    pub many : 0 < length (args j.of)
    pub terms : Terms t (args j.of)
    pub variable : Stands t j.own s

  abbrev pub KnowsAll : List Node → List App → Type 0
  KnowsAll t [] = Unit {0}
  KnowsAll t (j ∷ js) = Knows t j × KnowsAll t js

-- the choice for an application is no application, and is between nodes of the application's sort
choice_op_lem : (op : ℕ) → is_app (op_of op) ≡ true
    → (is_app (op_of (choice_op op)) ≡ false)
    × (operand_sorts (op_of (choice_op op)) 0 ≡ some (formula ∷ sort_of (op_of op) ∷ sort_of (op_of op) ∷ []))
    × (sort_of (op_of (choice_op op)) ≡ sort_of (op_of op))
choice_op_lem op p = elim (app_op op p) [ inl q ↦ rw q (refl, refl, refl) | inr q ↦ rw q (refl, refl, refl) ]

module _ {N P : ℕ} where
  lay_equal : (t : List Node) (x y : ℕ) → Free N P t → Stands t x term → Stands t y term
      → Grows N P t (snoc t (plain 2 x y 0)) formula
  lay_equal t x y f a b =
      lay t 2 x y 0 (term ∷ term ∷ []) f refl refl (a.within, a.is, (b.within, b.is, tt)) refl

  further_grows : (t : List Node) (xs ys : List ℕ) → Free N P t → Terms t xs → Terms t ys → Stands t (last t) formula
      → Grows N P t (further t xs ys) formula
  further_grows t [] ys f a b h = grows_self f h
  further_grows t (x ∷ xs) [] f a b h = grows_self f h
  further_grows t (x ∷ xs) (y ∷ ys) f a b h =
      let mid = snoc t (plain 2 x y 0) in
      let one = lay_equal t x y f a.0 b.0 in
      let before = stays one h in
      let fresh = stands_snoc t (plain 2 x y 0) in
      let both =
      join one
      (lay mid 4 (last t) (length t) 0 (formula ∷ formula ∷ []) one.free refl refl
      (before.within, before.is, (fresh.within, fresh.is, tt)) refl)
      in
      join both
      (further_grows (snoc mid (plain 4 (last t) (length t) 0)) xs ys both.free (stays_terms both xs a.1)
      (stays_terms both ys b.1) both.top)

  -- the condition that some arguments are equal
  condition_grows : (t : List Node) (xs ys : List ℕ) → Free N P t → Terms t xs → Terms t ys → 0 < length xs → 0 < length ys
      → Grows N P t (condition t xs ys) formula
  condition_grows t [] ys f a b h l = absurd (omega arith)
  condition_grows t (x ∷ xs) [] f a b h l = absurd (omega arith)
  condition_grows t (x ∷ xs) (y ∷ ys) f a b h l =
      let one = lay_equal t x y f a.0 b.0 in
      join one
      (further_grows (snoc t (plain 2 x y 0)) xs ys one.free (stays_terms one xs a.1) (stays_terms one ys b.1) one.top)

  module _ (op : ℕ) (is_an_app : is_app (op_of op) ≡ true) (args : Node → List ℕ) (xs : List ℕ) where
    knows_stays : {t after : List Node} {s : Sort} → Grows N P t after s → (js : List App)
        → KnowsAll (sort_of (op_of op)) args xs t js → KnowsAll (sort_of (op_of op)) args xs after js
    knows_stays g [] k = tt
    knows_stays g (j ∷ js) k = (
      record {
        given = k.0.given;
        many = k.0.many;
        terms = stays_terms g (args j.of) k.0.terms;
        variable = stays g k.0.variable;
      },
      knows_stays g js k.1,
    )

    pub choices_grow : (js : List App) (t : List Node) → Free N P t → Terms t xs → KnowsAll (sort_of (op_of op)) args xs t js
        → Stands t (last t) (sort_of (op_of op)) → Grows N P t (choices op args t xs js) (sort_of (op_of op))
    choices_grow [] t f a k h = grows_self f h
    choices_grow (j ∷ js) t f a k h =
        let mid = condition t xs (args j.of) in
        let n = plain (choice_op op) (last mid) j.own (last t) in
        let s = sort_of (op_of op) in
        let c = choice_op_lem op is_an_app in
        let asked = condition_grows t xs (args j.of) f a k.0.terms k.0.given k.0.many in
        let own = stays asked k.0.variable in
        let stood = stays asked h in
        let both : Grows N P t (snoc mid n) s =
        join asked
        (rw c.2 at
        (lay mid (choice_op op) (last mid) j.own (last t) (formula ∷ s ∷ s ∷ []) asked.free c.0 c.1
        (asked.top.within, asked.top.is, (own.within, own.is, (stood.within, stood.is, tt))) refl))
        in
        join both (choices_grow js (snoc mid n) both.free (stays_terms both xs a) (knows_stays both js k.1) both.top)

-- how many distinct applications are of an op
abbrev pub count : ℕ → List App → ℕ
count op apps = length (keep (λ app. eqb app.of.op op) apps)

count_more : (op : ℕ) (app : App) (apps : List App) → count op apps ≤ count op (app ∷ apps)
count_more op app apps = go (eqb app.of.op op)
  where
    go : (b : Bool) → count op apps ≤ length (keep_if b app (keep (λ (j : App). eqb j.of.op op) apps))
    go true = omega arith
    go false = omega arith

-- the next variable number is below the count with the new application
count_names : (app : App) (apps : List App) → is_app (op_of app.of.op) ≡ true
    → count app.of.op apps < names_of (count 0 (app ∷ apps)) (count 6 (app ∷ apps)) (op_of app.of.op)
count_names app apps p = elim (app_op app.of.op p) [ inl q ↦ rw q (omega arith) | inr q ↦ rw q (omega arith) ]

-- one application more: its own variable is laid, numbered by the count so far
pub lay_variable : (t : List Node) (app : App) (apps : List App) → is_app (op_of app.of.op) ≡ true
    → Free (count 0 apps) (count 6 apps) t
    → Grows (count 0 (app ∷ apps)) (count 6 (app ∷ apps)) t (snoc t (variable_node app.of.op (count app.of.op apps)))
    (sort_of (op_of app.of.op))
lay_variable t app apps p f =
    grows_snoc t (variable_node app.of.op (count app.of.op apps))
    (free_more (count 0 apps) (count 6 apps) (count 0 (app ∷ apps)) (count 6 (app ∷ apps)) t (count_more 0 app apps)
    (count_more 6 app apps) f)
    (count_names app apps p) (rw (app_sorts app.of.op 0 p))

-- where each node of a table has an image of its sort in another table
module _ (t out : List Node) (img : ℕ → ℕ) (carries : (k : ℕ) (s : Sort) → Stands t k s → Stands out (img k) s) where
  carried_terms : (r : ℕ) (ks : List ℕ) → Sorted t (replicate r term) ks → Terms out (map img (take (length (replicate r term)) ks))
  carried_terms zero ks w = tt
  carried_terms (suc r) [] w = absurd w
  carried_terms (suc r) (k ∷ ks) w = (carries k term (record { within = w.0; is = w.1 }), carried_terms r ks w.2)

  -- the images of the operands of an application are terms
  pub app_terms : (symbols : List ℕ) (n : Node) → is_app (op_of n.op) ≡ true → fits t (sorts_of symbols n) (fields_of n) ≡ true
      → Terms out (map img (operands_of symbols n))
  app_terms symbols n p e =
      let ar = arity symbols n.sym in
      let sorts = app_sorts n.op ar p in
      rw sorts (carried_terms ar (fields_of n) (operands_sorted t (replicate ar term) (fields_of n) (rw sorts at e)))

  carried_sorted : (ss : List Sort) (ks is : List ℕ) → Sorted t ss ks → take (length ss) is ≡ map img (take (length ss) ks)
      → Sorted out ss is
  carried_sorted [] ks is w e = tt
  carried_sorted (s ∷ ss) [] is w e = absurd w
  carried_sorted (s ∷ ss) (k ∷ ks) [] w e = let q = ap length e in omega arith
  carried_sorted (s ∷ ss) (k ∷ ks) (i ∷ is) w e =
      let q : i ≡ img k = ap (λ (l : List ℕ). get_or l 0 0) e in
      let a = carries k s (record { within = w.0; is = w.1 }) in
      (rw q a.within, rw q a.is, carried_sorted ss ks is w.2 (ap (drop 1) e))

  rest_zero : (op c : ℕ) (n : Node) → all (eqb 0) (drop c (fields_of (node_on op (map img (take c (fields_of n)))))) ≡ true
  rest_zero op zero n = refl
  rest_zero op (suc zero) n = refl
  rest_zero op (suc (suc zero)) n = refl
  rest_zero op (suc (suc (suc zero))) n = refl
  rest_zero op (suc (suc (suc (suc c)))) n = refl

  -- a copy on the images of its operands
  pub lay_copy : {N P : ℕ} (symbols : List ℕ) (n : Node) → Free N P out → is_app (op_of n.op) ≡ false
      → fits t (sorts_of symbols n) (fields_of n) ≡ true
      → Grows N P out (snoc out (node_on n.op (map img (operands_of symbols n)))) (sort_of (op_of n.op))
  lay_copy {N} {P} symbols n f p =
      go (sorts_of symbols n) (sym (plain_op N P (arity symbols n.sym) (op_of n.op) p).1)
    where
      go : (o : Option (List Sort)) → operand_sorts (op_of n.op) 0 ≡ o → fits t o (fields_of n) ≡ true
          → Grows N P out (snoc out (node_on n.op (map img (take (count_of o) (fields_of n))))) (sort_of (op_of n.op))
      go none e w = absurd (false≢true w)
      go (some ss) e w =
          let ks = map img (take (length ss) (fields_of n)) in
          lay out n.op (get_or ks 0 0) (get_or ks 1 0) (get_or ks 2 0) ss f p e
          (carried_sorted ss (fields_of n) (fields_of (node_on n.op ks)) (operands_sorted t ss (fields_of n) w)
          (fields_node_on n.op img (length ss) n)) (rest_zero n.op (length ss) n)
