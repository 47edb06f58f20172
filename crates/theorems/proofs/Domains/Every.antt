-- A formula is valid over the whole numbers exactly when it is valid over every domain with a test of equality: numbers can
-- stand for the elements that come up in a table. Assumes nothing.
use mathlib.Core.Path.{◌≡◌, refl, sym, ap, ap₂, ◌∙◌, subst}
use Prim.Native.Nat.{ℕ, zero, suc, ◌-◌}
use mathlib.Core.Bool.{Bool, true, false, cond}
use mathlib.Core.List.{List, [], ◌∷◌, ◌++◌, map, map-id, map-append}
use mathlib.Core.Logic.{◌↔◌}
use lib.ListN.{length, get_or, get_or-map}
use lib.Dec.{eqb}
use borrow.Author.Tests.{eq-eqb, eqb-true}
use Rattle.definitions.specs.Lists.{snoc}
use Rattle.definitions.specs.Problem.Node.{Node, grown}
use Rattle.definitions.specs.Problem.Ops.{
  Op,
  apply,
  choose,
  equal,
  negate,
  both,
  either,
  test,
  verum,
  falsum,
  select,
  unknown,
  op_of,
  operands_of,
}
use Rattle.definitions.specs.Problem.Check.{symbols_of, nodes_of}
use Rattle.definitions.specs.Logic
use Rattle.definitions.specs.Logic.{Interpretation, Value, number, number_of, number_at, holds, Valid}
use Rattle.theorems.proofs.Domains.Meaning.{
  Domain,
  InterpretationOver,
  ValueOver,
  element,
  truth,
  element_of,
  truth_of,
  value_at,
  element_at,
  truth_at,
  op_value,
  node_value,
  values,
  holds_over,
  ValidOver,
  whole_numbers,
}
use Rattle.theorems.proofs.Laws.Tests.{same_test}
use Rattle.theorems.proofs.Laws.Grown.{grown_extends}

-- numbers that stand for elements, 0 for the element read where the sort is wrong: the interpretation I does with numbers what J
-- does with the elements that they stand for
record Coding {D : Domain} (J : InterpretationOver D) (I : Interpretation) : Type 0 where
  code : D.carrier → ℕ
  decode : ℕ → D.carrier
  code_one : code D.one ≡ 0
  decode_zero : decode 0 ≡ D.one
  functions : (f : ℕ) (ys : List ℕ) → I.function f ys ≡ code (J.function f (map decode ys))
  predicates : (f : ℕ) (ys : List ℕ) → I.predicate f ys ≡ J.predicate f (map decode ys)

module _ {D : Domain} {J : InterpretationOver D} {I : Interpretation} (C : Coding J I) where
  open C use {code, decode, code_one, decode_zero, functions, predicates}

  -- every element among the values comes back from its number
  abbrev Kept : List (ValueOver D) → Type 0
  Kept vs = (k : ℕ) → decode (code (element_at vs k)) ≡ element_at vs k

  abbrev coded : ValueOver D → Value
  coded (element d) = number (code d)
  coded (truth b) = Logic.truth b

  number_coded : (v : ValueOver D) → number_of (coded v) ≡ code (element_of v)
  number_coded (element d) = refl
  number_coded (truth b) = sym code_one

  truth_coded : (v : ValueOver D) → Logic.truth_of (coded v) ≡ truth_of v
  truth_coded (element d) = refl
  truth_coded (truth b) = refl

  value_coded : (vs : List (ValueOver D)) (k : ℕ) → Logic.value_at (map coded vs) k ≡ coded (value_at vs k)
  value_coded vs k =
      ap (λ (x : ℕ). get_or (map coded vs) k (number x)) (sym code_one) ∙ get_or-map coded vs k (element D.one)

  number_at_lem : (vs : List (ValueOver D)) (k : ℕ) → number_at (map coded vs) k ≡ code (element_at vs k)
  number_at_lem vs k = ap number_of (value_coded vs k) ∙ number_coded (value_at vs k)

  truth_at_lem : (vs : List (ValueOver D)) (k : ℕ) → Logic.truth_at (map coded vs) k ≡ truth_at vs k
  truth_at_lem vs k = ap Logic.truth_of (value_coded vs k) ∙ truth_coded (value_at vs k)

  code_cond : (b : Bool) (x y : D.carrier) → cond b (code x) (code y) ≡ code (cond b x y)
  code_cond true x y = refl
  code_cond false x y = refl

  module _ (vs : List (ValueOver D)) (kept : Kept vs) where
    same_coded : (i k : ℕ) → eqb (code (element_at vs i)) (code (element_at vs k)) ≡ D.same (element_at vs i) (element_at vs k)
    same_coded i k =
        let x = element_at vs i in
        let y = element_at vs k in
        same_test (eqb (code x) (code y)) (D.same x y)
        (λ e. (D.exact x y).1 (sym (kept i) ∙ ap decode (eqb-true (code x) (code y) e) ∙ kept k))
        (λ e. eq-eqb (code x) (code y) (ap code ((D.exact x y).0 e)))

    arguments : (ks : List ℕ) → map decode (map (number_at (map coded vs)) ks) ≡ map (element_at vs) ks
    arguments [] = refl
    arguments (k ∷ ks) = ap₂ {C = List D.carrier} (λ x xs. x ∷ xs) (ap decode (number_at_lem vs k) ∙ kept k) (arguments ks)

    -- each op does the same with the numbers as with the elements
    op_coded : (o : Op) (n : Node) (ks : List ℕ)
        → coded (op_value J vs o n (map (element_at vs) ks)) ≡ Logic.op_value I (map coded vs) o n (map (number_at (map coded vs)) ks)
    op_coded apply n ks = ap number (sym (functions n.sym _ ∙ ap (λ xs. code (J.function n.sym xs)) (arguments ks)))
    op_coded choose n ks = simp (truth_at_lem, number_at_lem, code_cond)
    op_coded equal n ks = simp (number_at_lem, same_coded)
    op_coded negate n ks = simp truth_at_lem
    op_coded both n ks = simp truth_at_lem
    op_coded either n ks = simp truth_at_lem
    op_coded test n ks = ap Logic.truth (sym (predicates n.sym _ ∙ ap (J.predicate n.sym) (arguments ks)))
    op_coded verum n ks = refl
    op_coded falsum n ks = refl
    op_coded select n ks = simp truth_at_lem
    op_coded unknown n ks = refl

  -- the first of the values that are kept are kept
  kept_first : (vs r : List (ValueOver D)) → Kept (vs ++ r) → Kept vs
  kept_first [] r kept k = ap decode code_one ∙ decode_zero
  kept_first (v ∷ vs) r kept zero = kept 0
  kept_first (v ∷ vs) r kept (suc k) = kept_first vs r (λ i. kept (suc i)) k

  -- the values over the domain, coded, are the values over the whole numbers
  grown_coded : (symbols : List ℕ) (vs : List (ValueOver D)) (t : List Node) → Kept (grown (node_value J symbols) vs t)
      → map coded (grown (node_value J symbols) vs t) ≡ grown (Logic.node_value I symbols) (map coded vs) t
  grown_coded symbols vs [] kept = refl
  grown_coded symbols vs (n ∷ t) kept =
      let v = node_value J symbols vs n in
      let e = grown_extends (node_value J symbols) vs (n ∷ t) in
      let here = op_coded vs (kept_first vs e.0 (subst Kept e.1 kept)) (op_of n.op) n (operands_of symbols n) in
      grown_coded symbols (snoc vs v) t kept
      ∙ ap (λ ws. grown (Logic.node_value I symbols) ws t) (map-append coded vs (v ∷ []) ∙ ap (snoc (map coded vs)) here)

  -- where every element of the final values is kept, the formula has the same truth
  holds_coded : (s : List ℕ) → Kept (values J (symbols_of s) (nodes_of s)) → holds_over D J s ≡ holds I s
  unfolding holds holds_over
  holds_coded s kept =
      let last = length (nodes_of s) - 1 in
      sym (truth_at_lem (values J (symbols_of s) (nodes_of s)) last)
      ∙ ap (λ ws. Logic.truth_at ws last) (grown_coded (symbols_of s) [] (nodes_of s) kept)

-- over the whole numbers each number stands for itself
numbers : Interpretation → InterpretationOver whole_numbers
numbers I = record { function = I.function; predicate = I.predicate }

itself : (I : Interpretation) → Coding (numbers I) I
unfolding numbers
itself I =
    record {
      code = λ n. n;
      decode = λ n. n;
      code_one = refl;
      decode_zero = refl;
      functions = λ f ys. ap (I.function f) (sym (map-id ys));
      predicates = λ f ys. ap (I.predicate f) (sym (map-id ys));
    }

-- what is valid over the whole numbers as a domain is valid
pub valid_at_numbers : (s : List ℕ) → ValidOver whole_numbers s → Valid s
unfolding Valid ValidOver itself
valid_at_numbers s v I = sym (holds_coded (itself I) s (λ k. refl)) ∙ v (numbers I)

-- over any domain a number stands for the element of that place in a list
module _ (D : Domain) where
  -- the place of the first of a list that is the same as d; its length if there is none
  abbrev place_of : List D.carrier → D.carrier → ℕ
  place_of [] d = 0
  place_of (x ∷ xs) d = cond (D.same x d) 0 (suc (place_of xs d))

  -- a member, or the default, stands at its place
  placed : (xs : List D.carrier) (k : ℕ) (o : D.carrier) → get_or xs (place_of xs (get_or xs k o)) o ≡ get_or xs k o
  placed [] k o = refl
  placed (x ∷ xs) zero o = ap (λ b. get_or (x ∷ xs) (cond b 0 (suc (place_of xs x))) o) ((D.exact x x).1 refl)
  placed (x ∷ xs) (suc k) o = go (D.same x (get_or xs k o)) refl (placed xs k o)
    where
      go : (b : Bool) → D.same x (get_or xs k o) ≡ b → get_or xs (place_of xs (get_or xs k o)) o ≡ get_or xs k o
          → get_or (x ∷ xs) (cond b 0 (suc (place_of xs (get_or xs k o)))) o ≡ get_or xs k o
      go true e rest = (D.exact x (get_or xs k o)).0 e
      go false e rest = rest

  module _ (J : InterpretationOver D) (s : List ℕ) where
    vals : List (ValueOver D)
    vals = values J (symbols_of s) (nodes_of s)

    -- the elements that come up in the table
    elements : List D.carrier
    elements = D.one ∷ map element_of vals

    decoded : ℕ → D.carrier
    decoded k = get_or elements k D.one

    -- what J does, done with places
    at_places : Interpretation
    at_places =
        record {
          function = λ f ys. place_of elements (J.function f (map decoded ys));
          predicate = λ f ys. J.predicate f (map decoded ys);
        }

    by_place : Coding J at_places
    unfolding at_places decoded elements
    by_place =
        record {
          code = place_of elements;
          decode = decoded;
          code_one = ap (λ b. cond b 0 (suc (place_of (map element_of vals) D.one))) ((D.exact D.one D.one).1 refl);
          decode_zero = refl;
          functions = λ f ys. refl;
          predicates = λ f ys. refl;
        }

    -- the formula has the same truth with places as with elements: every element of the values has its place
    holds_at_places : holds_over D J s ≡ holds at_places s
    unfolding vals elements decoded by_place
    holds_at_places =
        holds_coded by_place s
        (λ k. subst (λ d. get_or elements (place_of elements d) D.one ≡ d) (get_or-map element_of vals k (element D.one))
        (placed elements (suc k) D.one))

-- what some domain makes false, the whole numbers make false
pub falsifier_over : (s : List ℕ) (D : Domain) (J : InterpretationOver D) → holds_over D J s ≡ false
    → (I : Interpretation) × (holds I s ≡ false)
falsifier_over s D J e = (at_places D J s, sym (holds_at_places D J s) ∙ e)

pub valid_over_every : (s : List ℕ) → Valid s ↔ ((D : Domain) → ValidOver D s)
unfolding Valid ValidOver
valid_over_every s = (λ v D J. holds_at_places D J s ∙ v (at_places D J s), λ v. valid_at_numbers s (v whole_numbers))
