-- Writing a term in pairs keeps its meaning: the tree of a right term has the value that the standard's reading gives the term
-- (02, E1: "with longer lists paired as the standard groups them and => written as "not" and "or""). Assumes nothing.
use mathlib.Core.Path.{◌≡◌, refl, sym, ap, ◌∙◌}
use Prim.Native.Nat.{ℕ, ◌≤◌}
use native.Mathlib.Omega.{arith}
use mathlib.Core.Bool.{Bool, not, ◌&&◌, ◌||◌, and-true, and_assoc, or-false, or_assoc}
use mathlib.Core.List.{List, [], ◌∷◌, map}
use lib.ListN.{length, take, drop, replicate}
use lib.Dec.{eqb}
use Rattle.definitions.specs.Lists.{any, all}
use Rattle.definitions.specs.Problem.Ops.{term, formula, arity}
use Rattle.definitions.specs.Logic.{Interpretation, Value, number, truth, number_of, truth_of, number_at}
use Rattle.definitions.specs.Text.Grammar.{Head, declared, ite, equals, negation, conjunction, disjunction, implication, verum, falsum}
use Rattle.definitions.specs.Text.Meaning.{chained, implied, head_value}
use Rattle.definitions.specs.Text.Nodes.{Tree, operand, over3, pair, not_tree, leftward, grouped, equations, rightward, head_tree}
use Rattle.theorems.proofs.Text.Meant.Laying.{tree_value, Present, AllPresent, AllAbsent, Full}

module _ (symbols : List ℕ) where
  -- a tree that is there, with all that it uses
  abbrev pub Good : Tree → Type 0
  Good x = Full symbols x × Present x

  abbrev pub AllGood : List Tree → Type 0
  AllGood [] = Unit {0}
  AllGood (x ∷ xs) = Good x × AllGood xs

  -- a head has the arguments that it takes
  abbrev pub Fits : Head → List Tree → Type 0
  Fits (declared s k) ts = (arity symbols k ≡ length ts) × (length ts ≤ 3)
  Fits (ite s) ts = length ts ≡ 3
  Fits equals ts = 2 ≤ length ts
  Fits negation ts = length ts ≡ 1
  Fits conjunction ts = 2 ≤ length ts
  Fits disjunction ts = 2 ≤ length ts
  Fits implication ts = 2 ≤ length ts
  Fits verum ts = length ts ≡ 0
  Fits falsum ts = length ts ≡ 0

  good_pair2 : (a b : Tree) → Good a → Good b → Good (pair 2 a b)
  good_pair2 a b p q = ((p.0, q.0, tt, (p.1, (q.1, tt)), (tt, tt)), tt)

  good_pair4 : (a b : Tree) → Good a → Good b → Good (pair 4 a b)
  good_pair4 a b p q = ((p.0, q.0, tt, (p.1, (q.1, tt)), (tt, tt)), tt)

  good_pair5 : (a b : Tree) → Good a → Good b → Good (pair 5 a b)
  good_pair5 a b p q = ((p.0, q.0, tt, (p.1, (q.1, tt)), (tt, tt)), tt)

  good_not : (a : Tree) → Good a → Good (not_tree a)
  good_not a p = ((p.0, tt, tt, (p.1, tt), (tt, (tt, tt))), tt)

  pub good_leftward4 : (t : Tree) (us : List Tree) → Good t → AllGood us → Good (leftward 4 t us)
  good_leftward4 t [] p q = p
  good_leftward4 t (u ∷ us) p q = good_leftward4 (pair 4 t u) us (good_pair4 t u p q.0) q.1

  good_leftward5 : (t : Tree) (us : List Tree) → Good t → AllGood us → Good (leftward 5 t us)
  good_leftward5 t [] p q = p
  good_leftward5 t (u ∷ us) p q = good_leftward5 (pair 5 t u) us (good_pair5 t u p q.0) q.1

  good_equations : (b : Tree) (ts : List Tree) → Good b → AllGood ts → AllGood (equations (b ∷ ts))
  good_equations b [] p q = tt
  good_equations b (c ∷ ts) p q = (good_pair2 b c p q.0, good_equations c ts q.0 q.1)

  good_rightward : (a : Tree) (ts : List Tree) → Good a → AllGood ts → Good (rightward (a ∷ ts))
  good_rightward a [] p q = p
  good_rightward a (b ∷ ts) p q =
      good_pair5 (not_tree a) (rightward (b ∷ ts)) (good_not a p) (good_rightward b ts q.0 q.1)

  -- an application's operands in use are its arguments
  good_app : (ts : List Tree) → length ts ≤ 3 → AllGood ts
      → (Full symbols (operand ts 0) × Full symbols (operand ts 1) × Full symbols (operand ts 2)
      × AllPresent (take (length (replicate (length ts) term)) (operand ts 0 ∷ operand ts 1 ∷ operand ts 2 ∷ []))
      × AllAbsent (drop (length (replicate (length ts) term)) (operand ts 0 ∷ operand ts 1 ∷ operand ts 2 ∷ [])))
  good_app [] l g = (tt, tt, tt, tt, (tt, (tt, (tt, tt))))
  good_app (a ∷ []) l g = (g.0.0, tt, tt, (g.0.1, tt), (tt, (tt, tt)))
  good_app (a ∷ b ∷ []) l g = (g.0.0, g.1.0.0, tt, (g.0.1, (g.1.0.1, tt)), (tt, tt))
  good_app (a ∷ b ∷ c ∷ []) l g = (g.0.0, g.1.0.0, g.1.1.0.0, (g.0.1, (g.1.0.1, (g.1.1.0.1, tt))), tt)
  good_app (a ∷ b ∷ c ∷ d ∷ ts) l g = absurd (omega arith)

  pub head_good : (h : Head) (ts : List Tree) → Fits h ts → AllGood ts → Good (head_tree h ts)
  head_good (declared term k) ts f g = (rw f.0 (good_app ts f.1 g), tt)
  head_good (declared formula k) ts f g = (rw f.0 (good_app ts f.1 g), tt)
  head_good (ite term) ts f g = (rw f at (good_app ts (omega arith) g), tt)
  head_good (ite formula) ts f g = (rw f at (good_app ts (omega arith) g), tt)
  head_good equals ts f g = by ts f g
    where
      by : (ts : List Tree) → 2 ≤ length ts → AllGood ts → Good (grouped 4 (equations ts))
      by [] f g = absurd (omega arith)
      by (a ∷ []) f g = absurd (omega arith)
      by (a ∷ b ∷ ts) f g =
          good_leftward4 (pair 2 a b) (equations (b ∷ ts)) (good_pair2 a b g.0 g.1.0) (good_equations b ts g.1.0 g.1.1)
  head_good negation ts f g = by ts f g
    where
      by : (ts : List Tree) → length ts ≡ 1 → AllGood ts → Good (not_tree (operand ts 0))
      by [] f g = absurd (omega arith)
      by (a ∷ ts) f g = good_not a g.0
  head_good conjunction ts f g = by ts f g
    where
      by : (ts : List Tree) → 2 ≤ length ts → AllGood ts → Good (grouped 4 ts)
      by [] f g = absurd (omega arith)
      by (a ∷ ts) f g = good_leftward4 a ts g.0 g.1
  head_good disjunction ts f g = by ts f g
    where
      by : (ts : List Tree) → 2 ≤ length ts → AllGood ts → Good (grouped 5 ts)
      by [] f g = absurd (omega arith)
      by (a ∷ ts) f g = good_leftward5 a ts g.0 g.1
  head_good implication ts f g = by ts f g
    where
      by : (ts : List Tree) → 2 ≤ length ts → AllGood ts → Good (rightward ts)
      by [] f g = absurd (omega arith)
      by (a ∷ ts) f g = good_rightward a ts g.0 g.1
  head_good verum ts f g = ((tt, tt, tt, tt, (tt, (tt, (tt, tt)))), tt)
  head_good falsum ts f g = ((tt, tt, tt, tt, (tt, (tt, (tt, tt)))), tt)

module _ (I : Interpretation) (symbols : List ℕ) where
  abbrev value : Tree → Value
  value x = tree_value I symbols x

  -- and and or, paired to the left
  pub and_all : (t : Tree) (us : List Tree) → truth_of (value (leftward 4 t us)) ≡ truth_of (value t) && all truth_of (map value us)
  and_all t [] = sym (and-true (truth_of (value t)))
  and_all t (u ∷ us) = and_all (pair 4 t u) us ∙ and_assoc (truth_of (value t)) (truth_of (value u)) (all truth_of (map value us))

  or_any : (t : Tree) (us : List Tree) → truth_of (value (leftward 5 t us)) ≡ truth_of (value t) || any truth_of (map value us)
  or_any t [] = sym (or-false (truth_of (value t)))
  or_any t (u ∷ us) = or_any (pair 5 t u) us ∙ or_assoc (truth_of (value t)) (truth_of (value u)) (any truth_of (map value us))

  truth_and : (t : Tree) (us : List Tree) → value t ≡ truth (truth_of (value t)) → value (leftward 4 t us) ≡ truth (truth_of (value (leftward 4 t us)))
  truth_and t [] p = p
  truth_and t (u ∷ us) p = truth_and (pair 4 t u) us refl

  truth_or : (t : Tree) (us : List Tree) → value t ≡ truth (truth_of (value t)) → value (leftward 5 t us) ≡ truth (truth_of (value (leftward 5 t us)))
  truth_or t [] p = p
  truth_or t (u ∷ us) p = truth_or (pair 5 t u) us refl

  -- = , each with the one after it
  eq_chained : (b : Tree) (ts : List Tree) → all truth_of (map value (equations (b ∷ ts))) ≡ chained (map number_of (map value (b ∷ ts)))
  eq_chained b [] = refl
  eq_chained b (c ∷ ts) = ap (λ (r : Bool). eqb (number_of (value b)) (number_of (value c)) && r) (eq_chained c ts)

  -- =>, paired to the right
  implies : (a : Tree) (ts : List Tree) → truth_of (value (rightward (a ∷ ts))) ≡ implied (map truth_of (map value (a ∷ ts)))
  implies a [] = refl
  implies a (b ∷ ts) = ap (λ (r : Bool). not (truth_of (value a)) || r) (implies b ts)

  -- an application's arguments are the values of its operands in use
  arguments : (ts : List Tree) → length ts ≤ 3
      → map (number_at (value (operand ts 0) ∷ value (operand ts 1) ∷ value (operand ts 2) ∷ []))
      (take (length (replicate (length ts) term)) (0 ∷ 1 ∷ 2 ∷ []))
      ≡ map number_of (map value ts)
  arguments [] l = refl
  arguments (a ∷ []) l = refl
  arguments (a ∷ b ∷ []) l = refl
  arguments (a ∷ b ∷ c ∷ []) l = refl
  arguments (a ∷ b ∷ c ∷ d ∷ ts) l = absurd (omega arith)

  pub head_value_lem : (h : Head) (ts : List Tree) → Fits symbols h ts → value (head_tree h ts) ≡ head_value I h (map value ts)
  head_value_lem (declared term k) ts f = rw f.0 (ap (λ (xs : List ℕ). number (I.function k xs)) (arguments ts f.1))
  head_value_lem (declared formula k) ts f = rw f.0 (ap (λ (xs : List ℕ). truth (I.predicate k xs)) (arguments ts f.1))
  head_value_lem (ite term) ts f = by ts f
    where
      by : (ts : List Tree) → length ts ≡ 3 → value (over3 1 0 ts) ≡ head_value I (ite term) (map value ts)
      by [] f = absurd (omega arith)
      by (a ∷ []) f = absurd (omega arith)
      by (a ∷ b ∷ []) f = absurd (omega arith)
      by (a ∷ b ∷ c ∷ ts) f = refl
  head_value_lem (ite formula) ts f = by ts f
    where
      by : (ts : List Tree) → length ts ≡ 3 → value (over3 9 0 ts) ≡ head_value I (ite formula) (map value ts)
      by [] f = absurd (omega arith)
      by (a ∷ []) f = absurd (omega arith)
      by (a ∷ b ∷ []) f = absurd (omega arith)
      by (a ∷ b ∷ c ∷ ts) f = refl
  head_value_lem equals ts f = by ts f
    where
      by : (ts : List Tree) → 2 ≤ length ts → value (grouped 4 (equations ts)) ≡ head_value I equals (map value ts)
      by [] f = absurd (omega arith)
      by (a ∷ []) f = absurd (omega arith)
      by (a ∷ b ∷ ts) f =
          truth_and (pair 2 a b) (equations (b ∷ ts)) refl
          ∙ ap truth (and_all (pair 2 a b) (equations (b ∷ ts)) ∙ ap (λ (r : Bool). eqb (number_of (value a)) (number_of (value b)) && r) (eq_chained b ts))
  head_value_lem negation ts f = by ts f
    where
      by : (ts : List Tree) → length ts ≡ 1 → value (not_tree (operand ts 0)) ≡ head_value I negation (map value ts)
      by [] f = absurd (omega arith)
      by (a ∷ ts) f = refl
  head_value_lem conjunction ts f = by ts f
    where
      by : (ts : List Tree) → 2 ≤ length ts → value (grouped 4 ts) ≡ head_value I conjunction (map value ts)
      by [] f = absurd (omega arith)
      by (a ∷ []) f = absurd (omega arith)
      by (a ∷ b ∷ ts) f = truth_and (pair 4 a b) ts refl ∙ ap truth (and_all a (b ∷ ts))
  head_value_lem disjunction ts f = by ts f
    where
      by : (ts : List Tree) → 2 ≤ length ts → value (grouped 5 ts) ≡ head_value I disjunction (map value ts)
      by [] f = absurd (omega arith)
      by (a ∷ []) f = absurd (omega arith)
      by (a ∷ b ∷ ts) f = truth_or (pair 5 a b) ts refl ∙ ap truth (or_any a (b ∷ ts))
  head_value_lem implication ts f = by ts f
    where
      by : (ts : List Tree) → 2 ≤ length ts → value (rightward ts) ≡ head_value I implication (map value ts)
      by [] f = absurd (omega arith)
      by (a ∷ []) f = absurd (omega arith)
      by (a ∷ b ∷ ts) f = ap truth (implies a (b ∷ ts))
  head_value_lem verum ts f = refl
  head_value_lem falsum ts f = refl
