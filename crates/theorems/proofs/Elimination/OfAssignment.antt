-- Every assignment of the function-free table comes from an interpretation: a symbol at some arguments has the value of the
-- earliest application that has these arguments, and what no application lists is 0 or false. Assumes nothing.
use mathlib.Core.Path.{◌≡◌, refl, sym, ap, ap₂, ◌∙◌, subst}
use Prim.Native.Nat.{ℕ}
use mathlib.Core.Bool.{Bool, true, false, ◌&&◌}
use mathlib.Core.List.{List, [], ◌∷◌, ◌++◌, map, append_assoc}
use mathlib.Core.Logic.{inl, inr}
use mathlib.Core.Option.{none}
use lib.ListN.{length, get_or}
use lib.Dec.{eqb}
use borrow.Author.Tests.{eqb-true, eq-eqb}
use Prim.Native.Nat.{◌<◌}
use Rattle.definitions.specs.Lists.{keep, keep_if}
use Rattle.definitions.specs.Problem.Node.{Node}
use Rattle.definitions.specs.Problem.Ops.{op_of, is_app}
use Rattle.definitions.specs.Problem.Check.{first_wrong}
use Rattle.definitions.specs.Logic.{Interpretation, Value, number, truth, number_of, truth_of, value_at, number_at, op_value, values}
use Rattle.definitions.specs.Elimination.{App, State, begin, images_of, same_symbol, steps}
use Rattle.theorems.proofs.Laws.Tests.{and_left}
use Rattle.theorems.proofs.Elimination.Chosen.{chosen, same_list, pick_value, Kind}
use Rattle.theorems.proofs.Laws.Ops.{app_op}
use Rattle.theorems.proofs.Elimination.Steps.{step_cases, steps_keep}
use Rattle.theorems.proofs.Elimination.Variables.{variable_value, variable_kind, as_number, as_truth, same_list_self}
use Rattle.theorems.proofs.Elimination.Valued.{qs}
use Rattle.theorems.proofs.Elimination.Images.{Accord, SameAll, image_value}

abbrev pub is_sym : ℕ → ℕ → App → Bool
is_sym op f app = eqb app.of.op op && eqb app.of.sym f

module _ {X : Type 0} (f : X → Bool) where
  pub keep_append : (xs ys : List X) → keep f (xs ++ ys) ≡ keep f xs ++ keep f ys
  keep_append [] ys = refl
  keep_append (x ∷ xs) ys = go (f x) (keep_append xs ys)
    where
      go : (b : Bool) → keep f (xs ++ ys) ≡ keep f xs ++ keep f ys → keep_if b x (keep f (xs ++ ys)) ≡ keep_if b x (keep f xs) ++ keep f ys
      go true e = ap {B = List X} (λ l. x ∷ l) e
      go false e = e

chosen_append : (q : App → List ℕ) (w : App → Value) (xs : List ℕ) (v : Value) (ls rs : List App)
    → chosen q w xs v (ls ++ rs) ≡ chosen q w xs (chosen q w xs v ls) rs
chosen_append q w xs v [] rs = refl
chosen_append q w xs v (l ∷ ls) rs = chosen_append q w xs (pick_value (same_list xs (q l)) (w l) v) ls rs

-- every distinct application is one
abbrev pub AllApp : List App → Type 0
AllApp [] = Unit {0}
AllApp (app ∷ apps) = (is_app (op_of app.of.op) ≡ true) × AllApp apps

pub steps_apps : (symbols : List ℕ) (ns : List Node) (st : State) → AllApp st.apps → AllApp (steps symbols st ns).apps
steps_apps symbols =
    steps_keep symbols (λ F. AllApp F.apps)
    (λ st n a. step_cases symbols st n (λ F. AllApp F.apps) (λ p. a) (λ i e. a) (λ p e. (p, a)))

module _ (A : Interpretation) (symbols : List ℕ) (T : List Node) (right : first_wrong symbols [] T ≡ none) where
  abbrev F : State
  F = steps symbols begin T

  abbrev pub given : App → List ℕ
  given j = map (number_at (values A [] F.out)) (images_of symbols F.images j.of)

  abbrev var : App → Value
  var j = variable_value A j.of.op j.var

  -- the interpretation that the assignment comes from
  unfoldable pub built : Interpretation
  built =
      record {
        function = λ f xs. number_of (chosen given var xs (number 0) (keep (is_sym 0 f) F.apps));
        predicate = λ f xs. truth_of (chosen given var xs (truth false) (keep (is_sym 6 f) F.apps));
      }

  -- the value of an application's symbol at its arguments, found among all applications of it
  look : (v : Value) (later rest : List App) (app : App) → F.apps ≡ later ++ app ∷ rest
      → chosen given var (given app) v (keep (same_symbol app.of) F.apps) ≡ chosen given var (given app) (var app) (keep (same_symbol app.of) rest)
  look v later rest app e =
      let f = same_symbol app.of in
      let here : f app ≡ true = ap₂ ◌&&◌ (eq-eqb app.of.op app.of.op refl) (eq-eqb app.of.sym app.of.sym refl) in
      ap (λ (l : List App). chosen given var (given app) v (keep f l)) e
      ∙ ap (chosen given var (given app) v) (keep_append f later (app ∷ rest))
      ∙ chosen_append given var (given app) v (keep f later) (keep f (app ∷ rest))
      ∙ ap (λ (b : Bool). chosen given var (given app) (chosen given var (given app) v (keep f later)) (keep_if b app (keep f rest))) here
      ∙ ap (λ (b : Bool). chosen given var (given app) (pick_value b (var app) (chosen given var (given app) v (keep f later))) (keep f rest)) (same_list_self (given app))

  -- the values picked are numbers for functions, truth values for predicates
  picked_kind : (op s : ℕ) (xs : List ℕ) (v : Value) (apps : List App) → Kind op v → Kind op (chosen given var xs v (keep (is_sym op s) apps))
  picked_kind op s xs v [] k = k
  picked_kind op s xs v (app ∷ apps) k = go (is_sym op s app) refl (λ w kw. picked_kind op s xs w apps kw)
    where
      pick : (b : Bool) → Kind op (var app) → Kind op (pick_value b (var app) v)
      pick true kv = kv
      pick false kv = k

      go : (b : Bool) → is_sym op s app ≡ b → ((w : Value) → Kind op w → Kind op (chosen given var xs w (keep (is_sym op s) apps)))
          → Kind op (chosen given var xs v (keep_if b app (keep (is_sym op s) apps)))
      go false e rec = rec v k
      go true e rec =
          let q = eqb-true app.of.op op (and_left (eqb app.of.op op) (eqb app.of.sym s) e) in
          rec (pick_value (same_list xs (given app)) (var app) v)
          (pick (same_list xs (given app)) (subst (λ (o : ℕ). Kind o (var app)) q (variable_kind A app.of.op app.var)))

  all_apps : AllApp F.apps
  all_apps = steps_apps symbols T begin tt

  -- the built value of an application is what the choices pick from the application on
  unfold_built : (app : App) → is_app (op_of app.of.op) ≡ true → (vs : List Value) (later rest : List App) → F.apps ≡ later ++ app ∷ rest
      → op_value built vs (op_of app.of.op) app.of (given app) ≡ chosen given var (given app) (var app) (keep (same_symbol app.of) rest)
  unfolding built
  unfold_built app p vs later rest e =
      let found : ℕ → Value → Value =
      λ op v. chosen given var (given app) v (keep (is_sym op app.of.sym) F.apps)
      in
      elim (app_op app.of.op p) [
        | inl q ↦
            ap (λ (o : ℕ). op_value built vs (op_of o) app.of (given app)) q
            ∙ as_number (found 0 (number 0)) (picked_kind 0 app.of.sym (given app) (number 0) F.apps tt)
            ∙ ap (λ (o : ℕ). found o (number 0)) (sym q)
            ∙ look (number 0) later rest app e
        | inr q ↦
            ap (λ (o : ℕ). op_value built vs (op_of o) app.of (given app)) q
            ∙ as_truth (found 6 (truth false)) (picked_kind 6 app.of.sym (given app) (truth false) F.apps tt)
            ∙ ap (λ (o : ℕ). found o (truth false)) (sym q)
            ∙ look (truth false) later rest app e
      ]

  same_chosen : (q : App → List ℕ) (f : App → Bool) (xs : List ℕ) (v : Value) (js : List App) → SameAll built A symbols T right F js
      → chosen given var xs v (keep f js) ≡ chosen (qs built A symbols T right) var xs v (keep f js)
  same_chosen q f xs v [] s = refl
  same_chosen q f xs v (j ∷ js) s = go (f j) (λ w. same_chosen q f xs w js s.1)
    where
      go : (b : Bool) → ((w : Value) → chosen given var xs w (keep f js) ≡ chosen (qs built A symbols T right) var xs w (keep f js))
          → chosen given var xs v (keep_if b j (keep f js)) ≡ chosen (qs built A symbols T right) var xs v (keep_if b j (keep f js))
      go false rec = rec v
      go true rec =
          ap (λ (ys : List ℕ). chosen given var xs (pick_value (same_list xs ys) (var j) v) (keep f js)) s.0
          ∙ rec (pick_value (same_list xs (qs built A symbols T right j)) (var j) v)

  accord : (later rest : List App) → F.apps ≡ later ++ rest → AllApp rest → Accord built A symbols T right F rest
  accord later [] e a = tt
  accord later (app ∷ rest) e a = (
    λ s.
        sym
        (ap (op_value built (values built symbols T) (op_of app.of.op) app.of) (sym s.0)
        ∙ unfold_built app a.0 (values built symbols T) later rest e
        ∙ ap (λ (xs : List ℕ). chosen given var xs (var app) (keep (same_symbol app.of) rest)) s.0
        ∙ same_chosen given (same_symbol app.of) (qs built A symbols T right app) (var app) rest s.1),
    accord (later ++ (app ∷ [])) rest (e ∙ sym (append_assoc later (app ∷ []) rest)) a.1,
  )

  -- under the interpretation built from an assignment, each node has the value of its image
  pub built_value : (k : ℕ) → k < length T
      → value_at (values A [] F.out) (get_or F.images k 0) ≡ value_at (values built symbols T) k
  built_value k h = image_value built A symbols T right (accord [] F.apps refl all_apps) k h
