-- Every interpretation gives an assignment of the function-free table: each variable has the value of its application.
-- Assumes nothing.
use mathlib.Core.Path.{◌≡◌, refl, sym, ap, ap₂, ◌∙◌, subst}
use Prim.Native.Nat.{ℕ, suc, ◌+◌, ◌<◌}
use native.Mathlib.Omega.{arith}
use mathlib.Core.Bool.{Bool, true, false, ◌&&◌}
use mathlib.Core.List.{List, [], ◌∷◌, ◌++◌, map, append_assoc}
use mathlib.Core.Logic.{inl, inr}
use mathlib.Core.Option.{none}
use lib.ListN.{length, get_or, length-append}
use lib.Dec.{eqb}
use borrow.Author.Tests.{eqb-true, eq-eqb}
use Rattle.definitions.specs.Lists.{keep, keep_if}
use Rattle.definitions.specs.Problem.Node.{Node}
use Rattle.definitions.specs.Problem.Ops.{op_of, is_app}
use Rattle.definitions.specs.Problem.Check.{first_wrong}
use Rattle.definitions.specs.Logic.{Interpretation, Value, number, truth, number_of, truth_of, value_at, number_at, op_value, values}
use Rattle.definitions.specs.Elimination.{App, State, begin, same_symbol, same_op, steps}
use Rattle.theorems.proofs.Laws.Tests.{and_left, and_right}
use Rattle.theorems.proofs.Elimination.Chosen.{chosen, same_list, pick_value, Kind}
use Rattle.theorems.proofs.Laws.Ops.{app_op, app_alike}
use Rattle.theorems.proofs.Elimination.Steps.{step_cases, steps_keep}
use Rattle.theorems.proofs.Elimination.Variables.{variable_value, app_kind, as_number, as_truth, same_list_lem}
use Rattle.theorems.proofs.Elimination.Valued.{qs, own}
use Rattle.theorems.proofs.Elimination.Images.{Accord, image_value}
use Rattle.theorems.proofs.Elimination.OfAssignment.{AllApp, steps_apps, keep_append}

-- each application's variable number is the count of the applications of its op before it
abbrev Numbered : List App → Type 0
Numbered [] = Unit {0}
Numbered (app ∷ apps) = (app.var ≡ length (keep (same_op app.of) apps)) × Numbered apps

steps_numbered : (symbols : List ℕ) (ns : List Node) (st : State) → Numbered st.apps → Numbered (steps symbols st ns).apps
steps_numbered symbols =
    steps_keep symbols (λ F. Numbered F.apps)
    (λ st n a. step_cases symbols st n (λ F. Numbered F.apps) (λ p. a) (λ i e. a) (λ p e. (refl, a)))

abbrev is_var : ℕ → ℕ → App → Bool
is_var op v app = eqb app.of.op op && eqb app.var v

numbered_at : (later rest : List App) (app : App) → Numbered (later ++ app ∷ rest) → app.var ≡ length (keep (same_op app.of) rest)
numbered_at [] rest app a = a.0
numbered_at (j ∷ later) rest app a = numbered_at later rest app a.1

-- a later application of the op has a greater number
clash : (j : App) (later rest : List App) (app : App) → Numbered (j ∷ (later ++ app ∷ rest)) → j.of.op ≡ app.of.op → j.var ≡ app.var → ⊥
clash j later rest app a oq vq =
    let f = same_op j.of in
    let here : f app ≡ true = eq-eqb app.of.op j.of.op (sym oq) in
    let len : length (keep f (later ++ app ∷ rest)) ≡ length (keep f later) + length (keep f (app ∷ rest)) =
    ap length (keep_append f later (app ∷ rest)) ∙ length-append (keep f later) (keep f (app ∷ rest))
    in
    let one : length (keep f (app ∷ rest)) ≡ suc (length (keep f rest)) = ap (λ (b : Bool). length (keep_if b app (keep f rest))) here in
    let same : length (keep f rest) ≡ length (keep (same_op app.of) rest) =
    ap (λ (o : ℕ). length (keep (λ (x : App). eqb x.of.op o) rest)) oq
    in
    let x = a.0 in
    let y = numbered_at later rest app a.1 in
    omega arith

module _ (I : Interpretation) (symbols : List ℕ) (T : List Node) (right : first_wrong symbols [] T ≡ none) where
  abbrev F : State
  F = steps symbols begin T

  abbrev meant : App → Value
  meant app = op_value I (values I symbols T) (op_of app.of.op) app.of (map (number_at (values I symbols T)) (Rattle.definitions.specs.Problem.Ops.operands_of symbols app.of))

  abbrev or_else : Bool → Value → Value → Value
  or_else true v w = v
  or_else false v w = w

  abbrev lookup : ℕ → ℕ → List App → Value
  lookup op v [] = number 0
  lookup op v (app ∷ apps) = or_else (is_var op v app) (meant app) (lookup op v apps)

  pub assigned : Interpretation
  assigned =
      record {
        function = λ v xs. number_of (lookup 0 v F.apps);
        predicate = λ v xs. truth_of (lookup 6 v F.apps);
      }

  -- the lookup finds the application, whatever came later
  looked : (later rest : List App) (app : App) → Numbered (later ++ app ∷ rest) → lookup app.of.op app.var (later ++ app ∷ rest) ≡ meant app
  looked [] rest app a =
      ap (λ (b : Bool). or_else b (meant app) (lookup app.of.op app.var rest))
      (ap₂ ◌&&◌ (eq-eqb app.of.op app.of.op refl) (eq-eqb app.var app.var refl))
  looked (j ∷ later) rest app a = go (is_var app.of.op app.var j) refl (looked later rest app a.1)
    where
      go : (b : Bool) → is_var app.of.op app.var j ≡ b → lookup app.of.op app.var (later ++ app ∷ rest) ≡ meant app
          → or_else b (meant j) (lookup app.of.op app.var (later ++ app ∷ rest)) ≡ meant app
      go false e rec = rec
      go true e rec =
          absurd
          (clash j later rest app a
          (eqb-true j.of.op app.of.op (and_left (eqb j.of.op app.of.op) (eqb j.var app.var) e))
          (eqb-true j.var app.var (and_right (eqb j.of.op app.of.op) (eqb j.var app.var) e)))

  kind_meant : (app : App) (op : ℕ) → app.of.op ≡ op → is_app (op_of op) ≡ true → Kind op (meant app)
  kind_meant app op q p =
      subst (λ (o : ℕ). Kind o (meant app)) q
      (app_kind I (values I symbols T) app.of _ app.of.op (subst (λ (o : ℕ). is_app (op_of o) ≡ true) (sym q) p))

  numbered : Numbered F.apps
  numbered = steps_numbered symbols T begin tt

  found_in : (later rest : List App) (app : App) → F.apps ≡ later ++ app ∷ rest → (op : ℕ) → app.of.op ≡ op → lookup op app.var F.apps ≡ meant app
  found_in later rest app e op q =
      ap₂ (λ (o : ℕ) (l : List App). lookup o app.var l) (sym q) e
      ∙ looked later rest app (subst Numbered e numbered)

  -- the own variable of an application has the value of the application
  own_meant : (later rest : List App) (app : App) → F.apps ≡ later ++ app ∷ rest → is_app (op_of app.of.op) ≡ true
      → variable_value assigned app.of.op app.var ≡ meant app
  unfolding assigned
  own_meant later rest app e p =
      elim (app_op app.of.op p) [
        | inl q ↦
            ap (λ (o : ℕ). variable_value assigned o app.var) q
            ∙ ap (λ (v : Value). number (number_of v)) (found_in later rest app e 0 q)
            ∙ as_number (meant app) (kind_meant app 0 q refl)
        | inr q ↦
            ap (λ (o : ℕ). variable_value assigned o app.var) q
            ∙ ap (λ (v : Value). truth (truth_of v)) (found_in later rest app e 6 q)
            ∙ as_truth (meant app) (kind_meant app 6 q refl)
      ]

  abbrev given : App → List ℕ
  given = qs I assigned symbols T right

  abbrev var : App → Value
  var = own I assigned symbols T right

  -- an earlier application with the same symbol and arguments has the same value
  picks : (app j : App) → is_app (op_of app.of.op) ≡ true → same_symbol app.of j ≡ true → same_list (given app) (given j) ≡ true → meant j ≡ meant app
  picks app j p e s =
      let oq = eqb-true j.of.op app.of.op (and_left (eqb j.of.op app.of.op) (eqb j.of.sym app.of.sym) e) in
      let sq = eqb-true j.of.sym app.of.sym (and_right (eqb j.of.op app.of.op) (eqb j.of.sym app.of.sym) e) in
      let q = same_list_lem (given app) (given j) s in
      ap (λ (o : ℕ). op_value I (values I symbols T) (op_of o) j.of (given j)) oq
      ∙ ap (op_value I (values I symbols T) (op_of app.of.op) j.of) (sym q)
      ∙ app_alike I (values I symbols T) (values I symbols T) app.of.op j.of app.of (given app) p sq

  chosen_meant : (app : App) → is_app (op_of app.of.op) ≡ true → (later rest : List App) → F.apps ≡ later ++ rest → AllApp rest
      → chosen given var (given app) (meant app) (keep (same_symbol app.of) rest) ≡ meant app
  chosen_meant app p later [] e a = refl
  chosen_meant app p later (j ∷ rest) e a =
      go (same_symbol app.of j) refl
      (chosen_meant app p (later ++ (j ∷ [])) rest (e ∙ sym (append_assoc later (j ∷ []) rest)) a.1)
    where
      pick : (b : Bool) → same_list (given app) (given j) ≡ b → same_symbol app.of j ≡ true → pick_value b (var j) (meant app) ≡ meant app
      pick true s q = own_meant later rest j e a.0 ∙ picks app j p q s
      pick false s q = refl

      go : (b : Bool) → same_symbol app.of j ≡ b
          → chosen given var (given app) (meant app) (keep (same_symbol app.of) rest) ≡ meant app
          → chosen given var (given app) (meant app) (keep_if b j (keep (same_symbol app.of) rest)) ≡ meant app
      go false q rec = rec
      go true q rec =
          ap (λ (v : Value). chosen given var (given app) v (keep (same_symbol app.of) rest)) (pick (same_list (given app) (given j)) refl q) ∙ rec

  accord : (later rest : List App) → F.apps ≡ later ++ rest → AllApp rest → Accord I assigned symbols T right F rest
  accord later [] e a = tt
  accord later (app ∷ rest) e a =
      let e' = e ∙ sym (append_assoc later (app ∷ []) rest) in (
        λ s.
            ap (λ (v : Value). chosen given var (given app) v (keep (same_symbol app.of) rest)) (own_meant later rest app e a.0)
            ∙ chosen_meant app a.0 (later ++ (app ∷ [])) rest e' a.1,
        accord (later ++ (app ∷ [])) rest e' a.1,
      )

  -- under the assignment that an interpretation gives, each image has the value of its node
  pub assigned_value : (k : ℕ) → k < length T
      → value_at (values assigned [] F.out) (get_or F.images k 0) ≡ value_at (values I symbols T) k
  assigned_value k h = image_value I assigned symbols T right (accord [] F.apps refl (steps_apps symbols T begin tt)) k h
