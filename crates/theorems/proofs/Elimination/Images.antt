-- Elimination keeps the meaning: where each variable has the value of its application, each image has the value of its node.
-- A new application has it by its choices among the own variables. Assumes nothing.
use mathlib.Core.Path.{◌≡◌, refl, sym, ap, ap₂, ◌∙◌, subst}
use Prim.Native.Nat.{ℕ, ◌<◌}
use native.Mathlib.Omega.{arith}
use mathlib.Core.Bool.{Bool, true, false}
use mathlib.Core.List.{List, [], ◌∷◌, map, append-nil}
use mathlib.Core.Logic.{◌⊎◌, inl, inr}
use mathlib.Core.Option.{none}
use lib.ListN.{length, get_or, take, length-append, get_or-append, length-map}
use lib.Seq.{get_or-append_seam}
use native.Mathlib.Nat.{le_of_lt}
use lib.Dec.{eqb}
use borrow.Author.Tests.{eqb-true}
use Rattle.definitions.specs.Lists.{snoc, keep, keep_if}
use Rattle.definitions.specs.Problem.Node.{Node, no_node}
use Rattle.definitions.specs.Problem.Ops.{op_of, arity, symbol_right, fits, sorts_of, count_of, fields_of, operands_of, operand_sorts, is_app}
use Rattle.definitions.specs.Problem.Check.{first_wrong}
use Rattle.definitions.specs.Logic.{Interpretation, Value, number_of, value_at, number_at, values}
use Rattle.definitions.specs.Elimination.{App, State, begin, images_of, last, choices, same_symbol, applied, add_app, earliest, step, steps}
use Rattle.definitions.specs.Elimination.{next_var, variable_node}
use Rattle.theorems.proofs.Elimination.Steps.{step_cases}
use Rattle.theorems.proofs.Elimination.Extends.{Ext, steps_ext}
use Rattle.theorems.proofs.Laws.Tests.{and_left, and_right, split}
use Rattle.theorems.proofs.Elimination.Chosen.{At, Ats, Laid, kept, stays, fresh, laid_snoc, Kind, KnowsAll, chosen, choices_laid, join, stays_all}
use Rattle.theorems.proofs.Tables.Fixed.{Terms, terms_more, operands_terms}
use Rattle.theorems.proofs.Elimination.Repeats.{not_found}
use Rattle.theorems.proofs.Elimination.Variables.{variable_value, variable_kind, variable_value_lem, no_operands, count_zero, take_many}
use Rattle.theorems.proofs.Elimination.Valued.{AppOk, ok_more, below_t, right_here, grow, copy_ok, repeat_ok}
use Rattle.theorems.proofs.Elimination.Valued as valued

module _ (I A : Interpretation) (symbols : List ℕ) (T : List Node) (right : first_wrong symbols [] T ≡ none) where
  abbrev vals : List Value
  vals = valued.vals I A symbols T right

  abbrev mean : Node → Value
  mean = valued.mean I A symbols T right

  abbrev given : Node → List ℕ
  given = valued.given I A symbols T right

  abbrev qs : App → List ℕ
  qs = valued.qs I A symbols T right

  abbrev own : App → Value
  own = valued.own I A symbols T right

  abbrev AllOk : List Node → List Node → List App → Type 0
  AllOk = valued.AllOk I A symbols T right

  abbrev Inv : State → List Node → Type 0
  Inv = valued.Inv I A symbols T right

  -- the arguments of an application, as the function-free table has them in the end
  abbrev pub qs_w : State → App → List ℕ
  qs_w F j = map (number_at (values A [] F.out)) (images_of symbols F.images j.of)

  abbrev pub SameAll : State → List App → Type 0
  SameAll F [] = Unit {0}
  SameAll F (j ∷ js) = (qs_w F j ≡ qs j) × SameAll F js

  -- the choices among the own variables come to the value of the application
  abbrev pub Accord : State → List App → Type 0
  Accord F [] = Unit {0}
  Accord F (app ∷ apps) =
      (SameAll F (app ∷ apps) → chosen qs own (qs app) (own app) (keep (same_symbol app.of) apps) ≡ mean app.of)
      × Accord F apps

  module _ (st : State) (n : Node) (ns : List Node) (inv : Inv st (n ∷ ns)) where
    abbrev args : Node → List ℕ
    args m = images_of symbols st.images m

    -- the images of terms have their numbers
    ats : (ks : List ℕ) → Terms I symbols T right (length st.done) ks
        → Ats A st.out (map (λ k. get_or st.images k 0) ks) (map (number_at vals) ks)
    ats [] t = tt
    ats (k ∷ ks) t =
        (subst (λ (v : Value). At A st.out (get_or st.images k 0) v) t.1 (inv.imgs k t.0), ats ks t.2)

    op_same : (app : App) → same_symbol n app ≡ true → app.of.op ≡ n.op
    op_same app e = eqb-true app.of.op n.op (and_left (eqb app.of.op n.op) (eqb app.of.sym n.sym) e)

    sym_same : (app : App) → same_symbol n app ≡ true → app.of.sym ≡ n.sym
    sym_same app e = eqb-true app.of.sym n.sym (and_right (eqb app.of.op n.op) (eqb app.of.sym n.sym) e)

    count_same : (app : App) → same_symbol n app ≡ true → count_of (sorts_of symbols app.of) ≡ count_of (sorts_of symbols n)
    count_same app e =
        ap₂ (λ (o s : ℕ). count_of (operand_sorts (op_of o) (arity symbols s))) (op_same app e) (sym_same app e)

    many_same : (app : App) → same_symbol n app ≡ true → length (qs app) ≡ length (given n)
    many_same app e =
        length-map (operands_of symbols app.of) (number_at vals)
        ∙ ap (λ (c : ℕ). length (take c (fields_of app.of))) (count_same app e)
        ∙ take_many (count_of (sorts_of symbols n)) app.of n
        ∙ sym (length-map (operands_of symbols n) (number_at vals))

    same_operands : (F : State) → Ext st F → (ks : List ℕ) → Terms I symbols T right (length st.done) ks
        → map (number_at (values A [] F.out)) (map (λ k. get_or F.images k 0) ks) ≡ map (number_at vals) ks
    same_operands F ext [] t = refl
    same_operands F ext (k ∷ ks) t =
        let le = inv.lens in
        let h = t.0 in
        let a = inv.imgs k h in
        let q : get_or F.images k 0 ≡ get_or st.images k 0 =
        ap (λ (is : List ℕ). get_or is k 0) ext.numbers.1 ∙ get_or-append st.images ext.numbers.0 0 k (omega arith)
        in
        let b = subst (λ (t : List Node). At A t (get_or st.images k 0) (value_at vals k)) (sym ext.nodes.1) (kept A st.out ext.nodes.0 (get_or st.images k 0) (value_at vals k) a) in
        ap₂ {C = List ℕ} (λ x xs. x ∷ xs) (ap (λ (i : ℕ). number_at (values A [] F.out) i) q ∙ ap number_of b.is) (same_operands F ext ks t.2)

    same_all : (F : State) → Ext st F → (apps : List App) → AllOk st.done st.out apps → SameAll F apps
    same_all F ext [] ok = tt
    same_all F ext (app ∷ apps) ok =
        (same_operands F ext (operands_of symbols app.of) ok.0.terms, same_all F ext apps ok.1)

    module _ (is_an_app : is_app (op_of n.op) ≡ true) (new : earliest n st.done st.images ≡ none) where
      zeros_here : count_of (sorts_of symbols n) ≡ 0 → (n.a ≡ 0) × (n.b ≡ 0) × (n.c ≡ 0)
      zeros_here z =
          no_operands (take (length st.done) T) (sorts_of symbols n) n
          (and_right (symbol_right symbols (op_of n.op) n.sym) (fits (take (length st.done) T) (sorts_of symbols n) (fields_of n)) (right_here I A symbols T right st n ns inv)) z

      -- an earlier application of the symbol has other arguments, so there are some
      positive : (app : App) → AppOk I A symbols T right st.done st.out app → same_symbol n app ≡ true → 0 < length (given n)
      positive app ok e =
          elim (split 0 (length (given n))) [
            | inl h ↦ h
            | inr h ↦
                let z : count_of (sorts_of symbols n) ≡ 0 =
                count_zero (count_of (sorts_of symbols n)) n
                (sym (length-map (operands_of symbols n) (number_at vals)) ∙ (let q : length (given n) ≡ 0 = omega arith in q))
                in
                let zn = zeros_here z in
                let za = ok.zeros (count_same app e ∙ z) in
                let equal : n ≡ app.of =
                λ i.
                record {
                  op = sym (op_same app e) i;
                  sym = sym (sym_same app e) i;
                  a = (zn.0 ∙ sym za.0) i;
                  b = (zn.1 ∙ sym za.1) i;
                  c = (zn.2 ∙ sym za.2) i;
                }
                in
                absurd (not_found n st.done st.images inv.lens new ok.index ok.within (equal ∙ ok.here))
          ]

      -- what is known of the earlier applications of the symbol, in any longer table
      knows : (out : List Node) → ((i : ℕ) (v : Value) → At A st.out i v → At A out i v)
          → ((xs ps : List ℕ) → Ats A st.out xs ps → Ats A out xs ps)
          → (apps : List App) → AllOk st.done st.out apps
          → KnowsAll A n.op args qs own out (length (given n)) (keep (same_symbol n) apps)
      knows out keeps keepsAll [] ok = tt
      knows out keeps keepsAll (app ∷ apps) ok = go (same_symbol n app) refl (knows out keeps keepsAll apps ok.1)
        where
          go : (b : Bool) → same_symbol n app ≡ b
              → KnowsAll A n.op args qs own out (length (given n)) (keep (same_symbol n) apps)
              → KnowsAll A n.op args qs own out (length (given n)) (keep_if b app (keep (same_symbol n) apps))
          go false e rest = rest
          go true e rest = (
            record {
              arguments = keepsAll (args app.of) (qs app) (ats (operands_of symbols app.of) ok.0.terms);
              variable = keeps app.own (own app) ok.0.variable;
              kind =
                  subst (λ (o : ℕ). Kind o (own app)) (op_same app e) (variable_kind A app.of.op app.var);
              many = many_same app e;
            },
            rest,
          )

      some_or_none : (apps : List App) → AllOk st.done st.out apps → (keep (same_symbol n) apps ≡ []) ⊎ (0 < length (given n))
      some_or_none [] ok = inl refl
      some_or_none (app ∷ apps) ok = go (same_symbol n app) refl (some_or_none apps ok.1)
        where
          go : (b : Bool) → same_symbol n app ≡ b → (keep (same_symbol n) apps ≡ []) ⊎ (0 < length (given n))
              → (keep_if b app (keep (same_symbol n) apps) ≡ []) ⊎ (0 < length (given n))
          go true e rest = inr (positive app ok.0 e)
          go false e rest = rest

      abbrev this : App
      this = record { of = n; var = next_var st n; own = length st.out; image = last (applied symbols st n) }

      terms_here : Terms I symbols T right (length st.done) (operands_of symbols n)
      terms_here = operands_terms I symbols T right (length st.done) n (le_of_lt (below_t I A symbols T right st n ns inv)) is_an_app (right_here I A symbols T right st n ns inv)

      module _ (m : chosen qs own (given n) (own this) (keep (same_symbol n) st.apps) ≡ mean n) where
        abbrev var : Node
        var = variable_node n.op (next_var st n)

        abbrev v₀ : Value
        v₀ = variable_value A n.op (next_var st n)

        own_at : At A (snoc st.out var) (length st.out) v₀
        own_at =
            fresh A st.out var v₀ (variable_value_lem A (values A [] st.out) n.op (next_var st n) is_an_app)

        first : Laid A st.out (snoc st.out var) v₀
        first = laid_snoc A st.out var v₀ own_at

        chain : Laid A (snoc st.out var) (applied symbols st n) (mean n)
        chain =
            subst (λ (v : Value). Laid A (snoc st.out var) (applied symbols st n) v) m
            (elim (some_or_none st.apps inv.apps) [
              | inl e ↦
                  subst (λ (js : List App). Laid A (snoc st.out var) (choices n.op args (snoc st.out var) (args n) js) (chosen qs own (given n) v₀ js)) (sym e)
                  (record { more = []; whole = sym (append-nil (snoc st.out var)); top = first.top })
              | inr h ↦
                  choices_laid A n.op args qs own (keep (same_symbol n) st.apps) (snoc st.out var) (args n) (given n) v₀ h
                  (stays_all A st.out (snoc st.out var) v₀ first (args n) (given n) (ats (operands_of symbols n) terms_here))
                  (knows (snoc st.out var) (λ i v a. stays A st.out (snoc st.out var) v₀ first i v a)
                  (λ xs ps a. stays_all A st.out (snoc st.out var) v₀ first xs ps a) st.apps inv.apps)
                  (variable_kind A n.op (next_var st n)) first.top
            ])

        add_ok : Inv (add_app symbols st n) ns
        add_ok =
            let out' = applied symbols st n in
            let whole = join A st.out (snoc st.out var) out' v₀ (mean n) first chain in
            let keeps : (j : ℕ) (v : Value) → At A st.out j v → At A out' j v = λ j v a. stays A st.out out' (mean n) whole j v a in
            let ld = length-append st.done (n ∷ []) in
            grow I A symbols T right st n ns inv out' (last out') (this ∷ st.apps) keeps whole.top (
              record {
                index = length st.done;
                within = omega arith;
                here = sym (get_or-append_seam st.done n [] no_node);
                is_an_app = is_an_app;
                zeros = zeros_here;
                terms = terms_more I symbols T right (length st.done) (length (snoc st.done n)) (omega arith) (operands_of symbols n) terms_here;
                variable = stays A (snoc st.out var) out' (mean n) chain (length st.out) v₀ own_at;
              },
              ok_more I A symbols T right st.done n st.out out' keeps st.apps inv.apps,
            )

    -- one step
    pub step_ok : (F : State) → Ext st F → Accord F (step symbols st n).apps → Inv (step symbols st n) ns
    step_ok F ext =
        step_cases symbols st n (λ G. Accord F G.apps → Inv G ns) (λ p m. copy_ok I A symbols T right st n ns inv p)
        (λ i e m. repeat_ok I A symbols T right st n ns inv i e)
        (λ p e m.
        add_ok p e (m.0 (same_operands F ext (operands_of symbols n) (terms_here p e), same_all F ext st.apps inv.apps)))

  step_tail : (F st : State) (n : Node) → Accord F (step symbols st n).apps → Accord F st.apps
  step_tail F st n =
      step_cases symbols st n (λ G. Accord F G.apps → Accord F st.apps) (λ p m. m) (λ i e m. m) (λ p e m. m.1)

  steps_tail : (F : State) (ns : List Node) (st : State) → Accord F (steps symbols st ns).apps → Accord F st.apps
  steps_tail F [] st m = m
  steps_tail F (n ∷ ns) st m = step_tail F st n (steps_tail F ns (step symbols st n) m)

  pub steps_ok : (ns : List Node) (st : State) → Inv st ns → Accord (steps symbols st ns) (steps symbols st ns).apps
      → Inv (steps symbols st ns) []
  steps_ok [] st inv m = inv
  steps_ok (n ∷ ns) st inv m =
      let F = steps symbols (step symbols st n) ns in
      steps_ok ns (step symbols st n) (step_ok st n ns inv F (steps_ext symbols (n ∷ ns) st) (steps_tail F ns (step symbols st n) m)) m

  -- where the choices come to the values of the applications, the image of each node has the node's value
  pub image_value : Accord (steps symbols begin T) (steps symbols begin T).apps → (k : ℕ) → k < length T
      → value_at (values A [] (steps symbols begin T).out) (get_or (steps symbols begin T).images k 0) ≡ value_at (values I symbols T) k
  image_value m k h =
      let inv = steps_ok T begin (record { all = refl; lens = refl; imgs = λ k h. absurd (omega arith); apps = tt }) m in
      let e = ap length (sym (append-nil (steps symbols begin T).done) ∙ inv.all) in
      (inv.imgs k (omega arith)).is
