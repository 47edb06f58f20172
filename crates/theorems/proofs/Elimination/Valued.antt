-- Images that have the values of their nodes, as elimination goes: what holds after each node, and that a node that is copied
-- and a node that repeats an earlier one keep it. Assumes nothing.
use mathlib.Core.Path.{◌≡◌, sym, ap, ◌∙◌, subst}
use Prim.Native.Nat.{ℕ, ◌<◌}
use native.Mathlib.Omega.{arith}
use mathlib.Core.Bool.{true, false}
use mathlib.Core.List.{List, [], ◌∷◌, ◌++◌, map, append_assoc}
use mathlib.Core.Logic.{inl, inr}
use mathlib.Core.Option.{none, some}
use lib.ListN.{length, get_or, take, length-append, get_or-append}
use lib.Seq.{get_or-append_seam, take-append_seam, get_or_at, length-take-le}
use native.Mathlib.Nat.{le_of_lt}
use Rattle.definitions.specs.Lists.{snoc}
use Rattle.definitions.specs.Problem.Node.{Node, node, no_node}
use Rattle.definitions.specs.Problem.Ops.{op_of, node_right, sorts_of, count_of, operands_of, is_app}
use Rattle.definitions.specs.Problem.Check.{first_wrong}
use Rattle.definitions.specs.Logic.{Interpretation, Value, value_at, number_at, node_value, values}
use Rattle.definitions.specs.Elimination.{App, State, images_of, last, repeat, earliest, node_on, copy}
use Rattle.theorems.proofs.Laws.Tests.{split}
use Rattle.theorems.proofs.Elimination.Chosen.{At, kept, fresh, last_snoc}
use Rattle.theorems.proofs.Tables.Fixed.{fixed, Terms, terms_more, copy_value, right_at_lem, right_below}
use Rattle.theorems.proofs.Laws.Ops.{AllBelow}
use Rattle.theorems.proofs.Elimination.Repeats.{found}
use Rattle.theorems.proofs.Elimination.Variables.{variable_value}

module _ (I A : Interpretation) (symbols : List ℕ) (T : List Node) (right : first_wrong symbols [] T ≡ none) where
  abbrev pub vals : List Value
  vals = values I symbols T

  abbrev pub mean : Node → Value
  mean n = node_value I symbols vals n

  abbrev pub given : Node → List ℕ
  given m = map (number_at vals) (operands_of symbols m)

  abbrev pub qs : App → List ℕ
  qs j = given j.of

  abbrev pub own : App → Value
  own j = variable_value A j.of.op j.var

  pub record AppOk (done out : List Node) (app : App) : Type 0 where
    pub index : ℕ
    pub within : index < length done
    pub here : app.of ≡ node done index
    pub is_an_app : is_app (op_of app.of.op) ≡ true
    pub zeros : count_of (sorts_of symbols app.of) ≡ 0 → (app.of.a ≡ 0) × (app.of.b ≡ 0) × (app.of.c ≡ 0)
    pub terms : Terms I symbols T right (length done) (operands_of symbols app.of)
    pub variable : At A out app.own (own app)

  abbrev pub AllOk : List Node → List Node → List App → Type 0
  AllOk done out [] = Unit {0}
  AllOk done out (app ∷ apps) = AppOk done out app × AllOk done out apps

  -- what holds where the nodes ns are left: each image has the value of its node, and each distinct application is right
  pub record Inv (st : State) (ns : List Node) : Type 0 where
    pub all : st.done ++ ns ≡ T
    pub lens : length st.images ≡ length st.done
    pub imgs : (k : ℕ) → k < length st.done → At A st.out (get_or st.images k 0) (value_at vals k)
    pub apps : AllOk st.done st.out st.apps

  pub ok_more : (done : List Node) (n : Node) (out out' : List Node) → ((i : ℕ) (v : Value) → At A out i v → At A out' i v)
      → (apps : List App) → AllOk done out apps → AllOk (snoc done n) out' apps
  ok_more done n out out' keeps [] ok = tt
  ok_more done n out out' keeps (app ∷ apps) ok =
      let l = length-append done (n ∷ []) in
      let w = ok.0.within in (
        record {
          index = ok.0.index;
          within = omega arith;
          here = ok.0.here ∙ sym (get_or-append done (n ∷ []) no_node ok.0.index w);
          is_an_app = ok.0.is_an_app;
          zeros = ok.0.zeros;
          terms = terms_more I symbols T right (length done) (length (snoc done n)) (omega arith) (operands_of symbols app.of) ok.0.terms;
          variable = keeps app.own (own app) ok.0.variable;
        },
        ok_more done n out out' keeps apps ok.1,
      )

  module _ (st : State) (n : Node) (ns : List Node) (inv : Inv st (n ∷ ns)) where
    node_here : node T (length st.done) ≡ n
    node_here = ap (λ (t : List Node). node t (length st.done)) (sym inv.all) ∙ get_or-append_seam st.done n ns no_node

    pub below_t : length st.done < length T
    below_t = let l = length-append st.done (n ∷ ns) in let e = ap length inv.all in omega arith

    take_here : take (length st.done) T ≡ st.done
    take_here = ap (take (length st.done)) (sym inv.all) ∙ take-append_seam st.done (n ∷ ns)

    pub right_here : node_right symbols (take (length st.done) T) n ≡ true
    right_here =
        subst (λ (x : Node). node_right symbols (take (length st.done) T) x ≡ true) node_here
        (right_at_lem symbols T (length st.done) right below_t)

    value_here : value_at vals (length st.done) ≡ mean n
    value_here = fixed I symbols T right (length st.done) below_t ∙ ap mean node_here

    pub grow : (out' : List Node) (i : ℕ) (apps' : List App) → ((j : ℕ) (v : Value) → At A st.out j v → At A out' j v)
        → At A out' i (mean n) → AllOk (snoc st.done n) out' apps'
        → Inv (record { done = snoc st.done n; out = out'; images = snoc st.images i; apps = apps' }) ns
    grow out' i apps' keeps a ok =
        let ld = length-append st.done (n ∷ []) in
        let li = length-append st.images (i ∷ []) in
        let le = inv.lens in
        record {
          all = append_assoc st.done (n ∷ []) ns ∙ inv.all;
          lens = omega arith;
          imgs =
              λ k h.
              elim (split k (length st.done)) [
                | inl l ↦
                    subst (λ (x : ℕ). At A out' x (value_at vals k)) (sym (get_or-append st.images (i ∷ []) 0 k (omega arith)))
                    (keeps (get_or st.images k 0) (value_at vals k) (inv.imgs k l))
                | inr l ↦
                    let q : length st.done ≡ k = omega arith in
                    subst (λ (x : ℕ). At A out' (get_or (snoc st.images i) x 0) (value_at vals x)) q
                    (subst (λ (x : ℕ). At A out' x (value_at vals (length st.done))) (sym (get_or_at st.images i [] 0 (length st.done) le))
                    (subst (λ (v : Value). At A out' i v) (sym value_here) a))
              ];
          apps = ok;
        }

    pub copy_ok : is_app (op_of n.op) ≡ false → Inv (copy symbols st n) ns
    copy_ok p =
        let nd = node_on n.op (images_of symbols st.images n) in
        let e =
        copy_value (values A [] st.out) vals (λ k. get_or st.images k 0) (length st.done) (λ k h. (inv.imgs k h).is) A I symbols n
        (subst (λ (m : ℕ). AllBelow m (operands_of symbols n)) (length-take-le (length st.done) T (le_of_lt below_t))
        (right_below symbols (take (length st.done) T) n right_here)) p
        in
        let a = fresh A st.out nd (mean n) e in
        let keeps : (j : ℕ) (v : Value) → At A st.out j v → At A (snoc st.out nd) j v = λ j v b. kept A st.out (nd ∷ []) j v b in
        grow (snoc st.out nd) (last (snoc st.out nd)) st.apps keeps
        (subst (λ (x : ℕ). At A (snoc st.out nd) x (mean n)) (sym (last_snoc A st.out nd)) a)
        (ok_more st.done n st.out (snoc st.out nd) keeps st.apps inv.apps)

    pub repeat_ok : (i : ℕ) → earliest n st.done st.images ≡ some i → Inv (repeat st n i) ns
    repeat_ok i e =
        let f = found n st.done st.images i e in
        let w = f.within in
        let b = below_t in
        let same : node T f.at ≡ n =
        ap (λ (t : List Node). node t f.at) (sym inv.all) ∙ get_or-append st.done (n ∷ ns) no_node f.at w ∙ sym f.equal
        in
        let v : value_at vals f.at ≡ mean n = fixed I symbols T right f.at (omega arith) ∙ ap mean same in
        let keeps : (j : ℕ) (v : Value) → At A st.out j v → At A st.out j v = λ j v b. b in
        grow st.out i st.apps keeps
        (subst (λ (x : ℕ). At A st.out x (mean n)) (sym f.image) (subst (λ (x : Value). At A st.out (get_or st.images f.at 0) x) v (inv.imgs f.at w)))
        (ok_more st.done n st.out st.out keeps st.apps inv.apps)
