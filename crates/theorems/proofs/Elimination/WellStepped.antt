-- One step of elimination keeps the table well formed: right with the variables so far, each image standing in it with the sort of
-- its node, and each distinct application placed. Assumes nothing.
use mathlib.Core.Path.{◌≡◌, refl, sym, ap, ap₂, ◌∙◌}
use Prim.Native.Nat.{ℕ, ◌≤◌, ◌<◌}
use native.Mathlib.Omega.{arith}
use mathlib.Core.Bool.{Bool, true, false}
use mathlib.Core.List.{List, [], ◌∷◌, ◌++◌, append-nil, append_assoc}
use mathlib.Core.Logic.{inl, inr}
use mathlib.Core.Option.{Option, none, some}
use lib.ListN.{length, get_or, take, length-append, get_or-append, length-map}
use lib.Seq.{get_or-append_seam, get_or-take, length-take-le}
use lib.Dec.{eqb}
use borrow.Author.Tests.{eqb-true}
use Rattle.definitions.specs.Lists.{snoc, keep, keep_if}
use Rattle.definitions.specs.Problem.Node.{Node, node, no_node}
use Rattle.definitions.specs.Problem.Ops.{op_of, is_app, arity, Sort, sort_of, operand_sorts, fits, sorts_of, count_of, fields_of, operands_of}
use Rattle.definitions.specs.Problem.Check.{first_wrong}
use Rattle.definitions.specs.Elimination.{App, State, images_of, last, same_symbol, next_var, variable_node, node_on, earliest}
use Rattle.definitions.specs.Elimination.{applied, add_app, repeat, copy, step}
use Rattle.theorems.proofs.Laws.Tests.{and_left, and_right, split}
use Rattle.theorems.proofs.Laws.Ops.{sort_at}
use Rattle.theorems.proofs.Tables.Fixed.{right_at_lem, right_fits}
use Rattle.theorems.proofs.Tables.Free.{Free}
use Rattle.theorems.proofs.Elimination.Extends.{Starts}
use Rattle.theorems.proofs.Elimination.Steps.{step_cases}
use Rattle.theorems.proofs.Elimination.Repeats.{found, not_found}
use Rattle.theorems.proofs.Elimination.Variables.{no_operands, count_zero, take_many}
use Rattle.theorems.proofs.Elimination.Grows.{Stands, Terms, Grows, node_kept, node_sort, stands_kept, stays, stays_terms, join}
use Rattle.theorems.proofs.Elimination.Lays.{KnowsAll, count, lay_variable, lay_copy, app_terms, choices_grow}

module _ (symbols : List ℕ) (T : List Node) (right : first_wrong symbols [] T ≡ none) where
  -- a distinct application among the nodes that have these images, in this table
  pub record Placed (images : List ℕ) (out : List Node) (app : App) : Type 0 where
    pub at : ℕ
    pub before : at < length images
    pub of_node : app.of ≡ node T at
    pub is_an_app : is_app (op_of app.of.op) ≡ true
    pub image_at : app.image ≡ get_or images at 0
    pub own_within : app.own < length out
    pub own_node_is : node out app.own ≡ variable_node app.of.op app.var

  abbrev pub PlacedAll : List ℕ → List Node → List App → Type 0
  PlacedAll images out [] = Unit {0}
  PlacedAll images out (app ∷ apps) = Placed images out app × PlacedAll images out apps

  placed_more : (images : List ℕ) (i : ℕ) (out out' : List Node) → Starts out out' → (apps : List App)
      → PlacedAll images out apps → PlacedAll (snoc images i) out' apps
  placed_more images i out out' e [] a = tt
  placed_more images i out out' e (app ∷ apps) a =
      let b = a.0.before in
      let l = length-append images (i ∷ []) in
      let kept = node_kept out out' app.own e a.0.own_within in (
        record {
          at = a.0.at;
          before = omega arith;
          of_node = a.0.of_node;
          is_an_app = a.0.is_an_app;
          image_at = a.0.image_at ∙ sym (get_or-append images (i ∷ []) 0 a.0.at b);
          own_within = kept.0;
          own_node_is = kept.1 ∙ a.0.own_node_is;
        },
        placed_more images i out out' e apps a.1,
      )

  -- what holds where the nodes ns are left: the table is well formed with the variables so far, each image stands, of its node's
  -- sort, and each distinct application is placed
  pub record Inv (st : State) (ns : List Node) : Type 0 where
    pub whole : st.done ++ ns ≡ T
    pub lens : length st.images ≡ length st.done
    pub free : Free (count 0 st.apps) (count 6 st.apps) st.out
    pub imgs : (k : ℕ) → k < length st.images → Stands st.out (get_or st.images k 0) (sort_at T k)
    pub apps : PlacedAll st.images st.out st.apps

  module _ (st : State) (n : Node) (ns : List Node) (inv : Inv st (n ∷ ns)) where
    -- how many nodes are done
    abbrev m : ℕ
    m = length st.images

    node_here : node T m ≡ n
    node_here = ap₂ node (sym inv.whole) inv.lens ∙ get_or-append_seam st.done n ns no_node

    below_t : m < length T
    below_t = let l = length-append st.done (n ∷ ns) in let e = ap length inv.whole in let q = inv.lens in omega arith

    -- a node done is right after those before it
    right_before : (k : ℕ) (x : Node) → k ≤ m → x ≡ node T k → fits (take k T) (sorts_of symbols x) (fields_of x) ≡ true
    right_before k x l e = let b = below_t in right_fits symbols (take k T) x (rw e (right_at_lem symbols T k right (omega arith)))

    fits_here : fits (take m T) (sorts_of symbols n) (fields_of n) ≡ true
    fits_here = right_before m n (omega arith) (sym node_here)

    -- the images of the first nodes have their sorts
    carry : (j : ℕ) → j ≤ m → (k : ℕ) (s : Sort) → Stands (take j T) k s → Stands st.out (get_or st.images k 0) s
    carry j l k s a =
        let b = below_t in
        let c = length-take-le j T (omega arith) in
        let w = a.within in
        let i = inv.imgs k (omega arith) in
        record { within = i.within; is = i.is ∙ node_sort (sym (get_or-take j T k no_node (omega arith))) ∙ a.is }

    -- one node done, with its image and what is laid for it
    grow : (out' : List Node) (i : ℕ) (apps' : List App) → Starts st.out out' → Free (count 0 apps') (count 6 apps') out'
        → Stands out' i (sort_of (op_of n.op)) → PlacedAll (snoc st.images i) out' apps'
        → Inv (record { done = snoc st.done n; out = out'; images = snoc st.images i; apps = apps' }) ns
    grow out' i apps' e f a placed =
        let ld = length-append st.done (n ∷ []) in
        let li = length-append st.images (i ∷ []) in
        let le = inv.lens in
        record {
          whole = append_assoc st.done (n ∷ []) ns ∙ inv.whole;
          lens = omega arith;
          free = f;
          imgs =
              λ k h.
              elim (split k m) [
                | inl l ↦
                    rw (get_or-append st.images (i ∷ []) 0 k l)
                    (stands_kept st.out out' (get_or st.images k 0) (sort_at T k) e (inv.imgs k l))
                | inr l ↦
                    let q : k ≡ m = omega arith in
                    rw (q, get_or-append_seam st.images i [] 0, node_here) a
              ];
          apps = placed;
        }

    copy_ok : is_app (op_of n.op) ≡ false → Inv (copy symbols st n) ns
    copy_ok p =
        let g = lay_copy (take m T) st.out (λ k. get_or st.images k 0) (carry m (omega arith)) symbols n inv.free p fits_here in
        let out' = snoc st.out (node_on n.op (images_of symbols st.images n)) in
        grow out' (last out') st.apps g.start g.free g.top
        (placed_more st.images (last out') st.out out' g.start st.apps inv.apps)

    -- a node done, as the problem has it
    done_node : (k : ℕ) → k < m → node T k ≡ node st.done k
    done_node k h =
        let q = inv.lens in
        ap (λ (t : List Node). node t k) (sym inv.whole) ∙ get_or-append st.done (n ∷ ns) no_node k (omega arith)

    repeat_ok : (i : ℕ) → earliest n st.done st.images ≡ some i → Inv (repeat st n i) ns
    repeat_ok i e =
        let f = found n st.done st.images i e in
        let w : f.at < m = (let x = f.within in let q = inv.lens in omega arith) in
        let same : node T f.at ≡ n = done_node f.at w ∙ sym f.equal in
        let start : Starts st.out st.out = ([], sym (append-nil st.out)) in
        let there = inv.imgs f.at w in
        grow st.out i st.apps start inv.free (rw f.image (record { within = there.within; is = there.is ∙ node_sort same }))
        (placed_more st.images i st.out st.out start st.apps inv.apps)

    abbrev args : Node → List ℕ
    args x = images_of symbols st.images x

    -- the arguments of an application that is done, or is this node, are terms
    args_terms : (k : ℕ) (x : Node) → k ≤ m → x ≡ node T k → is_app (op_of x.op) ≡ true → Terms st.out (args x)
    args_terms k x l e p =
        app_terms (take k T) st.out (λ j. get_or st.images j 0) (carry k l) symbols x p (right_before k x l e)

    module _ (is_an_app : is_app (op_of n.op) ≡ true) (new : earliest n st.done st.images ≡ none) where
      -- an earlier application of the symbol is another node, so there are arguments
      positive : (app : App) → Placed st.images st.out app → app.of.op ≡ n.op → app.of.sym ≡ n.sym
          → sorts_of symbols app.of ≡ sorts_of symbols n → 0 < length (operands_of symbols n)
      positive app a o s e =
          elim (split 0 (length (operands_of symbols n))) [
            | inl h ↦ h
            | inr h ↦
                let w = a.before in
                let z = count_zero (count_of (sorts_of symbols n)) n (omega arith) in
                let zn = no_operands (take m T) (sorts_of symbols n) n fits_here z in
                let za =
                no_operands (take a.at T) (sorts_of symbols app.of) app.of
                (right_before a.at app.of (omega arith) a.of_node) (ap count_of e ∙ z)
                in
                let equal : n ≡ app.of =
                λ i. record { op = sym o i; sym = sym s i; a = (zn.0 ∙ sym za.0) i; b = (zn.1 ∙ sym za.1) i; c = (zn.2 ∙ sym za.2) i }
                in
                let q = inv.lens in
                absurd (not_found n st.done st.images q new a.at (omega arith) (equal ∙ a.of_node ∙ done_node a.at w))
          ]

      abbrev this : App
      this = record { of = n; var = next_var st n; own = length st.out; image = last (applied symbols st n) }

      abbrev apps' : List App
      apps' = this ∷ st.apps

      abbrev own : Node
      own = variable_node n.op (next_var st n)

      first : Grows (count 0 apps') (count 6 apps') st.out (snoc st.out own) (sort_of (op_of n.op))
      first = lay_variable st.out this st.apps is_an_app inv.free

      -- what is known of the earlier applications of the symbol
      knows : (apps : List App) → PlacedAll st.images st.out apps
          → KnowsAll (sort_of (op_of n.op)) args (args n) (snoc st.out own) (keep (same_symbol n) apps)
      knows [] a = tt
      knows (app ∷ apps) a = go (same_symbol n app) refl (knows apps a.1)
        where
          go : (b : Bool) → same_symbol n app ≡ b
              → KnowsAll (sort_of (op_of n.op)) args (args n) (snoc st.out own) (keep (same_symbol n) apps)
              → KnowsAll (sort_of (op_of n.op)) args (args n) (snoc st.out own) (keep_if b app (keep (same_symbol n) apps))
          go false e rest = rest
          go true e rest =
              let o = eqb-true app.of.op n.op (and_left (eqb app.of.op n.op) (eqb app.of.sym n.sym) e) in
              let s = eqb-true app.of.sym n.sym (and_right (eqb app.of.op n.op) (eqb app.of.sym n.sym) e) in
              let sorts : sorts_of symbols app.of ≡ sorts_of symbols n =
              ap₂ (λ (x y : ℕ). operand_sorts (op_of x) (arity symbols y)) o s
              in
              let many = positive app a.0 o s sorts in
              let known = a.0 in
              let b = known.before in
              let same : length (operands_of symbols app.of) ≡ length (operands_of symbols n) =
              ap (λ (c : Option (List Sort)). length (take (count_of c) (fields_of app.of))) sorts
              ∙ take_many (count_of (sorts_of symbols n)) app.of n
              in (
                record {
                  given = rw length-map many;
                  many = rw length-map (omega arith);
                  terms =
                      stays_terms first (args app.of)
                      (args_terms known.at app.of (omega arith) known.of_node known.is_an_app);
                  variable =
                      stays first
                      (record { within = known.own_within; is = node_sort known.own_node_is ∙ ap (λ (x : ℕ). sort_of (op_of x)) o });
                },
                rest,
              )

      chain : Grows (count 0 apps') (count 6 apps') (snoc st.out own) (applied symbols st n) (sort_of (op_of n.op))
      chain =
          choices_grow n.op is_an_app args (args n) (keep (same_symbol n) st.apps) (snoc st.out own) first.free
          (stays_terms first (args n) (args_terms m n (omega arith) (sym node_here) is_an_app)) (knows st.apps inv.apps) first.top

      add_ok : Inv (add_app symbols st n) ns
      add_ok =
          let out' = applied symbols st n in
          let whole = join first chain in
          let lo = length-append st.out (own ∷ []) in
          let li = length-append st.images (last out' ∷ []) in
          let kept = node_kept (snoc st.out own) out' (length st.out) chain.start (omega arith) in
          grow out' (last out') apps' whole.start whole.free whole.top (
            record {
              at = m;
              before = omega arith;
              of_node = sym node_here;
              is_an_app = is_an_app;
              image_at = sym (get_or-append_seam st.images (last out') [] 0);
              own_within = kept.0;
              own_node_is = kept.1 ∙ get_or-append_seam st.out own [] no_node;
            },
            placed_more st.images (last out') st.out out' whole.start st.apps inv.apps,
          )

    pub step_ok : Inv (step symbols st n) ns
    step_ok = step_cases symbols st n (λ F. Inv F ns) copy_ok repeat_ok add_ok
