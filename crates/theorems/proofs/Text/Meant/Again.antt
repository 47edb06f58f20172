-- Laying a tree whose nodes stand already changes nothing and answers the same number. So the code may walk each argument once: the
-- middle ones of (= a b c), which stand in two pairs, and the asserts, which stand again in what joins them (02, E1). Assumes nothing.
use mathlib.Core.Path.{◌≡◌, refl, sym, ap, ◌∙◌}
use Prim.Native.Nat.{ℕ, ◌+◌, ◌<◌}
use native.Mathlib.Omega.{arith}
use mathlib.Core.List.{List, [], ◌∷◌, ◌++◌, append_assoc, append-nil}
use mathlib.Core.Option.{Option, none, some}
use lib.ListN.{length, length-append, get_or-append}
use Rattle.definitions.specs.Problem.Node.{Node, node, no_node, plain}
use Rattle.definitions.specs.Text.Nodes.{Tree, absent, tree, Laid, laid, place_of, found_or, ask, lay, lay_all, joined, nodes_of_trees}
use Rattle.theorems.specs.Origins.{NoTwins}
use Rattle.theorems.proofs.Text.Meant.Shared.{ask_given, scan_some, scan_none}

-- a table only grows
pub lay_extends : (x : Tree) (t : List Node) → (more : List Node) × ((lay x t).table ≡ t ++ more)
lay_extends absent t = ([], sym (append-nil t))
lay_extends (tree op k a b c) t =
    let x = lay a t in
    let y = lay b x.table in
    let z = lay c y.table in
    let X = lay_extends a t in
    let Y = lay_extends b x.table in
    let Z = lay_extends c y.table in
    let g = ask_given (record { op = op; sym = k; a = x.number; b = y.number; c = z.number }) z.table in (
      X.0 ++ Y.0 ++ Z.0 ++ g.more,
      g.extends
          ∙ ap (λ (w : List Node). w ++ g.more)
          (Z.1
          ∙ ap (λ (w : List Node). w ++ Z.0) (Y.1 ∙ ap (λ (w : List Node). w ++ Y.0) X.1 ∙ append_assoc t X.0 Y.0)
          ∙ append_assoc t (X.0 ++ Y.0) Z.0)
          ∙ append_assoc t (X.0 ++ Y.0 ++ Z.0) g.more,
    )

pub all_extends : (xs : List Tree) (t : List Node) → (more : List Node) × (lay_all xs t ≡ t ++ more)
all_extends [] t = ([], sym (append-nil t))
all_extends (x ∷ xs) t =
    let X = lay_extends x t in
    let XS = all_extends xs (lay x t).table in
    (X.0 ++ XS.0, XS.1 ∙ ap (λ (w : List Node). w ++ XS.0) X.1 ∙ append_assoc t X.0 XS.0)

-- what is laid for the first asserts is a first part of the whole table
all_append : (xs ys : List Tree) (t : List Node) → lay_all (xs ++ ys) t ≡ lay_all ys (lay_all xs t)
all_append [] ys t = refl
all_append (x ∷ xs) ys t = all_append xs ys (lay x t).table

pub nodes_extend : (xs ys : List Tree) → (more : List Node) × (nodes_of_trees (xs ++ ys) ≡ lay_all xs [] ++ more)
nodes_extend xs ys =
    let zs : List Tree = xs ++ ys in
    let l : Laid = lay (joined zs) (lay_all zs []) in
    let n : Node = plain 3 l.number 0 0 in
    let Y = all_extends ys (lay_all xs []) in
    let J = lay_extends (joined zs) (lay_all zs []) in (
      Y.0 ++ (J.0 ++ (n ∷ [])),
      ap (λ (w : List Node). w ++ (n ∷ []))
          (J.1 ∙ ap (λ (w : List Node). w ++ J.0) (all_append xs ys [] ∙ Y.1) ∙ append_assoc (lay_all xs []) Y.0 J.0)
          ∙ append_assoc (lay_all xs []) (Y.0 ++ J.0) (n ∷ [])
          ∙ ap (λ (w : List Node). lay_all xs [] ++ w) (append_assoc Y.0 J.0 (n ∷ [])),
    )

-- a node that stands is found where it stands
pub ask_again : (n : Node) (u : List Node) (k : ℕ) → NoTwins u → k < length u → node u k ≡ n → ask n u ≡ laid k u
unfolding ask
ask_again n u k twins h e = go (place_of n u) refl
  where
    go : (o : Option ℕ) → place_of n u ≡ o → found_or n u o ≡ laid k u
    go none p = absurd (scan_none n 0 u p k h e)
    go (some j) p =
        let f = scan_some n 0 j u p in
        let same = twins f.at k f.inside h (f.equal ∙ sym e) in
        let q : j ≡ k = (let r = f.place in omega arith) in
        ap (λ (i : ℕ). laid i u) q

-- a tree that was laid in the first part of a table
pub again : (x : Tree) (t u more : List Node) → u ≡ (lay x t).table ++ more → NoTwins u → lay x u ≡ laid (lay x t).number u
again absent t u more e twins = refl
again (tree op k a b c) t u more e twins =
    let x = lay a t in
    let y = lay b x.table in
    let z = lay c y.table in
    let n : Node = record { op = op; sym = k; a = x.number; b = y.number; c = z.number } in
    let g = ask_given n z.table in
    let Y = lay_extends b x.table in
    let Z = lay_extends c y.table in
    let r : Laid = ask n z.table in
    let uz : u ≡ z.table ++ (g.more ++ more) = e ∙ ap (λ (w : List Node). w ++ more) g.extends ∙ append_assoc z.table g.more more in
    let uy : u ≡ y.table ++ (Z.0 ++ (g.more ++ more)) = uz ∙ ap (λ (w : List Node). w ++ (g.more ++ more)) Z.1 ∙ append_assoc y.table Z.0 (g.more ++ more) in
    let ux : u ≡ x.table ++ (Y.0 ++ (Z.0 ++ (g.more ++ more))) =
    uy ∙ ap (λ (w : List Node). w ++ (Z.0 ++ (g.more ++ more))) Y.1 ∙ append_assoc x.table Y.0 (Z.0 ++ (g.more ++ more)) in
    let inside : r.number < length u = (let l : length u ≡ length r.table + length more = ap length e ∙ length-append r.table more in let i = g.inside in omega arith) in
    let stands : node u r.number ≡ n = ap (λ (w : List Node). node w r.number) e ∙ get_or-append r.table more no_node r.number g.inside ∙ g.means in
    thrice (again a t u (Y.0 ++ (Z.0 ++ (g.more ++ more))) ux twins) (again b x.table u (Z.0 ++ (g.more ++ more)) uy twins) (again c y.table u (g.more ++ more) uz twins)
    ∙ ask_again n u r.number twins inside stands
  where
    -- laying three operands that stand already
    thrice : {i j l : ℕ} → lay a u ≡ laid i u → lay b u ≡ laid j u → lay c u ≡ laid l u
        → lay (tree op k a b c) u ≡ ask (record { op = op; sym = k; a = i; b = j; c = l }) u
    thrice {i} {j} {l} p q r =
        ap (λ (x : Laid). asks x (lay b x.table) (lay c (lay b x.table).table)) p
        ∙ ap (λ (y : Laid). asks (laid i u) y (lay c y.table)) q
        ∙ ap (λ (z : Laid). asks (laid i u) (laid j u) z) r
      where
        asks : Laid → Laid → Laid → Laid
        asks x y z = ask (record { op = op; sym = k; a = x.number; b = y.number; c = z.number }) z.table
