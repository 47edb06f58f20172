-- Every node of a script's table is that of a part of an assert's tree, of what joins some of the asserts, or of the negation, which is
-- last; and each of these has a node (02, E1). Assumes nothing.
use mathlib.Core.Path.{◌≡◌, refl, sym, ap, ap₂, ◌∙◌, subst}
use Prim.Native.Nat.{ℕ, zero, suc, ◌+◌, ◌-◌, ◌<◌, ◌≤◌}
use native.Mathlib.Omega.{arith}
use mathlib.Core.List.{List, [], ◌∷◌, ◌++◌, append_assoc}
use mathlib.Core.Logic.{◌⊎◌, inl, inr}
use mathlib.Core.Option.{Option, none, some}
use lib.ListN.{length, take, drop, length-append, length-drop, take-append-drop, get_or-append}
use lib.Seq.{get_or-append_seam, take-suc, drop-cons}
use Rattle.definitions.specs.Lists.{snoc}
use Rattle.definitions.specs.Problem.Node.{Node, node, no_node, plain}
use Rattle.definitions.specs.Text.Grammar.{Script}
use Rattle.definitions.specs.Text.Nodes.{Tree, absent, tree, operand, pair, not_tree, leftward, Laid, place_of, found_or, ask, lay, lay_all, joined, nodes_of_trees, nodes_of_script}
use Rattle.theorems.specs.Origins.{NodeOf, PartOf, itself, in_first, in_second, in_third, Origin, of_term, of_join, of_none, of_negation, trees_of_script}
use Rattle.theorems.proofs.Laws.Tests.{clash}
use Rattle.theorems.proofs.Text.Meant.Shared.{ask_given, last_or_before}
use Rattle.theorems.proofs.Text.Meant.Again.{lay_extends, all_extends}

-- a longer table keeps the nodes of its first part
pub node_kept : (x : Tree) (t u more : List Node) (k : ℕ) → u ≡ t ++ more → NodeOf t x k → NodeOf u x k
node_kept absent t u more k e n = n
node_kept (tree op s a b c) t u more k e n =
    let l : length u ≡ length t + length more = ap length e ∙ length-append t more in
    let h = n.0 in
    let same : node t k ≡ node u k = sym (ap (λ (w : List Node). node w k) e ∙ get_or-append t more no_node k h) in (
      omega arith,
      sym (ap (λ (m : Node). m.op) same) ∙ n.1,
      sym (ap (λ (m : Node). m.sym) same) ∙ n.2,
      node_kept a t u more (node u k).a e (subst (λ (m : Node). NodeOf t a m.a) same n.3),
      node_kept b t u more (node u k).b e (subst (λ (m : Node). NodeOf t b m.b) same n.4),
      node_kept c t u more (node u k).c e (subst (λ (m : Node). NodeOf t c m.c) same n.5),
    )

-- a node over nodes of its tree's operands is that of the tree
pub node_over : (op s : ℕ) (a b c : Tree) (t : List Node) (i j l k : ℕ) → k < length t → node t k ≡ record { op = op; sym = s; a = i; b = j; c = l }
    → NodeOf t a i → NodeOf t b j → NodeOf t c l → NodeOf t (tree op s a b c) k
node_over op s a b c t i j l k h e p q r = (
  h,
  ap (λ (m : Node). m.op) e,
  ap (λ (m : Node). m.sym) e,
  subst (λ (m : Node). NodeOf t a m.a) (sym e) p,
  subst (λ (m : Node). NodeOf t b m.b) (sym e) q,
  subst (λ (m : Node). NodeOf t c m.c) (sym e) r,
)

-- a tree that is laid has a node at the number answered
pub lay_node : (x : Tree) (t : List Node) → NodeOf (lay x t).table x (lay x t).number
lay_node absent t = refl
lay_node (tree op s a b c) t =
    let x = lay a t in
    let y = lay b x.table in
    let z = lay c y.table in
    let Y = lay_extends b x.table in
    let Z = lay_extends c y.table in
    let n : Node = record { op = op; sym = s; a = x.number; b = y.number; c = z.number } in
    let g = ask_given n z.table in
    let u : List Node = (ask n z.table).table in
    let uy : u ≡ y.table ++ (Z.0 ++ g.more) = g.extends ∙ ap (λ (w : List Node). w ++ g.more) Z.1 ∙ append_assoc y.table Z.0 g.more in
    let ux : u ≡ x.table ++ (Y.0 ++ (Z.0 ++ g.more)) =
    uy ∙ ap (λ (w : List Node). w ++ (Z.0 ++ g.more)) Y.1 ∙ append_assoc x.table Y.0 (Z.0 ++ g.more) in
    node_over op s a b c u x.number y.number z.number (ask n z.table).number g.inside g.means
    (node_kept a x.table u (Y.0 ++ (Z.0 ++ g.more)) x.number ux (lay_node a t))
    (node_kept b y.table u (Z.0 ++ g.more) y.number uy (lay_node b x.table))
    (node_kept c z.table u g.more z.number g.extends (lay_node c y.table))

-- and so has every part of it
pub part_node : {x y : Tree} (t : List Node) (k : ℕ) → PartOf x y → NodeOf t y k → (j : ℕ) × NodeOf t x j
part_node t k itself n = (k, n)
part_node t k (in_first p) n = part_node t _ p n.3
part_node t k (in_second p) n = part_node t _ p n.4
part_node t k (in_third p) n = part_node t _ p n.5

-- every node of a table is that of a tree of some kind
module _ (P : Tree → Type 0) where
  abbrev pub Come : List Node → Type 0
  Come t = (k : ℕ) → k < length t → (x : Tree) × (P x × NodeOf t x k)

  snoc_come : (t : List Node) (n : Node) (x : Tree) → P x → NodeOf (snoc t n) x (length t) → Come t → Come (snoc t n)
  snoc_come t n x p new come k h = go (last_or_before t n k h)
    where
      go : (k < length t) ⊎ (k ≡ length t) → (x : Tree) × (P x × NodeOf (snoc t n) x k)
      go (inl l) = let r = come k l in (r.0, (r.1.0, node_kept r.0 t (snoc t n) (n ∷ []) k refl r.1.1))
      go (inr e) = (x, (p, subst (NodeOf (snoc t n) x) (sym e) new))

  ask_come : (op s i j l : ℕ) (a b c : Tree) (t : List Node) → P (tree op s a b c) → NodeOf t a i → NodeOf t b j → NodeOf t c l → Come t
      → Come (ask (record { op = op; sym = s; a = i; b = j; c = l }) t).table
  unfolding ask
  ask_come op s i j l a b c t p x y z come = go (place_of (record { op = op; sym = s; a = i; b = j; c = l }) t)
    where
      go : (o : Option ℕ) → Come (found_or (record { op = op; sym = s; a = i; b = j; c = l }) t o).table
      go (some k) = come
      go none =
          let m : Node = record { op = op; sym = s; a = i; b = j; c = l } in
          let u = snoc t m in
          snoc_come t m (tree op s a b c) p
          (node_over op s a b c u i j l (length t) (rw length-append (omega arith)) (get_or-append_seam t m [] no_node)
          (node_kept a t u (m ∷ []) i refl x) (node_kept b t u (m ∷ []) j refl y) (node_kept c t u (m ∷ []) l refl z)) come

  -- laying a tree adds nodes of its parts alone
  pub lay_come : (x : Tree) (t : List Node) → ((y : Tree) → PartOf y x → P y) → Come t → Come (lay x t).table
  lay_come absent t p come = come
  lay_come (tree op s a b c) t p come =
      let x = lay a t in
      let y = lay b x.table in
      let z = lay c y.table in
      let Y = lay_extends b x.table in
      let Z = lay_extends c y.table in
      let zx : z.table ≡ x.table ++ (Y.0 ++ Z.0) = Z.1 ∙ ap (λ (w : List Node). w ++ Z.0) Y.1 ∙ append_assoc x.table Y.0 Z.0 in
      ask_come op s x.number y.number z.number a b c z.table (p (tree op s a b c) itself)
      (node_kept a x.table z.table (Y.0 ++ Z.0) x.number zx (lay_node a t))
      (node_kept b y.table z.table Z.0 y.number Z.1 (lay_node b x.table)) (lay_node c y.table)
      (lay_come c y.table (λ w q. p w (in_third q)) (lay_come b x.table (λ w q. p w (in_second q)) (lay_come a t (λ w q. p w (in_first q)) come)))

  pub all_come : (xs : List Tree) (t : List Node) → ((i : ℕ) → i < length xs → (y : Tree) → PartOf y (operand xs i) → P y) → Come t → Come (lay_all xs t)
  all_come [] t p come = come
  all_come (x ∷ xs) t p come =
      all_come xs (lay x t).table (λ i h. p (suc i) (omega arith)) (lay_come x t (p 0 (omega arith)) come)

-- what joins one more
leftward_snoc : (t : Tree) (us : List Tree) (u : Tree) → leftward 4 t (snoc us u) ≡ pair 4 (leftward 4 t us) u
leftward_snoc t [] u = refl
leftward_snoc t (v ∷ us) u = leftward_snoc (pair 4 t v) us u

joined_next : (ts : List Tree) (n : ℕ) → n < length ts → 1 ≤ n → joined (take (suc n) ts) ≡ pair 4 (joined (take n ts)) (operand ts n)
joined_next [] n h l = absurd (omega arith)
joined_next (t ∷ us) zero h l = absurd (omega arith)
joined_next (t ∷ us) (suc m) h l =
    ap (leftward 4 t) (take-suc us m absent (omega arith)) ∙ leftward_snoc t (take m us) (operand us m)

-- the parts of what joins the asserts are theirs and the joins
no_part : {y x : Tree} → x ≡ absent → PartOf y x → ⊥
no_part e itself = clash (cc)
no_part e (in_first p) = clash (cc)
no_part e (in_second p) = clash (cc)
no_part e (in_third p) = clash (cc)

pair_parts : (P : Tree → Type 0) {u v y : Tree} → P (pair 4 u v) → ((x : Tree) → PartOf x u → P x) → ((x : Tree) → PartOf x v → P x) → PartOf y (pair 4 u v) → P y
pair_parts P p q r itself = p
pair_parts P p q r (in_first x) = q _ x
pair_parts P p q r (in_second x) = r _ x
pair_parts P p q r (in_third x) = absurd (no_part refl x)

join_parts : (ts us : List Tree) (n : ℕ) (u : Tree) → u ≡ joined (take n ts) → us ≡ drop n ts → 1 ≤ n → n ≤ length ts
    → ((y : Tree) → PartOf y u → Origin ts y) → (y : Tree) → PartOf y (leftward 4 u us) → Origin ts y
join_parts ts [] n u e f l h p y q = p y q
join_parts ts (v ∷ vs) n u e f l h p y q =
    let within : n < length ts = (let z : suc (length vs) ≡ length ts - n = ap length f ∙ length-drop n ts in omega arith) in
    let both : v ∷ vs ≡ operand ts n ∷ drop (suc n) ts = f ∙ drop-cons ts n absent within in
    let first : v ≡ operand ts n = cc in
    let next : pair 4 u v ≡ joined (take (suc n) ts) = ap₂ {C = Tree} (pair 4) e first ∙ sym (joined_next ts n within l) in
    join_parts ts vs (suc n) (pair 4 u v) next (cc) (omega arith) within
    (λ x r.
    pair_parts (Origin ts) (subst (Origin ts) (sym next) (of_join (suc n) (omega arith) within)) p
    (λ w s. of_term n within (subst (PartOf w) first s)) r) y q

joined_parts : (ts : List Tree) (y : Tree) → PartOf y (joined ts) → Origin ts y
joined_parts [] y q = only q
  where
    only : {y : Tree} → PartOf y (tree 7 0 absent absent absent) → Origin [] y
    only itself = of_none refl
    only (in_first p) = absurd (no_part refl p)
    only (in_second p) = absurd (no_part refl p)
    only (in_third p) = absurd (no_part refl p)
joined_parts (t ∷ us) y q = join_parts (t ∷ us) us 1 t refl refl (omega arith) (omega arith) (λ x r. of_term 0 (omega arith) r) y q

-- and the joins are parts of what joins them all
leftward_part : {x : Tree} (u : Tree) (us : List Tree) → PartOf x u → PartOf x (leftward 4 u us)
leftward_part u [] p = p
leftward_part u (v ∷ vs) p = leftward_part (pair 4 u v) vs (in_first p)

leftward_append : (t : Tree) (xs ys : List Tree) → leftward 4 t (xs ++ ys) ≡ leftward 4 (leftward 4 t xs) ys
leftward_append t [] ys = refl
leftward_append t (x ∷ xs) ys = leftward_append (pair 4 t x) xs ys

join_part : (ts : List Tree) (n : ℕ) → 2 ≤ n → n ≤ length ts → PartOf (joined (take n ts)) (joined ts)
join_part [] n l h = absurd (omega arith)
join_part (t ∷ us) zero l h = absurd (omega arith)
join_part (t ∷ us) (suc zero) l h = absurd (omega arith)
join_part (t ∷ []) (suc (suc m)) l h = absurd (omega arith)
join_part (t ∷ u ∷ us) (suc (suc m)) l h =
    subst (PartOf (leftward 4 (pair 4 t u) (take m us)))
    (sym (leftward_append (pair 4 t u) (take m us) (drop m us)) ∙ ap (leftward 4 (pair 4 t u)) (take-append-drop m us))
    (leftward_part (leftward 4 (pair 4 t u) (take m us)) (drop m us) (own (take m us) t u))
  where
    own : (us : List Tree) (t u : Tree) → PartOf (leftward 4 (pair 4 t u) us) (leftward 4 (pair 4 t u) us)
    own [] t u = itself
    own (v ∷ vs) t u = own vs (pair 4 t u) v

-- each tree of a list has a node where all are laid
all_node : (xs : List Tree) (t : List Node) (i : ℕ) → i < length xs → (k : ℕ) × NodeOf (lay_all xs t) (operand xs i) k
all_node [] t i h = absurd (omega arith)
all_node (x ∷ xs) t zero h =
    let m = all_extends xs (lay x t).table in
    ((lay x t).number, node_kept x (lay x t).table (lay_all xs (lay x t).table) m.0 (lay x t).number m.1 (lay_node x t))
all_node (x ∷ xs) t (suc i) h = all_node xs (lay x t).table i (omega arith)

-- the whole table
module _ (ts : List Tree) where
  abbrev whole : Laid
  whole = lay (joined ts) (lay_all ts [])

  nodes_kept : (x : Tree) (k : ℕ) → NodeOf whole.table x k → NodeOf (nodes_of_trees ts) x k
  nodes_kept x k n = node_kept x whole.table (nodes_of_trees ts) (plain 3 whole.number 0 0 ∷ []) k refl n

  negation_node : NodeOf (nodes_of_trees ts) (not_tree (joined ts)) (length whole.table)
  negation_node =
      node_over 3 0 (joined ts) absent absent (nodes_of_trees ts) whole.number 0 0 (length whole.table) (rw length-append (omega arith))
      (get_or-append_seam whole.table (plain 3 whole.number 0 0) [] no_node)
      (nodes_kept (joined ts) whole.number (lay_node (joined ts) (lay_all ts []))) refl refl

  nodes_come : Come (Origin ts) (nodes_of_trees ts)
  nodes_come =
      snoc_come (Origin ts) whole.table (plain 3 whole.number 0 0) (not_tree (joined ts)) of_negation negation_node
      (lay_come (Origin ts) (joined ts) (lay_all ts []) (joined_parts ts)
      (all_come (Origin ts) ts [] (λ i h y q. of_term i h q) (λ k h. absurd (omega arith))))

  origin_node : {x : Tree} → Origin ts x → (k : ℕ) × NodeOf (nodes_of_trees ts) x k
  origin_node (of_term i h p) =
      let r = all_node ts [] i h in
      let m = lay_extends (joined ts) (lay_all ts []) in
      part_node (nodes_of_trees ts) r.0 p (nodes_kept (operand ts i) r.0 (node_kept (operand ts i) (lay_all ts []) whole.table m.0 r.0 m.1 r.1))
  origin_node (of_join n l h) =
      part_node (nodes_of_trees ts) whole.number (join_part ts n l h) (nodes_kept (joined ts) whole.number (lay_node (joined ts) (lay_all ts [])))
  origin_node (of_none e) =
      subst (λ (us : List Tree). (k : ℕ) × NodeOf (nodes_of_trees ts) (joined us) k) e
      (whole.number, nodes_kept (joined ts) whole.number (lay_node (joined ts) (lay_all ts [])))
  origin_node of_negation = (length whole.table, negation_node)

-- EVERY NODE is that of a part of an assert's tree, of a join or of the negation
pub node_origin : (s : Script) (k : ℕ) → k < length (nodes_of_script s) → (x : Tree) × (Origin (trees_of_script s) x × NodeOf (nodes_of_script s) x k)
unfolding nodes_of_script
node_origin s k h = nodes_come (trees_of_script s) k h

-- EACH OF THESE has a node
pub script_node : (s : Script) (x : Tree) → Origin (trees_of_script s) x → (k : ℕ) × NodeOf (nodes_of_script s) x k
unfolding nodes_of_script
script_node s x o = origin_node (trees_of_script s) o

-- THE NEGATION is the last
pub negation_last : (s : Script) → NodeOf (nodes_of_script s) (not_tree (joined (trees_of_script s))) (length (nodes_of_script s) - 1)
unfolding nodes_of_script
negation_last s =
    let ts = trees_of_script s in
    let l : length (nodes_of_trees ts) ≡ length (whole ts).table + 1 = length-append (whole ts).table (plain 3 (whole ts).number 0 0 ∷ []) in
    let e : length (whole ts).table ≡ length (nodes_of_trees ts) - 1 = omega arith in
    subst (NodeOf (nodes_of_trees ts) (not_tree (joined ts))) e (negation_node ts)
