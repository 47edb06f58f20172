-- The size of a node: one more than the sizes of its operands in use. A tree laid in a table has its own size at the number
-- answered, and no node that stands is larger than the largest tree (02, E1). Assumes nothing.
use mathlib.Core.Path.{◌≡◌, refl, ap, ap₂, ◌∙◌}
use Prim.Native.Nat.{ℕ, zero, suc, ◌+◌, ◌<◌, ◌≤◌}
use native.Mathlib.Omega.{arith}
use mathlib.Core.List.{List, [], ◌∷◌, ◌++◌, map, append_assoc}
use mathlib.Core.Logic.{◌⊎◌, inl, inr}
use mathlib.Core.Option.{Option, none, some}
use lib.ListN.{length, get_or, take, drop, get_or-append}
use lib.Seq.{get_or-take, get_or_at}
use Rattle.definitions.specs.Lists.{snoc}
use Rattle.definitions.specs.Problem.Node.{Node, node, grown}
use Rattle.definitions.specs.Problem.Ops.{operands_of}
use Rattle.theorems.proofs.Laws.Grown.{grown_at, grown_append, grown_prefix, length_grown}
use Rattle.theorems.proofs.Laws.Ops.{AllBelow}
use Rattle.definitions.specs.Text.Nodes.{Tree, absent, tree, Laid, place_of, found_or, ask, lay}
use Rattle.theorems.proofs.Text.Meant.Shared.{ask_given, Earlier, ask_earlier, last_or_before}
use Rattle.theorems.proofs.Text.Meant.Laying.{Present, AllPresent, Absent, AllAbsent, used, Full, LaidRight, lay_right, used_below, longer}

abbrev pub total : List ℕ → ℕ
total [] = 0
total (n ∷ ns) = n + total ns

module _ (symbols : List ℕ) where
  abbrev pub size_at : List ℕ → ℕ → ℕ
  size_at ss k = get_or ss k 0

  abbrev pub node_size : List ℕ → Node → ℕ
  node_size ss n = suc (total (map (size_at ss) (operands_of symbols n)))

  abbrev pub sizes : List Node → List ℕ
  sizes t = grown node_size [] t

  abbrev pub size : List Node → ℕ → ℕ
  size t k = size_at (sizes t) k

  sizes_alike : (ss rs ks : List ℕ) (m : ℕ) → ((k : ℕ) → k < m → size_at ss k ≡ size_at rs k) → AllBelow m ks → map (size_at ss) ks ≡ map (size_at rs) ks
  sizes_alike ss rs [] m same b = refl
  sizes_alike ss rs (k ∷ ks) m same b = ap₂ {C = List ℕ} (λ x xs. x ∷ xs) (same k b.0) (sizes_alike ss rs ks m same b.1)

  size_kept : (t more : List Node) (k : ℕ) → k < length t → size (t ++ more) k ≡ size t k
  size_kept t more k h =
      let q = grown_prefix node_size t more in
      let l : k < length (sizes t) = (let e = length_grown node_size t in omega arith) in
      ap (λ (ss : List ℕ). size_at ss k) q.1 ∙ get_or-append (sizes t) q.0 0 k l

  -- the size of a node of a table, from the sizes of its operands
  pub size_fixed : (t : List Node) → Earlier symbols t → (k : ℕ) → k < length t → size t k ≡ node_size (sizes t) (node t k)
  size_fixed t earlier k h =
      grown_at node_size t k 0 h
      ∙ ap (λ (ns : List ℕ). suc (total ns))
      (sizes_alike (take k (sizes t)) (sizes t) (operands_of symbols (node t k)) k (λ i l. get_or-take k (sizes t) i 0 l) (earlier k h))

  ask_size : (n : Node) (t : List Node) → Earlier symbols t → AllBelow (length t) (operands_of symbols n)
      → size (ask n t).table (ask n t).number ≡ node_size (sizes t) n
  ask_size n t earlier b =
      let g = ask_given n t in
      let u : List Node = (ask n t).table in
      size_fixed u (ask_earlier symbols n t earlier b) (ask n t).number g.inside
      ∙ ap (node_size (sizes u)) g.means
      ∙ ap (λ (ns : List ℕ). suc (total ns))
      (sizes_alike (sizes u) (sizes t) (operands_of symbols n) (length t)
      (λ i h. ap (λ (w : List Node). size w i) g.extends ∙ size_kept t g.more i h) b)

  -- no node is larger than this
  abbrev pub Within : ℕ → List Node → Type 0
  Within m t = (k : ℕ) → k < length t → size t k ≤ m

  ask_within : (m : ℕ) (n : Node) (t : List Node) → Earlier symbols t → AllBelow (length t) (operands_of symbols n) → node_size (sizes t) n ≤ m
      → Within m t → Within m (ask n t).table
  unfolding ask
  ask_within m n t earlier b h w = go (place_of n t)
    where
      new : size (snoc t n) (length t) ≡ node_size (sizes t) n
      new =
          ap (λ (ss : List ℕ). size_at ss (length t)) (grown_append node_size [] t (n ∷ []))
          ∙ get_or_at (sizes t) (node_size (sizes t) n) [] 0 (length t) (length_grown node_size t)

      go : (o : Option ℕ) → Within m (found_or n t o).table
      go (some k) = w
      go none = λ k l. by k (last_or_before t n k l)
        where
          by : (k : ℕ) → (k < length t) ⊎ (k ≡ length t) → size (snoc t n) k ≤ m
          by k (inl p) = rw (size_kept t (n ∷ []) k p) (w k p)
          by k (inr p) = rw (p, new) h

  -- the size of a tree
  abbrev pub tree_size : Tree → ℕ
  tree_size absent = 0
  tree_size (tree op k a b c) = suc (total (take (used symbols op k) (tree_size a ∷ tree_size b ∷ tree_size c ∷ [])))

  used_sizes : (ss : List ℕ) (a b c : Tree) (i j l : ℕ) → (Present a → size_at ss i ≡ tree_size a) → (Present b → size_at ss j ≡ tree_size b)
      → (Present c → size_at ss l ≡ tree_size c) → (n : ℕ) → AllPresent (take n (a ∷ b ∷ c ∷ []))
      → total (map (size_at ss) (take n (i ∷ j ∷ l ∷ []))) ≡ total (take n (tree_size a ∷ tree_size b ∷ tree_size c ∷ []))
  used_sizes ss a b c i j l p q r zero h = refl
  used_sizes ss a b c i j l p q r (suc zero) h = rw (p h.0) refl
  used_sizes ss a b c i j l p q r (suc (suc zero)) h = rw (p h.0, q h.1.0) refl
  used_sizes ss a b c i j l p q r (suc (suc (suc zero))) h = rw (p h.0, q h.1.0, r h.1.1.0) refl
  used_sizes ss a b c i j l p q r (suc (suc (suc (suc n)))) h = rw (p h.0, q h.1.0, r h.1.1.0) refl

  absent_size : (a : Tree) → Absent a → tree_size a ≡ 0
  absent_size absent h = refl
  absent_size (tree op k a b c) h = absurd h

  -- no operand is larger than its node
  operand_sizes : (a b c : Tree) (n : ℕ) → AllAbsent (drop n (a ∷ b ∷ c ∷ []))
      → (tree_size a ≤ total (take n (tree_size a ∷ tree_size b ∷ tree_size c ∷ [])))
      × (tree_size b ≤ total (take n (tree_size a ∷ tree_size b ∷ tree_size c ∷ [])))
      × (tree_size c ≤ total (take n (tree_size a ∷ tree_size b ∷ tree_size c ∷ [])))
  operand_sizes a b c zero h =
      let x = absent_size a h.0 in
      let y = absent_size b h.1.0 in
      let z = absent_size c h.1.1.0 in
      (omega arith, omega arith, omega arith)
  operand_sizes a b c (suc zero) h =
      let y = absent_size b h.0 in
      let z = absent_size c h.1.0 in
      (omega arith, omega arith, omega arith)
  operand_sizes a b c (suc (suc zero)) h = let z = absent_size c h.0 in (omega arith, omega arith, omega arith)
  operand_sizes a b c (suc (suc (suc zero))) h = (omega arith, omega arith, omega arith)
  operand_sizes a b c (suc (suc (suc (suc n)))) h = (omega arith, omega arith, omega arith)

  pub record Sized (m : ℕ) (x : Tree) (l : Laid) : Type 0 where
    pub size_is : Present x → size l.table l.number ≡ tree_size x
    pub within : Within m l.table

  pub lay_sized : (m : ℕ) (x : Tree) (t : List Node) → Full symbols x → Earlier symbols t → tree_size x ≤ m → Within m t → Sized m x (lay x t)
  lay_sized m absent t f earlier h w = record { size_is = λ p. absurd p; within = w }
  lay_sized m (tree op k a b c) t f earlier h w =
      let o = operand_sizes a b c (used symbols op k) f.4 in
      let ha : tree_size a ≤ m = (let q = o.0 in omega arith) in
      let hb : tree_size b ≤ m = (let q = o.1 in omega arith) in
      let hc : tree_size c ≤ m = (let q = o.2 in omega arith) in
      let X = lay_right symbols a t f.0 earlier in
      let x : Laid = lay a t in
      let Y = lay_right symbols b x.table f.1 X.earlier in
      let y : Laid = lay b x.table in
      let Z = lay_right symbols c y.table f.2 Y.earlier in
      let z : Laid = lay c y.table in
      let SX = lay_sized m a t f.0 earlier ha w in
      let SY = lay_sized m b x.table f.1 X.earlier hb SX.within in
      let SZ = lay_sized m c y.table f.2 Y.earlier hc SY.within in
      joins a b c t x y z X Y Z SX SY SZ f.3 h
    where
      joins : (a b c : Tree) (t : List Node) (x y z : Laid) → LaidRight symbols a t x → LaidRight symbols b x.table y → LaidRight symbols c y.table z
          → Sized m a x → Sized m b y → Sized m c z → AllPresent (take (used symbols op k) (a ∷ b ∷ c ∷ [])) → tree_size (tree op k a b c) ≤ m
          → Sized m (tree op k a b c) (ask (record { op = op; sym = k; a = x.number; b = y.number; c = z.number }) z.table)
      joins a b c t x y z X Y Z SX SY SZ p h =
          let n : Node = record { op = op; sym = k; a = x.number; b = y.number; c = z.number } in
          let xz : z.table ≡ x.table ++ (Y.more ++ Z.more) =
          Z.extends ∙ ap (λ (w : List Node). w ++ Z.more) Y.extends ∙ append_assoc x.table Y.more Z.more in
          let below : AllBelow (length z.table) (operands_of symbols n) =
          used_below (length z.table) a b c x.number y.number z.number
          (λ p. longer symbols x.table z.table (Y.more ++ Z.more) x.number xz (X.inside p))
          (λ p. longer symbols y.table z.table Z.more y.number Z.extends (Y.inside p)) Z.inside (used symbols op k) p in
          let own : node_size (sizes z.table) n ≡ tree_size (tree op k a b c) =
          ap suc
          (used_sizes (sizes z.table) a b c x.number y.number z.number
          (λ p. ap (λ (w : List Node). size w x.number) xz ∙ size_kept x.table (Y.more ++ Z.more) x.number (X.inside p) ∙ SX.size_is p)
          (λ p. ap (λ (w : List Node). size w y.number) Z.extends ∙ size_kept y.table Z.more y.number (Y.inside p) ∙ SY.size_is p)
          SZ.size_is (used symbols op k) p) in
          record {
            size_is = λ q. ask_size n z.table Z.earlier below ∙ own;
            within = ask_within m n z.table Z.earlier below (rw own h) SZ.within;
          }
