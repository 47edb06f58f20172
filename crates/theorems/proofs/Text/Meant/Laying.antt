-- A tree laid in a table has, at the number answered, the value of the tree, in every interpretation; what stood before stays,
-- and no two nodes become equal (02, E1). Assumes nothing.
use mathlib.Core.Path.{◌≡◌, refl, sym, ap, ap₂, ◌∙◌, subst}
use Prim.Native.Nat.{ℕ, zero, suc, ◌+◌, ◌<◌}
use native.Mathlib.Omega.{arith}
use mathlib.Core.Bool.{Bool, true, false}
use mathlib.Core.List.{List, [], ◌∷◌, ◌++◌, map, append-nil, append_assoc}
use lib.ListN.{length, take, drop, length-append}
use Rattle.definitions.specs.Problem.Node.{Node}
use Rattle.definitions.specs.Problem.Ops.{op_of, arity, operand_sorts, count_of, fields_of, operands_of, is_app}
use Rattle.definitions.specs.Logic.{Interpretation, Value, number, number_of, value_at, number_at, op_value, node_value, values}
use Rattle.theorems.proofs.Laws.Ops.{AllBelow, Alike, op_alike, app_alike}
use Rattle.definitions.specs.Text.Nodes.{Tree, absent, tree, Laid, ask, lay, lay_all}
use Rattle.theorems.specs.Origins.{NoTwins}
use Rattle.theorems.proofs.Text.Meant.Shared.{Earlier, ask_given, ask_earlier, ask_twins, ask_value, values_kept}

-- a node whose operands are the first three values in hand
abbrev pub own_node : ℕ → ℕ → Node
own_node op k = record { op = op; sym = k; a = 0; b = 1; c = 2 }

-- the value of a tree: the rule of 01 for its node, over the values of its operands
abbrev pub tree_value : Interpretation → List ℕ → Tree → Value
tree_value I symbols absent = number 0
tree_value I symbols (tree op k a b c) =
    node_value I symbols (tree_value I symbols a ∷ tree_value I symbols b ∷ tree_value I symbols c ∷ []) (own_node op k)

-- the operands that a node's op uses are there, and no others, all the way down
abbrev pub Present : Tree → Type 0
Present absent = ⊥
Present (tree op k a b c) = Unit {0}

abbrev pub AllPresent : List Tree → Type 0
AllPresent [] = Unit {0}
AllPresent (t ∷ ts) = Present t × AllPresent ts

abbrev pub Absent : Tree → Type 0
Absent absent = Unit {0}
Absent (tree op k a b c) = ⊥

abbrev pub AllAbsent : List Tree → Type 0
AllAbsent [] = Unit {0}
AllAbsent (t ∷ ts) = Absent t × AllAbsent ts

abbrev pub used : List ℕ → ℕ → ℕ → ℕ
used symbols op k = count_of (operand_sorts (op_of op) (arity symbols k))

abbrev pub Full : List ℕ → Tree → Type 0
Full symbols absent = Unit {0}
Full symbols (tree op k a b c) =
    Full symbols a × Full symbols b × Full symbols c × AllPresent (take (used symbols op k) (a ∷ b ∷ c ∷ []))
    × AllAbsent (drop (used symbols op k) (a ∷ b ∷ c ∷ []))

-- what is so of each operand that is there is so of those in use
module _ (m : ℕ) (a b c : Tree) (i j l : ℕ) (p : Present a → i < m) (q : Present b → j < m) (r : Present c → l < m) where
  pub used_below : (n : ℕ) → AllPresent (take n (a ∷ b ∷ c ∷ [])) → AllBelow m (take n (i ∷ j ∷ l ∷ []))
  used_below zero h = tt
  used_below (suc zero) h = (p h.0, tt)
  used_below (suc (suc zero)) h = (p h.0, (q h.1.0, tt))
  used_below (suc (suc (suc zero))) h = (p h.0, (q h.1.0, (r h.1.1.0, tt)))
  used_below (suc (suc (suc (suc n)))) h = (p h.0, (q h.1.0, (r h.1.1.0, tt)))

module _ (ws : List Value) (a b c : Tree) (u v w : Value) (i j l : ℕ)
    (p : Present a → value_at ws i ≡ u) (q : Present b → value_at ws j ≡ v) (r : Present c → value_at ws l ≡ w) where
  used_alike : (n : ℕ) → AllPresent (take n (a ∷ b ∷ c ∷ [])) → Alike ws (u ∷ v ∷ w ∷ []) (take n (i ∷ j ∷ l ∷ [])) (take n (0 ∷ 1 ∷ 2 ∷ []))
  used_alike zero h = tt
  used_alike (suc zero) h = (p h.0, tt)
  used_alike (suc (suc zero)) h = (p h.0, (q h.1.0, tt))
  used_alike (suc (suc (suc zero))) h = (p h.0, (q h.1.0, (r h.1.1.0, tt)))
  used_alike (suc (suc (suc (suc n)))) h = (p h.0, (q h.1.0, (r h.1.1.0, tt)))

alike_numbers : (ws vs : List Value) (is ks : List ℕ) → Alike ws vs is ks → map (number_at ws) is ≡ map (number_at vs) ks
alike_numbers ws vs [] [] h = refl
alike_numbers ws vs [] (k ∷ ks) h = absurd h
alike_numbers ws vs (i ∷ is) [] h = absurd h
alike_numbers ws vs (i ∷ is) (k ∷ ks) h = ap₂ {C = List ℕ} (λ x xs. x ∷ xs) (ap number_of h.0) (alike_numbers ws vs is ks h.1)

-- two nodes of one op and symbol, with the same values at the operands in use, have one value
pub node_alike : (I : Interpretation) (symbols : List ℕ) (ws vs : List Value) (m n : Node) → m.op ≡ n.op → m.sym ≡ n.sym
    → Alike ws vs (operands_of symbols m) (operands_of symbols n) → node_value I symbols ws m ≡ node_value I symbols vs n
node_alike I symbols ws vs m n o s h = go (is_app (op_of n.op)) refl
  where
    here : op_value I ws (op_of m.op) m (map (number_at ws) (operands_of symbols m)) ≡ op_value I ws (op_of n.op) m (map (number_at vs) (operands_of symbols n))
    here = ap₂ {C = Value} (λ (x : ℕ) (xs : List ℕ). op_value I ws (op_of x) m xs) o (alike_numbers ws vs (operands_of symbols m) (operands_of symbols n) h)

    go : (b : Bool) → is_app (op_of n.op) ≡ b → node_value I symbols ws m ≡ node_value I symbols vs n
    go true p = here ∙ app_alike I ws vs n.op m n (map (number_at vs) (operands_of symbols n)) p s
    go false p =
        here
        ∙ op_alike I I ws vs (op_of n.op) (arity symbols n.sym) m n _ _ p
        (subst (λ (x : ℕ). Alike ws vs (take x (fields_of m)) (operands_of symbols n))
        (ap₂ {C = ℕ} (λ (x y : ℕ). used symbols x y) o s) h)

module _ (symbols : List ℕ) where
  -- what laying a tree gives
  pub record LaidRight (x : Tree) (t : List Node) (l : Laid) : Type 0 where
    pub more : List Node
    pub extends : l.table ≡ t ++ more
    pub earlier : Earlier symbols l.table
    pub inside : Present x → l.number < length l.table
    pub value : (I : Interpretation) → Present x → value_at (values I symbols l.table) l.number ≡ tree_value I symbols x

  -- a number of a table is one of every longer table, with the same value
  pub longer : (t u more : List Node) (k : ℕ) → u ≡ t ++ more → k < length t → k < length u
  longer t u more k e h = let l : length u ≡ length t + length more = ap length e ∙ length-append t more in omega arith

  kept : (I : Interpretation) (t u more : List Node) (k : ℕ) → u ≡ t ++ more → k < length t → value_at (values I symbols u) k ≡ value_at (values I symbols t) k
  kept I t u more k e h = ap (λ (w : List Node). value_at (values I symbols w) k) e ∙ values_kept I symbols t more k h

  pub lay_right : (x : Tree) (t : List Node) → Full symbols x → Earlier symbols t → LaidRight x t (lay x t)
  lay_right absent t f earlier =
      record { more = []; extends = sym (append-nil t); earlier = earlier; inside = λ h. absurd h; value = λ I h. absurd h }
  lay_right (tree op k a b c) t f earlier =
      let X = lay_right a t f.0 earlier in
      let x : Laid = lay a t in
      let Y = lay_right b x.table f.1 X.earlier in
      let y : Laid = lay b x.table in
      let Z = lay_right c y.table f.2 Y.earlier in
      let z : Laid = lay c y.table in
      joined a b c t x y z X Y Z f.3
    where
      joined : (a b c : Tree) (t : List Node) (x y z : Laid) → LaidRight a t x → LaidRight b x.table y → LaidRight c y.table z
          → AllPresent (take (used symbols op k) (a ∷ b ∷ c ∷ []))
          → LaidRight (tree op k a b c) t (ask (record { op = op; sym = k; a = x.number; b = y.number; c = z.number }) z.table)
      joined a b c t x y z X Y Z h =
          let n : Node = record { op = op; sym = k; a = x.number; b = y.number; c = z.number } in
          let xz : z.table ≡ x.table ++ (Y.more ++ Z.more) =
          Z.extends ∙ ap (λ (w : List Node). w ++ Z.more) Y.extends ∙ append_assoc x.table Y.more Z.more in
          let below : AllBelow (length z.table) (operands_of symbols n) =
          used_below (length z.table) a b c x.number y.number z.number
          (λ p. longer x.table z.table (Y.more ++ Z.more) x.number xz (X.inside p))
          (λ p. longer y.table z.table Z.more y.number Z.extends (Y.inside p)) Z.inside (used symbols op k) h in
          let g = ask_given n z.table in
          record {
            more = X.more ++ (Y.more ++ Z.more) ++ g.more;
            extends =
                g.extends
                ∙ ap (λ (w : List Node). w ++ g.more)
                (xz ∙ ap (λ (w : List Node). w ++ (Y.more ++ Z.more)) X.extends ∙ append_assoc t X.more (Y.more ++ Z.more))
                ∙ append_assoc t (X.more ++ (Y.more ++ Z.more)) g.more;
            earlier = ask_earlier symbols n z.table Z.earlier below;
            inside = λ p. g.inside;
            value = λ I p.
                ask_value I symbols n z.table Z.earlier below
                ∙ node_alike I symbols (values I symbols z.table) (tree_value I symbols a ∷ tree_value I symbols b ∷ tree_value I symbols c ∷ []) n (own_node op k) refl refl
                (used_alike (values I symbols z.table) a b c (tree_value I symbols a) (tree_value I symbols b) (tree_value I symbols c) x.number y.number z.number
                (λ p. kept I x.table z.table (Y.more ++ Z.more) x.number xz (X.inside p) ∙ X.value I p)
                (λ p. kept I y.table z.table Z.more y.number Z.extends (Y.inside p) ∙ Y.value I p) (Z.value I) (used symbols op k) h);
          }

  -- every tree of a list
  abbrev pub AllFull : List Tree → Type 0
  AllFull [] = Unit {0}
  AllFull (x ∷ xs) = Full symbols x × AllFull xs

  pub all_earlier : (xs : List Tree) (t : List Node) → AllFull xs → Earlier symbols t → Earlier symbols (lay_all xs t)
  all_earlier [] t f earlier = earlier
  all_earlier (x ∷ xs) t f earlier = all_earlier xs (lay x t).table f.1 (lay_right x t f.0 earlier).earlier

-- no two nodes become equal
pub lay_twins : (x : Tree) (t : List Node) → NoTwins t → NoTwins (lay x t).table
lay_twins absent t h = h
lay_twins (tree op k a b c) t h =
    let x = lay a t in
    let y = lay b x.table in
    let z = lay c y.table in
    ask_twins (record { op = op; sym = k; a = x.number; b = y.number; c = z.number }) z.table
    (lay_twins c y.table (lay_twins b x.table (lay_twins a t h)))

pub all_twins : (xs : List Tree) (t : List Node) → NoTwins t → NoTwins (lay_all xs t)
all_twins [] t h = h
all_twins (x ∷ xs) t h = all_twins xs (lay x t).table (lay_twins x t h)
