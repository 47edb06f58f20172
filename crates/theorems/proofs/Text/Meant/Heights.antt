-- How high a tree is: no higher than the count of nodes of the table that it is laid in. So a term that is higher than 256, more than
-- 256 asserts, or a long => makes more than 256 nodes (02, E1: "then 01's 4"). Assumes nothing.
use mathlib.Core.Path.{◌≡◌, ap₂, subst}
use Prim.Native.Nat.{ℕ, zero, suc, ◌+◌, max, ◌≤◌, ◌<◌}
use native.Mathlib.Omega.{arith}
use mathlib.Core.Bool.{true}
use mathlib.Core.List.{List, [], ◌∷◌}
use lib.ListN.{length, take, drop, length-append}
use Rattle.definitions.specs.Problem.Node.{Node, node, plain}
use Rattle.definitions.specs.Problem.Ops.{term, formula}
use Rattle.definitions.specs.Text.Grammar.{Head, declared, ite, equals, negation, conjunction, disjunction, implication, verum, falsum, Script, new_sort, commands_right, script_right}
use Rattle.definitions.specs.Text.Nodes.{Tree, absent, tree, operand, over3, pair, grouped, equations, head_tree, leftward, rightward, Laid, lay, lay_all, joined, nodes_of_trees, nodes_of_script, bytes_of_script}
use Rattle.theorems.specs.Origins.{NodeOf, PartOf, itself, in_first, in_second, in_third, trees_of_script}
use Rattle.theorems.proofs.Laws.Tests.{and_right}
use Rattle.theorems.proofs.Laws.Ops.{AllBelow}
use Rattle.theorems.proofs.Text.Meant.Shared.{Earlier}
use Rattle.theorems.proofs.Text.Meant.Laying.{Present, AllPresent, Absent, AllAbsent, used, Full, lay_right, all_earlier}
use Rattle.theorems.proofs.Text.Meant.Paired.{AllGood, Fits}
use Rattle.theorems.proofs.Text.Meant.Reading.{anything, asserted, full_of, joined_good}
use Rattle.theorems.proofs.Text.Meant.Origins.{lay_node}

abbrev pub height : Tree → ℕ
height absent = 0
height (tree op k a b c) = suc (max (height a) (max (height b) (height c)))

-- what stands in a tree is no higher
pub part_height : {x y : Tree} → PartOf x y → height x ≤ height y
part_height itself = omega arith
part_height (in_first p) = let h = part_height p in omega arith
part_height (in_second p) = let h = part_height p in omega arith
part_height (in_third p) = let h = part_height p in omega arith

-- an operand that is there is in use, so its number is below
not_both : (x : Tree) → Present x → Absent x → ⊥
not_both absent p a = p
not_both (tree op k a b c) p q = q

module _ (m : ℕ) (a b c : Tree) (i j l : ℕ) where
  there_below : (n : ℕ) → AllAbsent (drop n (a ∷ b ∷ c ∷ [])) → AllBelow m (take n (i ∷ j ∷ l ∷ []))
      → (Present a → i < m) × (Present b → j < m) × (Present c → l < m)
  there_below zero g u = (λ p. absurd (not_both a p g.0), λ p. absurd (not_both b p g.1.0), λ p. absurd (not_both c p g.1.1.0))
  there_below (suc zero) g u = (λ p. u.0, λ p. absurd (not_both b p g.0), λ p. absurd (not_both c p g.1.0))
  there_below (suc (suc zero)) g u = (λ p. u.0, λ p. u.1.0, λ p. absurd (not_both c p g.0))
  there_below (suc (suc (suc zero))) g u = (λ p. u.0, λ p. u.1.0, λ p. u.1.1.0)
  there_below (suc (suc (suc (suc n)))) g u = (λ p. u.0, λ p. u.1.0, λ p. u.1.1.0)

lower : (m i : ℕ) (x : Tree) → (Present x → i < m) → height x ≤ suc i → height x ≤ m
lower m i absent p h = omega arith
lower m i (tree op k a b c) p h = let l = p tt in omega arith

module _ (symbols : List ℕ) where
  -- where operands come earlier, a tree is at most as high as its node's number says
  node_height : (t : List Node) → Earlier symbols t → (x : Tree) (k : ℕ) → Full symbols x → NodeOf t x k → height x ≤ suc k
  node_height t earlier absent k f n = omega arith
  node_height t earlier (tree op s a b c) k f n =
      let m = node t k in
      let same : used symbols m.op m.sym ≡ used symbols op s = ap₂ {C = ℕ} (used symbols) n.1 n.2 in
      let below = subst (λ (w : ℕ). AllBelow k (take w (m.a ∷ m.b ∷ m.c ∷ []))) same (earlier k n.0) in
      let r = there_below k a b c m.a m.b m.c (used symbols op s) f.4 below in
      let x = lower k m.a a r.0 (node_height t earlier a m.a f.0 n.3) in
      let y = lower k m.b b r.1 (node_height t earlier b m.b f.1 n.4) in
      let z = lower k m.c c r.2 (node_height t earlier c m.c f.2 n.5) in
      omega arith

  pub lay_height : (x : Tree) (t : List Node) → Full symbols x → Earlier symbols t → height x ≤ suc (lay x t).number
  lay_height x t f earlier = node_height (lay x t).table (lay_right symbols x t f earlier).earlier x (lay x t).number f (lay_node x t)

  -- so a table has as many nodes as a tree that is laid in it is high
  pub lay_many : (x : Tree) (t : List Node) → Full symbols x → Earlier symbols t → height x ≤ length (lay x t).table
  lay_many x t f earlier = go x (lay_height x t f earlier) (lay_right symbols x t f earlier).inside
    where
      go : (y : Tree) → height y ≤ suc (lay x t).number → (Present y → (lay x t).number < length (lay x t).table) → height y ≤ length (lay x t).table
      go absent h i = omega arith
      go (tree op k a b c) h i = let l = i tt in omega arith

-- what joins so many is as high
pub leftward_height : (op : ℕ) (t : Tree) (us : List Tree) → height t + length us ≤ height (leftward op t us)
leftward_height op t [] = omega arith
leftward_height op t (u ∷ us) = let h = leftward_height op (pair op t u) us in omega arith

pub rightward_height : (ts : List Tree) → AllPresent ts → length ts ≤ height (rightward ts)
rightward_height [] p = omega arith
rightward_height (absent ∷ []) p = absurd p.0
rightward_height (tree op k a b c ∷ []) p = omega arith
rightward_height (a ∷ b ∷ ts) p = let h = rightward_height (b ∷ ts) p.1 in omega arith

member_height : (op : ℕ) (t : Tree) (us : List Tree) (i : ℕ) → i < length us → height (operand us i) ≤ height (leftward op t us)
member_height op t [] i h = absurd (omega arith)
member_height op t (u ∷ us) zero h = let l = leftward_height op (pair op t u) us in omega arith
member_height op t (u ∷ us) (suc i) h = member_height op (pair op t u) us i (omega arith)

grouped_height : (op : ℕ) (ts : List Tree) (i : ℕ) → i < length ts → height (operand ts i) ≤ height (grouped op ts)
grouped_height op [] i h = absurd (omega arith)
grouped_height op (t ∷ us) zero h = let l = leftward_height op t us in omega arith
grouped_height op (t ∷ us) (suc i) h = member_height op t us i (omega arith)

-- each member of => stands as deep as there are members before it
pub rightward_member : (ts : List Tree) (i : ℕ) → i < length ts → i + height (operand ts i) ≤ height (rightward ts)
rightward_member [] i h = absurd (omega arith)
rightward_member (a ∷ []) zero h = omega arith
rightward_member (a ∷ []) (suc i) h = absurd (omega arith)
rightward_member (a ∷ b ∷ ts) zero h = omega arith
rightward_member (a ∷ b ∷ ts) (suc i) h = let l = rightward_member (b ∷ ts) i (omega arith) in omega arith

-- each argument of = stands in an equation
equation_member : (ts : List Tree) (i : ℕ) → i < length ts → 2 ≤ length ts
    → (j : ℕ) × ((j < length (equations ts)) × (height (operand ts i) ≤ height (operand (equations ts) j)))
equation_member [] i h l = absurd (omega arith)
equation_member (a ∷ []) i h l = absurd (omega arith)
equation_member (a ∷ b ∷ ts) zero h l = (0, (omega arith, omega arith))
equation_member (a ∷ b ∷ ts) (suc zero) h l = (0, (omega arith, omega arith))
equation_member (a ∷ b ∷ ts) (suc (suc i)) h l =
    let r = equation_member (b ∷ ts) (suc i) (omega arith) (omega arith) in
    let m = r.1.0 in
    (suc r.0, (omega arith, r.1.1))

-- a term is at least as high as each of its arguments
over3_height : (op k : ℕ) (ts : List Tree) (i : ℕ) → i < length ts → length ts ≤ 3 → height (operand ts i) ≤ height (over3 op k ts)
over3_height op k ts zero h l = omega arith
over3_height op k ts (suc zero) h l = omega arith
over3_height op k ts (suc (suc zero)) h l = omega arith
over3_height op k ts (suc (suc (suc i))) h l = absurd (omega arith)

pub head_height : (symbols : List ℕ) (h : Head) (ts : List Tree) → Fits symbols h ts → (i : ℕ) → i < length ts → height (operand ts i) ≤ height (head_tree h ts)
head_height symbols (declared term k) ts f i l = over3_height 0 k ts i l f.1
head_height symbols (declared formula k) ts f i l = over3_height 6 k ts i l f.1
head_height symbols (ite term) ts f i l = over3_height 1 0 ts i l (omega arith)
head_height symbols (ite formula) ts f i l = over3_height 9 0 ts i l (omega arith)
head_height symbols equals ts f i l =
    let r = equation_member ts i l f in
    let m = grouped_height 4 (equations ts) r.0 r.1.0 in
    let e = r.1.1 in
    omega arith
head_height symbols negation ts f zero l = omega arith
head_height symbols negation ts f (suc i) l = absurd (omega arith)
head_height symbols conjunction ts f i l = grouped_height 4 ts i l
head_height symbols disjunction ts f i l = grouped_height 5 ts i l
head_height symbols implication ts f i l = let m = rightward_member ts i l in omega arith
head_height symbols verum ts f i l = absurd (omega arith)
head_height symbols falsum ts f i l = absurd (omega arith)

joined_height : (ts : List Tree) (i : ℕ) → i < length ts → height (operand ts i) ≤ height (joined ts)
joined_height [] i h = absurd (omega arith)
joined_height (t ∷ us) i h = grouped_height 4 (t ∷ us) i h

joined_many : (symbols : List ℕ) (ts : List Tree) → AllGood symbols ts → length ts ≤ height (joined ts)
joined_many symbols [] g = omega arith
joined_many symbols (absent ∷ us) g = absurd g.0.1
joined_many symbols (tree op k a b c ∷ us) g = let l = leftward_height 4 (tree op k a b c) us in omega arith

nodes_many : (symbols : List ℕ) (ts : List Tree) → AllGood symbols ts → height (joined ts) < length (nodes_of_trees ts)
nodes_many symbols ts g =
    let earlier = all_earlier symbols ts [] (full_of anything symbols ts g) (λ k h. absurd (omega arith)) in
    let l : Laid = lay (joined ts) (lay_all ts []) in
    let h = lay_many symbols (joined ts) (lay_all ts []) (joined_good anything symbols ts g).0 earlier in
    let e : length (nodes_of_trees ts) ≡ length l.table + 1 = length-append l.table (plain 3 l.number 0 0 ∷ []) in
    omega arith

-- a right script has more nodes than asserts, and more than each of its terms is high
module _ (s : Script) (right : script_right s ≡ true) where
  trees_good : AllGood (bytes_of_script s) (trees_of_script s)
  unfolding script_right bytes_of_script
  trees_good =
      (asserted anything [] s.commands (λ k h. absurd (omega arith))
      (and_right (new_sort s.sort_name) (commands_right [] s.commands) right)).good

  pub script_asserts : length (trees_of_script s) < length (nodes_of_script s)
  unfolding nodes_of_script
  script_asserts =
      let a = joined_many (bytes_of_script s) (trees_of_script s) trees_good in
      let b = nodes_many (bytes_of_script s) (trees_of_script s) trees_good in
      omega arith

  pub script_heights : (i : ℕ) → i < length (trees_of_script s) → height (operand (trees_of_script s) i) < length (nodes_of_script s)
  unfolding nodes_of_script
  script_heights i h =
      let a = joined_height (trees_of_script s) i h in
      let b = nodes_many (bytes_of_script s) (trees_of_script s) trees_good in
      omega arith
