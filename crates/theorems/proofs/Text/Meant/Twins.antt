-- No two nodes of the table of a right script are equal (02, E1: "equal nodes stand once"). The negation, which is written last, is
-- new: it is larger than every node that stands, since each is part of what joins the asserts. Assumes nothing.
use mathlib.Core.Path.{◌≡◌, ap, ◌∙◌}
use Prim.Native.Nat.{ℕ, suc, ◌+◌, ◌<◌, ◌≤◌}
use native.Mathlib.Omega.{arith}
use mathlib.Core.Bool.{true}
use mathlib.Core.List.{List, [], ◌∷◌}
use lib.ListN.{length}
use Rattle.definitions.specs.Problem.Node.{Node, node, plain}
use Rattle.theorems.proofs.Laws.Tests.{and_right}
use Rattle.definitions.specs.Text.Grammar.{Script, symbols_in, asserts_in, new_sort, commands_right, script_right}
use Rattle.definitions.specs.Text.Nodes.{Tree, pair, leftward, Laid, lay, lay_all, joined, assert_trees, ended, nodes_of_script, symbol_bytes}
use Rattle.theorems.specs.Origins.{NoTwins}
use Rattle.theorems.proofs.Text.Meant.Shared.{Earlier, snoc_twins}
use Rattle.theorems.proofs.Text.Meant.Laying.{AllFull, lay_right, all_earlier, lay_twins, all_twins}
use Rattle.theorems.proofs.Text.Meant.Paired.{Good}
use Rattle.theorems.proofs.Text.Meant.Reading.{anything, asserted, full_of, joined_good}
use Rattle.theorems.proofs.Text.Meant.Sizes.{node_size, sizes, size, Within, tree_size, lay_sized, size_fixed}

module _ (symbols : List ℕ) where
  -- every tree is within what joins them
  abbrev Each : ℕ → List Tree → Type 0
  Each m [] = Unit {0}
  Each m (x ∷ xs) = (tree_size symbols x ≤ m) × Each m xs

  first_within : (t : Tree) (us : List Tree) → tree_size symbols t ≤ tree_size symbols (leftward 4 t us)
  first_within t [] = omega arith
  first_within t (u ∷ us) = let h = first_within (pair 4 t u) us in omega arith

  rest_within : (t : Tree) (us : List Tree) → Each (tree_size symbols (leftward 4 t us)) us
  rest_within t [] = tt
  rest_within t (u ∷ us) = (let h = first_within (pair 4 t u) us in omega arith, rest_within (pair 4 t u) us)

  each_within : (ts : List Tree) → Each (tree_size symbols (joined ts)) ts
  each_within [] = tt
  each_within (t ∷ ts) = (first_within t ts, rest_within t ts)

  all_within : (m : ℕ) (xs : List Tree) (t : List Node) → AllFull symbols xs → Each m xs → Earlier symbols t → Within symbols m t → Within symbols m (lay_all xs t)
  all_within m [] t f e earlier w = w
  all_within m (x ∷ xs) t f e earlier w =
      all_within m xs (lay x t).table f.1 e.1 (lay_right symbols x t f.0 earlier).earlier (lay_sized symbols m x t f.0 earlier e.0 w).within

  -- so the negation is new
  ended_twins : (ts : List Tree) → AllFull symbols ts → Good symbols (joined ts) → NoTwins (ended (lay (joined ts) (lay_all ts [])))
  ended_twins ts f g =
      let x : Tree = joined ts in
      let m : ℕ = tree_size symbols x in
      let t : List Node = lay_all ts [] in
      let l : Laid = lay x t in
      let earlier = all_earlier symbols ts [] f (λ k h. absurd (omega arith)) in
      let r = lay_right symbols x t g.0 earlier in
      let w = all_within m ts [] f (each_within ts) (λ k h. absurd (omega arith)) (λ k h. absurd (omega arith)) in
      let z = lay_sized symbols m x t g.0 earlier (omega arith) w in
      snoc_twins l.table (plain 3 l.number 0 0) (lay_twins x t (all_twins ts [] (λ i j h k q. absurd (omega arith)))) (λ k h q. new l r.earlier (z.size_is g.1) z.within k h q)
    where
      new : (l : Laid) → Earlier symbols l.table → size symbols l.table l.number ≡ tree_size symbols (joined ts) → Within symbols (tree_size symbols (joined ts)) l.table
          → (k : ℕ) → k < length l.table → node l.table k ≡ plain 3 l.number 0 0 → ⊥
      new l earlier is w k h q =
          let larger : size symbols l.table k ≡ suc (size symbols l.table l.number + 0) =
          size_fixed symbols l.table earlier k h ∙ ap (node_size symbols (sizes symbols l.table)) q in
          let small = w k h in
          omega arith

pub script_twins : (s : Script) → script_right s ≡ true → NoTwins (nodes_of_script s)
unfolding script_right nodes_of_script
script_twins s e =
    let cs = s.commands in
    let symbols : List ℕ = symbol_bytes (symbols_in cs) in
    let ts : List Tree = assert_trees (asserts_in cs) in
    let a = asserted anything [] cs (λ k h. absurd (omega arith)) (and_right (new_sort s.sort_name) (commands_right [] cs) e) in
    let full = full_of anything symbols ts a.good in
    ended_twins symbols ts full (joined_good anything symbols ts a.good)
