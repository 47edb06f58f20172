-- The asserts of a text, laid one after the other as they are read and joined at the end by their numbers, are what the definition
-- lays (02, E1); and where a part of a script is already too much, the script is refused by 4 whatever follows. Assumes nothing.
use mathlib.Core.Path.{◌≡◌, refl, sym, ap, ◌∙◌, subst}
use Prim.Native.Nat.{ℕ, suc, ◌≤◌, ◌<◌}
use native.Mathlib.Omega.{arith}
use mathlib.Core.Bool.{Bool, true, false, ◌||◌}
use mathlib.Core.List.{List, [], ◌∷◌, ◌++◌, append_assoc, append-nil, map-append}
use mathlib.Core.Option.{Option, some}
use lib.ListN.{length, length-append, length-map}
use lib.Dec.{ltb}
use borrow.Author.Tests.{lt-ltb, le-ltb}
use Rattle.definitions.specs.Lists.{snoc, first_of}
use Rattle.definitions.specs.Problem.Node.{Node, plain}
use Rattle.definitions.specs.Problem.Check.{functions_in, predicates_in, Refused, refuse, refuse_if}
use Rattle.definitions.specs.Text.Grammar.{Symbol, Head, Terms, end, Command, declare, assert, Script, symbols_in, asserts_in, commands_right, script_right}
use Rattle.definitions.specs.Text.Reader.{put}
use Rattle.definitions.specs.Text.Nodes.{Tree, absent, tree, operand, pair, leftward, head_tree, trees_of, Laid, laid, ask, lay, lay_all, joined, assert_trees, ended, nodes_of_trees, nodes_of_script, symbol_bytes, bytes_of_script, limits_of_script}
use Rattle.theorems.specs.Origins.{NoTwins}
use Rattle.theorems.proofs.Laws.Tests.{or_left, or_right}
use Rattle.theorems.proofs.Laws.Ops.{AllBelow}
use Rattle.theorems.proofs.Text.Meant.Shared.{Earlier, ask_given, ask_twins}
use Rattle.theorems.proofs.Text.Meant.Laying.{Present, AllPresent, all_earlier, all_twins}
use Rattle.theorems.proofs.Text.Meant.Bytes.{all_longer}
use Rattle.theorems.proofs.Text.Meant.Again.{all_extends, nodes_extend}
use Rattle.theorems.proofs.Text.Meant.Paired.{AllGood}
use Rattle.theorems.proofs.Text.Meant.Reading.{anything, asserted, full_of}
use Rattle.theorems.proofs.Text.Meant.Heights.{script_asserts}
use Rattle.terms.proofs.TermRights.{present_of}
use Rattle.terms.specs.Symbols.{symbol_byte}
use Rattle.terms.specs.Scripts.{roots_of, joined_on, joined_roots, trees_in, table_after, roots_after, TooMuch}
use Rattle.terms.proofs.ListSteps.{Grows, grows_none, grows_on, ask_grows}
use Rattle.terms.proofs.ListLaws.{pair_laid, stands}

-- the trees xs stand in a table, so what joins them after a tree that was laid only asks for the joins
joined_on_lem : (a : Tree) (xs : List Tree) (s t : List Node) (l : Laid) → NoTwins l.table → Grows (lay_all xs t) l.table → lay a s ≡ l
    → lay (leftward 4 a xs) s ≡ joined_on (roots_of xs t) l
joined_on_lem a [] s t l twins g p = p
joined_on_lem a (x ∷ xs) s t l twins g p =
    let u = (lay x t).table in
    let n = plain 4 l.number (lay x t).number 0 in
    let there = stands x t l.table twins (grows_on u (lay_all xs u) l.table (all_extends xs u) g) in
    joined_on_lem (pair 4 a x) xs s u (ask n l.table) (ask_twins n l.table twins)
    (grows_on (lay_all xs u) l.table (ask n l.table).table g (ask_grows n l.table))
    (pair_laid 4 a x s l.table p ∙ ap (λ (y : Laid). ask (plain 4 l.number y.number 0) y.table) there)

-- what joins trees that are laid joins their numbers
pub roots_join : (xs : List Tree) (t : List Node) → NoTwins t → lay (joined xs) (lay_all xs t) ≡ joined_roots (roots_of xs t) (lay_all xs t)
roots_join [] t twins = refl
roots_join (x ∷ xs) t twins =
    let u = (lay x t).table in
    let v = lay_all xs u in
    let later = all_twins (x ∷ xs) t twins in
    joined_on_lem x xs v u (laid (lay x t).number v) later (grows_none v) (stands x t v later (all_extends xs u))

-- one more tree
pub lay_all_snoc : (xs : List Tree) (x : Tree) (t : List Node) → lay_all (snoc xs x) t ≡ (lay x (lay_all xs t)).table
lay_all_snoc [] x t = refl
lay_all_snoc (y ∷ xs) x t = lay_all_snoc xs x (lay y t).table

pub roots_snoc : (xs : List Tree) (x : Tree) (t : List Node) → roots_of (snoc xs x) t ≡ snoc (roots_of xs t) (lay x (lay_all xs t)).number
roots_snoc [] x t = refl
roots_snoc (y ∷ xs) x t = ap {B = List ℕ} (λ ks. (lay y t).number ∷ ks) (roots_snoc xs x (lay y t).table)

roots_counted : (xs : List Tree) (t : List Node) → length (roots_of xs t) ≡ length xs
roots_counted [] t = refl
roots_counted (x ∷ xs) t = ap suc (roots_counted xs (lay x t).table)

-- more commands
asserts_append : (cs ds : List Command) → asserts_in (cs ++ ds) ≡ asserts_in cs ++ asserts_in ds
asserts_append [] ds = refl
asserts_append (declare y ∷ cs) ds = asserts_append cs ds
asserts_append (assert r ∷ cs) ds = ap {B = List Terms} (λ rs. r ∷ rs) (asserts_append cs ds)

symbols_append : (cs ds : List Command) → symbols_in (cs ++ ds) ≡ symbols_in cs ++ symbols_in ds
symbols_append [] ds = refl
symbols_append (declare y ∷ cs) ds = ap {B = List Symbol} (λ ys. y ∷ ys) (symbols_append cs ds)
symbols_append (assert r ∷ cs) ds = symbols_append cs ds

trees_append : (cs ds : List Command) → trees_in (cs ++ ds) ≡ trees_in cs ++ trees_in ds
trees_append cs ds = ap assert_trees (asserts_append cs ds) ∙ map-append (λ r. operand (trees_of r) 0) (asserts_in cs) (asserts_in ds)

-- one more command
module _ (cs : List Command) (y : Symbol) where
  pub trees_declare : trees_in (snoc cs (declare y)) ≡ trees_in cs
  trees_declare = trees_append cs (declare y ∷ []) ∙ append-nil (trees_in cs)

  pub symbols_declare : symbols_in (snoc cs (declare y)) ≡ snoc (symbols_in cs) y
  symbols_declare = symbols_append cs (declare y ∷ [])

  pub bytes_declare : symbol_bytes (symbols_in (snoc cs (declare y))) ≡ snoc (symbol_bytes (symbols_in cs)) (symbol_byte y)
  bytes_declare = ap symbol_bytes symbols_declare ∙ map-append symbol_byte (symbols_in cs) (y ∷ [])

pub trees_assert : (cs : List Command) (h : Head) (args : Terms) → trees_in (snoc cs (assert (put end h args))) ≡ snoc (trees_in cs) (head_tree h (trees_of args))
trees_assert cs h args = trees_append cs (assert (put end h args) ∷ [])

module _ (cs : List Command) (r : Terms) where
  pub symbols_assert : symbols_in (snoc cs (assert r)) ≡ symbols_in cs
  symbols_assert = symbols_append cs (assert r ∷ []) ∙ append-nil (symbols_in cs)

  pub bytes_assert : symbol_bytes (symbols_in (snoc cs (assert r))) ≡ symbol_bytes (symbols_in cs)
  bytes_assert = ap symbol_bytes symbols_assert

-- numbers of trees that are there are those of nodes
number_inside : (x : Tree) (t : List Node) → Present x → (lay x t).number < length (lay x t).table
number_inside absent t p = absurd p
number_inside (tree op k a b c) t p =
    let x = lay a t in
    let y = lay b x.table in
    let z = lay c y.table in
    (ask_given (record { op = op; sym = k; a = x.number; b = y.number; c = z.number }) z.table).inside

numbers_inside : (xs : List Tree) (t : List Node) → AllPresent xs → AllBelow (length (lay_all xs t)) (roots_of xs t)
numbers_inside [] t p = tt
numbers_inside (x ∷ xs) t p =
    let u = (lay x t).table in
    let more = all_longer xs u in
    let here = number_inside x t p.0 in
    (omega arith, numbers_inside xs u p.1)

-- the table of the asserts of right commands, and their numbers
no_nodes : NoTwins []
no_nodes i j h g e = absurd (omega arith)

pub table_good : (cs : List Command) → NoTwins (table_after cs)
table_good cs = all_twins (trees_in cs) [] no_nodes

module _ (cs : List Command) (right : commands_right [] cs ≡ true) where
  trees_good : AllGood (symbol_bytes (symbols_in cs)) (trees_in cs)
  trees_good = (asserted anything [] cs (λ k h. absurd (omega arith)) right).good

  pub table_earlier : Earlier (symbol_bytes (symbols_in cs)) (table_after cs)
  table_earlier =
      let symbols = symbol_bytes (symbols_in cs) in
      all_earlier symbols (trees_in cs) [] (full_of anything symbols (trees_in cs) trees_good) (λ k h. absurd (omega arith))

  pub roots_inside : AllBelow (length (table_after cs)) (roots_after cs)
  roots_inside = numbers_inside (trees_in cs) [] (present_of (symbol_bytes (symbols_in cs)) (trees_in cs) trees_good)

trees_counted : (cs : List Command) → length (trees_in cs) ≡ length (asserts_in cs)
trees_counted cs = length-map (asserts_in cs) (λ r. operand (trees_of r) 0)

pub roots_many : (cs : List Command) → length (roots_after cs) ≡ length (asserts_in cs)
roots_many cs = roots_counted (trees_in cs) [] ∙ trees_counted cs

-- the nodes of a script: those of the asserts, what joins their numbers, and the negation
pub nodes_are : (s : Script) → nodes_of_script s ≡ ended (joined_roots (roots_after s.commands) (table_after s.commands))
unfolding nodes_of_script
nodes_are s = ap ended (roots_join (trees_in s.commands) [] no_nodes)

-- 4 comes first, and where it does not refuse, 9 and 10
abbrev pub after_four : List Node → List (Option Refused)
after_four t = refuse_if (ltb 24 (functions_in t)) 9 ∷ refuse_if (ltb 16 (predicates_in t)) 10 ∷ []

module _ (s : Script) where
  bytes_counted : length (bytes_of_script s) ≡ length (symbols_in s.commands)
  unfolding bytes_of_script
  bytes_counted = length-map (symbols_in s.commands) symbol_byte

  limits_by : (b : Bool) → (ltb 32 (length (bytes_of_script s)) || ltb 256 (length (nodes_of_script s))) ≡ b
      → limits_of_script s ≡ first_of (refuse_if b 4 ∷ after_four (nodes_of_script s))
  unfolding limits_of_script
  limits_by b e = ap (λ (c : Bool). first_of (refuse_if c 4 ∷ after_four (nodes_of_script s))) e

  limits_symbols : 32 < length (symbols_in s.commands) → limits_of_script s ≡ some (refuse 4 0)
  limits_symbols h =
      let e = bytes_counted in
      limits_by true (or_left (ltb 32 (length (bytes_of_script s))) (ltb 256 (length (nodes_of_script s))) (lt-ltb 32 (length (bytes_of_script s)) (omega arith)))

  pub limits_many : 256 < length (nodes_of_script s) → limits_of_script s ≡ some (refuse 4 0)
  limits_many h = limits_by true (or_right (ltb 32 (length (bytes_of_script s))) (ltb 256 (length (nodes_of_script s))) (lt-ltb 256 (length (nodes_of_script s)) h))

  pub limits_fine : length (symbols_in s.commands) ≤ 32 → length (nodes_of_script s) ≤ 256 → limits_of_script s ≡ first_of (after_four (nodes_of_script s))
  limits_fine h g =
      let e = bytes_counted in
      limits_by false
      (ap (λ (b : Bool). b || ltb 256 (length (nodes_of_script s))) (le-ltb 32 (length (bytes_of_script s)) (omega arith)) ∙ le-ltb 256 (length (nodes_of_script s)) g)

-- what is too much stays too much
nodes_more : (sn : List ℕ) (cs ds : List Command) → length (table_after cs) ≤ length (nodes_of_script (record { sort_name = sn; commands = cs ++ ds }))
unfolding nodes_of_script
nodes_more sn cs ds =
    let x = nodes_extend (trees_in cs) (trees_in ds) in
    let e = ap length (ap nodes_of_trees (trees_append cs ds) ∙ x.1) ∙ length-append (table_after cs) x.0 in
    omega arith

-- a right script of these commands is refused by 4
abbrev pub RefusedByFour : List ℕ → List Command → Type 0
RefusedByFour sn cs = let s : Script = record { sort_name = sn; commands = cs } in script_right s ≡ true → limits_of_script s ≡ some (refuse 4 0)

module _ (sn : List ℕ) (cs : List Command) where
  pub much_nodes : 256 < length (table_after cs) → TooMuch sn cs
  much_nodes h ds right = let more = nodes_more sn cs ds in limits_many (record { sort_name = sn; commands = cs ++ ds }) (omega arith)

  pub much_symbols : 32 < length (symbols_in cs) → TooMuch sn cs
  much_symbols h ds right =
      let e = ap length (symbols_append cs ds) ∙ length-append (symbols_in cs) (symbols_in ds) in
      limits_symbols (record { sort_name = sn; commands = cs ++ ds }) (omega arith)

  pub much_asserts : 256 < length (asserts_in cs) → TooMuch sn cs
  much_asserts h ds right =
      let s : Script = record { sort_name = sn; commands = cs ++ ds } in
      let more = script_asserts s right in
      let e = trees_counted (cs ++ ds) ∙ ap length (asserts_append cs ds) ∙ length-append (asserts_in cs) (asserts_in ds) in
      limits_many s (omega arith)

  pub much_on : TooMuch sn cs → (c : Command) → TooMuch sn (snoc cs c)
  much_on much c ds = subst (RefusedByFour sn) (sym (append_assoc cs (c ∷ []) ds)) (much (c ∷ ds))

  pub much_now : TooMuch sn cs → RefusedByFour sn cs
  much_now much = subst (RefusedByFour sn) (append-nil cs) (much [])
