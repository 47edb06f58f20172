-- The problem's bytes, read back as 01 reads them, are the symbols and the nodes; so the problem is true exactly when the asserts joined
-- by "and" are not (02, E1: "Prove that the problem is true exactly when that negation is, in every interpretation"). Assumes nothing.
use mathlib.Core.Path.{◌≡◌, refl, sym, ap, ap₂, ◌∙◌}
use Prim.Native.Nat.{ℕ, ◌+◌, ◌-◌, ◌*◌, ◌<◌, ◌≤◌}
use native.Mathlib.Omega.{arith}
use mathlib.Core.Bool.{Bool, true, false, not, ◌||◌}
use mathlib.Core.List.{List, [], ◌∷◌}
use mathlib.Core.Logic.{◌⊎◌, inl, inr}
use mathlib.Core.Option.{Option, none, some}
use lib.ListN.{length, length-append}
use lib.Dec.{ltb}
use borrow.Author.Tests.{ltb-false}
use Rattle.definitions.specs.Lists.{snoc, first_of}
use Rattle.definitions.specs.Problem.Node.{Node, node, plain}
use Rattle.definitions.specs.Problem.Check.{functions_in, predicates_in, refuse_if}
use Rattle.definitions.specs.Logic.{Interpretation, values, truth_at, holds}
use Rattle.theorems.proofs.Laws.Tests.{none≢some}
use Rattle.theorems.proofs.Tables.Back.{Low, symbols_back, nodes_read, problem_length}
use Rattle.definitions.specs.Text.Grammar.{Script, script_right, asserts_in}
use Rattle.definitions.specs.Text.Meaning.{asserts_true}
use Rattle.definitions.specs.Text.Nodes.{Tree, absent, tree, place_of, found_or, ask, lay, lay_all, joined, assert_trees, ended, nodes_of_script, bytes_of_script, problem_of_script, limits, limits_of_script}
use Rattle.theorems.proofs.Text.Meant.Shared.{ask_given, last_or_before, before_same, last_is}
use Rattle.theorems.proofs.Text.Meant.Again.{lay_extends}
use Rattle.theorems.proofs.Text.Meant.Reading.{nodes_mean}

-- the operands of every node are at most the count of nodes
abbrev Small : ℕ → Node → Type 0
Small m n = (n.a ≤ m) × (n.b ≤ m) × (n.c ≤ m)

abbrev AllSmall : ℕ → List Node → Type 0
AllSmall m t = (k : ℕ) → k < length t → Small m (node t k)

small_more : (m m' : ℕ) (t : List Node) → m ≤ m' → AllSmall m t → AllSmall m' t
small_more m m' t h s k l = let x = s k l in (let y = x.0 in omega arith, let y = x.1 in omega arith, let y = x.2 in omega arith)

small_snoc : (m : ℕ) (t : List Node) (n : Node) → AllSmall m t → Small m n → AllSmall m (snoc t n)
small_snoc m t n s h k l = go (last_or_before t n k l)
  where
    go : (k < length t) ⊎ (k ≡ length t) → Small m (node (snoc t n) k)
    go (inl p) = rw (before_same t n k p) (s k p)
    go (inr p) = rw (last_is t n k p) h

lay_number : (x : Tree) (t : List Node) → (lay x t).number ≤ length (lay x t).table
lay_number absent t = omega arith
lay_number (tree op k a b c) t =
    let x = lay a t in
    let y = lay b x.table in
    let z = lay c y.table in
    let i = (ask_given (record { op = op; sym = k; a = x.number; b = y.number; c = z.number }) z.table).inside in
    omega arith

-- laying keeps this, for every bound that the longer table stays within
pub lay_longer : (x : Tree) (t : List Node) → length t ≤ length (lay x t).table
lay_longer x t = let e = lay_extends x t in let l : length (lay x t).table ≡ length t + length e.0 = ap length e.1 ∙ length-append t e.0 in omega arith

ask_small : (m : ℕ) (n : Node) (t : List Node) → AllSmall m t → Small m n → AllSmall m (ask n t).table
unfolding ask
ask_small m n t s h = go (place_of n t)
  where
    go : (o : Option ℕ) → AllSmall m (found_or n t o).table
    go (some k) = s
    go none = small_snoc m t n s h

lay_small : (m : ℕ) (x : Tree) (t : List Node) → length (lay x t).table ≤ m → AllSmall m t → AllSmall m (lay x t).table
lay_small m absent t h s = s
lay_small m (tree op k a b c) t h s =
    let x = lay a t in
    let y = lay b x.table in
    let z = lay c y.table in
    let n : Node = record { op = op; sym = k; a = x.number; b = y.number; c = z.number } in
    let lx = lay_longer b x.table in
    let ly = lay_longer c y.table in
    let g = ask_given n z.table in
    let lz : length z.table ≤ m = (let l : length (ask n z.table).table ≡ length z.table + length g.more = ap length g.extends ∙ length-append z.table g.more in omega arith) in
    let ix = lay_number a t in
    let iy = lay_number b x.table in
    let iz = lay_number c y.table in
    ask_small m n z.table
    (lay_small m c y.table lz (lay_small m b x.table (omega arith) (lay_small m a t (omega arith) s)))
    (omega arith, omega arith, omega arith)

pub all_longer : (xs : List Tree) (t : List Node) → length t ≤ length (lay_all xs t)
all_longer [] t = omega arith
all_longer (x ∷ xs) t = let h = lay_longer x t in let g = all_longer xs (lay x t).table in omega arith

all_small : (m : ℕ) (xs : List Tree) (t : List Node) → length (lay_all xs t) ≤ m → AllSmall m t → AllSmall m (lay_all xs t)
all_small m [] t h s = s
all_small m (x ∷ xs) t h s = let g = all_longer xs (lay x t).table in all_small m xs (lay x t).table h (lay_small m x t (omega arith) s)

ended_small : (ts : List Tree) → AllSmall (length (ended (lay (joined ts) (lay_all ts [])))) (ended (lay (joined ts) (lay_all ts [])))
ended_small ts =
    let l = lay (joined ts) (lay_all ts []) in
    let n : Node = plain 3 l.number 0 0 in
    let e : length (ended l) ≡ length l.table + 1 = length-append l.table (n ∷ []) in
    let i = lay_number (joined ts) (lay_all ts []) in
    let g = lay_longer (joined ts) (lay_all ts []) in
    small_snoc (length (ended l)) l.table n
    (lay_small (length (ended l)) (joined ts) (lay_all ts []) (omega arith) (all_small (length (ended l)) ts [] (omega arith) (λ k h. absurd (omega arith))))
    (omega arith, omega arith, omega arith)

pub script_length : (s : Script) → length (problem_of_script s) ≡ 8 + length (bytes_of_script s) + 8 * length (nodes_of_script s)
unfolding problem_of_script
script_length s = problem_length (bytes_of_script s) (nodes_of_script s)

-- within the limits there are at most 256 nodes
pub few_nodes : (symbols : List ℕ) (t : List Node) → limits symbols t ≡ none → length t ≤ 256
few_nodes symbols t e = go (ltb 32 (length symbols)) (ltb 256 (length t)) refl e
  where
    go : (a b : Bool) → ltb 256 (length t) ≡ b
        → first_of (refuse_if (a || b) 4 ∷ refuse_if (ltb 24 (functions_in t)) 9 ∷ refuse_if (ltb 16 (predicates_in t)) 10 ∷ []) ≡ none → length t ≤ 256
    go true b p q = absurd (none≢some (sym q))
    go false true p q = absurd (none≢some (sym q))
    go false false p q = ltb-false 256 (length t) p

pub low : (s : Script) → length (nodes_of_script s) ≤ 256 → (k : ℕ) → k < length (nodes_of_script s) → Low (node (nodes_of_script s) k)
unfolding nodes_of_script
low s few k h =
    let x = ended_small (assert_trees (asserts_in s.commands)) k h in
    (let y = x.0 in omega arith, let y = x.1 in omega arith, let y = x.2 in omega arith)

-- the problem of a right script within the limits
pub problem_means : (I : Interpretation) (s : Script) → script_right s ≡ true → limits_of_script s ≡ none → holds I (problem_of_script s) ≡ not (asserts_true I s)
unfolding limits_of_script problem_of_script holds
problem_means I s e l =
    let symbols : List ℕ = bytes_of_script s in
    let t : List Node = nodes_of_script s in
    let few = few_nodes symbols t l in
    let a = symbols_back symbols t in
    let b = nodes_read symbols t (omega arith) (low s few) in
    ap₂ {C = Bool} (λ (y : List ℕ) (u : List Node). truth_at (values I y u) (length u - 1)) a b ∙ nodes_mean I s e
