-- Asking twice is asking once (02, E2): the problem asked, asked for its last node, is itself. Assumes nothing.
use mathlib.Core.Path.{◌≡◌, refl, ap, ap₂, ◌∙◌}
use Prim.Native.Nat.{ℕ, suc, ◌+◌, ◌-◌}
use native.Mathlib.Omega.{arith}
use mathlib.Core.List.{List}
use lib.ListN.{length, take}
use lib.Seq.{take_all}
use Rattle.definitions.specs.Problem.Check.{symbol_count, node_count, symbols_of, nodes_of}
use Rattle.theorems.proofs.Accepted.{length_nodes_at, Layout}
use Rattle.definitions.specs.Problem.Asked.{trimmed, asked}
use Rattle.definitions.specs.Problem.Node.{problem_bytes}
use Rattle.theorems.proofs.Asked.Trimmed.{AllUsed}
use Rattle.theorems.proofs.Asked.Formed.{Named, asked_symbols, asked_nodes, asked_layout, asked_used}
use Rattle.theorems.proofs.Asked.Whole.{trimmed_whole}

whole_problem : (a : List ℕ) → Layout a → AllUsed (symbols_of a) (nodes_of a) (length (nodes_of a) - 1)
    → trimmed (symbols_of a) (take (suc (length (nodes_of a) - 1)) (nodes_of a)) ≡ nodes_of a
whole_problem a l used =
    let c = length_nodes_at a (8 + symbol_count a) (node_count a) in
    let m = l.some_nodes in
    ap (trimmed (symbols_of a)) (take_all (suc (length (nodes_of a) - 1)) (nodes_of a) (omega arith))
    ∙ trimmed_whole (symbols_of a) (nodes_of a) l.nodes_right (omega arith) used

laid_as : (s : List ℕ) (root : ℕ) → Named s root → problem_bytes (symbols_of (asked s root)) (nodes_of (asked s root)) ≡ asked s root
unfolding asked
laid_as s root ok = ap₂ {C = List ℕ} problem_bytes (asked_symbols s root ok) (asked_nodes s root ok)

again_is : (a : List ℕ) (m : ℕ) → asked a m ≡ problem_bytes (symbols_of a) (trimmed (symbols_of a) (take (suc m) (nodes_of a)))
unfolding asked
again_is a m = refl

pub asked_twice : (s : List ℕ) (root : ℕ) → Named s root → asked (asked s root) (length (nodes_of (asked s root)) - 1) ≡ asked s root
asked_twice s root ok =
    let a : List ℕ = asked s root in
    again_is a (length (nodes_of a) - 1)
    ∙ ap (problem_bytes (symbols_of a)) (whole_problem a (asked_layout s root ok) (asked_used s root ok))
    ∙ laid_as s root ok
