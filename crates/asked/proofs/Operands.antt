-- The operands in use of a node of a table that is well formed: at most three, each an earlier node, read from the node's bytes.
-- Assumes nothing.
use mathlib.Core.Path.{◌≡◌, ap, ap₂, ◌∙◌, subst}
use Prim.Native.Nat.{ℕ, zero, suc, ◌≤◌, ◌<◌}
use native.Mathlib.Omega.{arith}
use mathlib.Core.Bool.{true, false≢true}
use mathlib.Core.List.{List, [], ◌∷◌}
use mathlib.Core.Option.{Option, none, some}
use lib.ListN.{length, get_or, take}
use lib.Seq.{length-take-le}
use Rattle.definitions.specs.Problem.Node.{Node, node}
use Rattle.definitions.specs.Problem.Ops.{Sort, fits, node_right, sorts_of, count_of, fields_of}
use Rattle.definitions.specs.Problem.Check.{node_count, symbols_of, nodes_of}
use Rattle.theorems.proofs.Accepted.{Layout}
use Rattle.theorems.proofs.Laws.Ops.{AllBelow, operands_rest}
use Rattle.theorems.proofs.Tables.Fixed.{right_at_lem, right_below, right_fits}
use Rattle.problem.proofs.NodeLaws.{length_nodes_of}
use Rattle.asked.specs.Reached.{operands_at}

-- a node whose operands fit has at most three
count_few : (earlier : List Node) (o : Option (List Sort)) (n : Node) → fits earlier o (fields_of n) ≡ true → count_of o ≤ 3
count_few earlier none n e = omega arith
count_few earlier (some []) n e = omega arith
count_few earlier (some (a ∷ [])) n e = omega arith
count_few earlier (some (a ∷ b ∷ [])) n e = omega arith
count_few earlier (some (a ∷ b ∷ c ∷ [])) n e = omega arith
count_few earlier (some (a ∷ b ∷ c ∷ d ∷ ss)) n e =
    absurd
    (false≢true
    (operands_rest earlier c (d ∷ ss) n.c []
    (operands_rest earlier b (c ∷ d ∷ ss) n.b (n.c ∷ []) (operands_rest earlier a (b ∷ c ∷ d ∷ ss) n.a (n.b ∷ n.c ∷ []) e))))

pub below_at : (m : ℕ) (xs : List ℕ) (j : ℕ) → AllBelow m xs → j < length xs → get_or xs j 0 < m
below_at m [] j b h = absurd (omega arith)
below_at m (x ∷ xs) zero b h = b.0
below_at m (x ∷ xs) (suc j) b h = below_at m xs j b.1 (omega arith)

module _ {s : List ℕ} (l : Layout s) (k : ℕ) (here : k < node_count s) where
  abbrev n : Node
  n = node (nodes_of s) k

  right : node_right (symbols_of s) (take k (nodes_of s)) n ≡ true
  right = right_at_lem (symbols_of s) (nodes_of s) k l.nodes_right (omega (arith, length_nodes_of s))

  pub uses_few : count_of (sorts_of (symbols_of s) n) ≤ 3
  uses_few = count_few (take k (nodes_of s)) (sorts_of (symbols_of s) n) n (right_fits (symbols_of s) (take k (nodes_of s)) n right)

  pub uses_length : length (operands_at s k) ≡ count_of (sorts_of (symbols_of s) n)
  uses_length = length-take-le (count_of (sorts_of (symbols_of s) n)) (fields_of n) uses_few

  pub operand_earlier : (j : ℕ) → j < length (operands_at s k) → get_or (operands_at s k) j 0 < k
  operand_earlier j i =
      subst (λ (m : ℕ). get_or (operands_at s k) j 0 < m) (length-take-le k (nodes_of s) (omega (arith, length_nodes_of s)))
      (below_at (length (take k (nodes_of s))) (operands_at s k) j (right_below (symbols_of s) (take k (nodes_of s)) n right) i)

-- the operands in use, from a node as it is read
pub operands_are : (s : List ℕ) (k : ℕ) {m : Node} {used : ℕ} {fields : List ℕ} → m ≡ node (nodes_of s) k
    → used ≡ count_of (sorts_of (symbols_of s) m) → fields ≡ fields_of m → take used fields ≡ operands_at s k
operands_are s k e u f = ap₂ {C = List ℕ} take (u ∙ ap (λ (x : Node). count_of (sorts_of (symbols_of s) x)) e) (f ∙ ap fields_of e)

pub in_use_few : {s : List ℕ} → Layout s → (k : ℕ) → k < node_count s → {m : Node} {used : ℕ} → m ≡ node (nodes_of s) k
    → used ≡ count_of (sorts_of (symbols_of s) m) → used ≤ 3
in_use_few {s} l k here e u = omega (arith, u ∙ ap (λ (x : Node). count_of (sorts_of (symbols_of s) x)) e, uses_few l k here)
