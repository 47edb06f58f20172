-- The problem asked: the nodes that a named root reaches, alone (02, E2). Every operation is that of 01 on the problem asked. Assumes
-- nothing.
use Rattle.std.specs.Prelude.{ℕ, zero, suc, ◌-◌, List, [], ◌∷◌, ◌++◌, map, Bool, true, false, ◌||◌, length, get_or, take, eqb, ltb, leb}
use Rattle.std.proofs.Math.Option.{Option}
use Rattle.definitions.specs.Lists.{any, keep, first_of, snoc}
use Rattle.definitions.specs.Problem.Node.{Node, node, problem_bytes}
use Rattle.definitions.specs.Problem.Ops.{operands_of}
use Rattle.definitions.specs.Problem.Check.{symbols_of, nodes_of, is_term, functions_in, predicates_in, Refused, refuse_if, layout_conditions}

-- the nodes below k that are wanted, in order: those whose numbers are at hand, and the operands in use of each, in turn
abbrev pub wanted_below : List ℕ → List Node → ℕ → List ℕ → List ℕ
wanted_below symbols t zero wanted = []
wanted_below symbols t (suc k) wanted =
    elim (any (eqb k) wanted) [
      | true ↦ snoc (wanted_below symbols t k (operands_of symbols (node t k) ++ wanted)) k
      | false ↦ wanted_below symbols t k wanted
    ]

-- the nodes that the last node of a table reaches, in order: itself, and what its operands in use reach
abbrev pub reached : List ℕ → List Node → List ℕ
reached symbols t = wanted_below symbols t (length t) ((length t - 1) ∷ [])

-- the number of a node among these
abbrev pub number_in : List ℕ → ℕ → ℕ
number_in numbers k = length (keep (λ j. ltb j k) numbers)

-- a node with its operands in use renumbered, and 0 in the fields that are not in use
abbrev pub renumbered : List ℕ → List ℕ → Node → Node
renumbered symbols numbers n =
    let ks = map (number_in numbers) (operands_of symbols n) in
    record { op = n.op; sym = n.sym; a = get_or ks 0 0; b = get_or ks 1 0; c = get_or ks 2 0 }

-- the reached nodes alone
abbrev pub trimmed : List ℕ → List Node → List Node
trimmed symbols t = let r = reached symbols t in map (λ k. renumbered symbols r (node t k)) r

-- the problem asked: all symbols, and what the root reaches; nodes after the root are no part of it
unfoldable pub asked : List ℕ → ℕ → List ℕ
asked s root = problem_bytes (symbols_of s) (trimmed (symbols_of s) (take (suc root) (nodes_of s)))

-- 16: the root is not a node, or not a formula
abbrev pub root_wrong : List Node → ℕ → Bool
root_wrong t root = leb (length t) root || is_term (node t root)

-- 9 and 10 count what the root reaches: they are conditions on the problem asked
abbrev pub limit_conditions : List ℕ → List (Option Refused)
limit_conditions a =
    refuse_if (ltb 24 (functions_in (nodes_of a))) 9 ∷ refuse_if (ltb 16 (predicates_in (nodes_of a))) 10 ∷ []

unfoldable pub limit_refusal : List ℕ → Option Refused
limit_refusal a = first_of (limit_conditions a)

-- what refuses a root, in the order tried: 1 to 7 over the whole table, then 16
abbrev pub ask_conditions : List ℕ → ℕ → List (Option Refused)
ask_conditions s root = snoc (layout_conditions s) (refuse_if (root_wrong (nodes_of s) root) 16)

unfoldable pub ask_refusal : List ℕ → ℕ → Option Refused
ask_refusal s root = first_of (ask_conditions s root)

-- check's conditions: 1 to 7, 16, 9, 10
abbrev pub check_conditions : List ℕ → ℕ → List (Option Refused)
check_conditions s root = ask_conditions s root ++ limit_conditions (asked s root)

-- the refusal among them; none where the root is taken
unfoldable pub refusal_of : List ℕ → ℕ → Option Refused
refusal_of s root = first_of (check_conditions s root)

-- the last node, which the night run and solver text name
abbrev pub last_node : List ℕ → ℕ
last_node s = length (nodes_of s) - 1
