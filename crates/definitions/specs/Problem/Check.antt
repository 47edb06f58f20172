-- What stands in problem bytes, and what refuses a table: conditions 1 to 7, in the order tried (01, 'Refusal numbers'). Assumes
-- nothing.
use Rattle.std.specs.Prelude.{ℕ, suc, ◌+◌, ◌*◌, List, [], ◌∷◌, Bool, true, false, not, ◌&&◌, ◌||◌, length, take, drop, ltb, eqb}
use Rattle.std.proofs.Math.Option.{Option, none, some}
use Rattle.definitions.specs.Lists.{any, first_failing, first_of, snoc}
use Rattle.definitions.specs.Bytes.{byte_at, two_at, EQP}
use Rattle.definitions.specs.Problem.Node.{Node, same, nodes_at}
use Rattle.definitions.specs.Problem.Ops.{op_of, term, sort_of, same_sort, is_function, is_predicate, node_right}

-- what the header says: the count of symbols, the count of nodes
abbrev pub symbol_count : List ℕ → ℕ
symbol_count s = byte_at s 5

abbrev pub node_count : List ℕ → ℕ
node_count s = two_at s 6

-- the symbol bytes, and the nodes
abbrev pub symbols_of : List ℕ → List ℕ
symbols_of s = take (symbol_count s) (drop 8 s)

abbrev pub nodes_of : List ℕ → List Node
nodes_of s = nodes_at s (8 + symbol_count s) (node_count s)

-- these bytes stand from an offset on
abbrev pub stands : List ℕ → ℕ → List ℕ → Bool
stands s i [] = true
stands s i (x ∷ xs) = eqb (byte_at s i) x && stands s (suc i) xs

abbrev pub symbol_byte_right : ℕ → Bool
symbol_byte_right byte = is_function byte || is_predicate byte

-- the number of the first node that is not right after those before it
abbrev pub first_wrong : List ℕ → List Node → List Node → Option ℕ
first_wrong symbols earlier [] = none
first_wrong symbols earlier (n ∷ ns) =
    elim (node_right symbols earlier n) [
      | true ↦ first_wrong symbols (snoc earlier n) ns
      | false ↦ some (length earlier)
    ]

-- a node is a term; else it is a formula
abbrev pub is_term : Node → Bool
is_term n = same_sort (sort_of (op_of n.op)) term

-- the distinct applications of an op, in order: its nodes that repeat no earlier node
abbrev pub distinct : ℕ → List Node → List Node → List Node
distinct op earlier [] = []
distinct op earlier (n ∷ ns) =
    elim (eqb n.op op && not (any (same n) earlier)) [
      | true ↦ n ∷ distinct op (snoc earlier n) ns
      | false ↦ distinct op (snoc earlier n) ns
    ]

-- the counts of distinct function and predicate applications
abbrev pub functions_in : List Node → ℕ
functions_in t = length (distinct 0 [] t)

abbrev pub predicates_in : List Node → ℕ
predicates_in t = length (distinct 6 [] t)

-- a refusal is its number and its place
pub record Refused : Type 0 where
  pub number : ℕ
  pub place : ℕ

abbrev pub refuse : ℕ → ℕ → Refused
refuse number place = record { number = number; place = place }

-- what refuses with this number, at place 0, where a condition holds
abbrev pub refuse_if : Bool → ℕ → Option Refused
refuse_if true number = some (refuse number 0)
refuse_if false number = none

-- what refuses with this number, at the place found
abbrev pub refuse_at : Option ℕ → ℕ → Option Refused
refuse_at none number = none
refuse_at (some place) number = some (refuse number place)

-- conditions 1 to 7, over the whole table
abbrev pub layout_conditions : List ℕ → List (Option Refused)
layout_conditions s =
    refuse_if (ltb (length s) 8) 1
    ∷ refuse_if (not (stands s 0 EQP)) 2
    ∷ refuse_if (not (eqb (two_at s 3) 1)) 3
    ∷ refuse_if (ltb 32 (symbol_count s) || eqb (node_count s) 0 || ltb 256 (node_count s)) 4
    ∷ refuse_if (not (eqb (length s) (8 + symbol_count s + 8 * node_count s))) 5
    ∷ refuse_at (first_failing symbol_byte_right 0 (symbols_of s)) 6
    ∷ refuse_at (first_wrong (symbols_of s) [] (nodes_of s)) 7
    ∷ []

-- the refusal among them; none where the table is well formed
unfoldable pub layout_refusal : List ℕ → Option Refused
layout_refusal s = first_of (layout_conditions s)
