-- Leaves, links, components, and the range of each variable (01, 'Ranges and order'; source document 002, section 3.1, taken
-- per component). Assumes nothing.
use Rattle.std.specs.Prelude.{ℕ, zero, suc, ◌+◌, ◌-◌, List, [], ◌++◌, map, Bool, false, ◌&&◌, ◌||◌, cond, get_or, length, replicate, eqb}
use Rattle.definitions.specs.Lists.{any, below, product_of}
use Rattle.definitions.specs.Problem.Node.{Node, grown}
use Rattle.definitions.specs.Problem.Ops.{Op, apply, choose, equal, negate, both, either, test, verum, falsum, select, unknown, op_of}
use Rattle.definitions.specs.Problem.Check.{nodes_of, functions_in, predicates_in}
use Rattle.definitions.specs.Elimination.{table_of}

-- a set of variables, by its test
abbrev pub Variables : Type 0
Variables = ℕ → Bool

abbrev pub no_variable : Variables
no_variable v = false

-- the leaves of a variable node are itself, of a term choice those of its second and third operands; ls are the leaves of the
-- nodes before
abbrev pub op_leaves : List Variables → Op → Node → Variables
op_leaves ls apply n v = eqb n.sym v
op_leaves ls choose n v = get_or ls n.b no_variable v || get_or ls n.c no_variable v
op_leaves ls equal n v = false
op_leaves ls negate n v = false
op_leaves ls both n v = false
op_leaves ls either n v = false
op_leaves ls test n v = false
op_leaves ls verum n v = false
op_leaves ls falsum n v = false
op_leaves ls select n v = false
op_leaves ls unknown n v = false

abbrev pub node_leaves : List Variables → Node → Variables
node_leaves ls n = op_leaves ls (op_of n.op) n

-- variable v is a leaf of node k of the table
abbrev pub leaf : List Node → ℕ → Variables
leaf t k = get_or (grown node_leaves [] t) k no_variable

-- an equation links every left leaf with every right leaf
abbrev pub links : List Node → ℕ → ℕ → Node → Bool
links t u v n = eqb n.op 2 && (leaf t n.a u && leaf t n.b v || leaf t n.a v && leaf t n.b u)

abbrev pub linked : List Node → ℕ → ℕ → Bool
linked t u v = any (links t u v) t

-- u and v are joined by a chain of links whose inner variables are all below k
abbrev pub chained : (ℕ → ℕ → Bool) → ℕ → ℕ → ℕ → Bool
chained link zero u v = eqb u v || link u v
chained link (suc k) u v = chained link k u v || chained link k u k && chained link k k v

-- the components of a table of so many variables are the classes that the links join
abbrev pub joined : List Node → ℕ → ℕ → ℕ → Bool
joined t count = chained (linked t) count

-- how many of 0, 1, .., n - 1 are in a set
abbrev pub how_many : Variables → ℕ → ℕ
how_many f zero = 0
how_many f (suc n) = cond (f n) 1 0 + how_many f n

-- the rank of a variable: its position in its component, by number, from 1
abbrev pub rank : (ℕ → ℕ → Bool) → ℕ → ℕ
rank same v = suc (how_many (same v) v)

-- the tops of the variables, by number: a variable that is r-th in its component ranges over 1 to r
unfoldable pub tops : List Node → ℕ → List ℕ
tops t count = map (rank (joined t count)) (below count)

-- the sizes of all ranges: each variable's top, then 2 for each truth variable
abbrev pub sizes : List ℕ → ℕ → List ℕ
sizes ts truths = ts ++ replicate truths 2

-- the tops of a problem's variables, the sizes of all its ranges, and their product
unfoldable pub tops_of : List ℕ → List ℕ
tops_of s = tops (table_of s) (functions_in (nodes_of s))

unfoldable pub sizes_of : List ℕ → List ℕ
sizes_of s = sizes (tops_of s) (predicates_in (nodes_of s))

unfoldable pub product : List ℕ → ℕ
product s = product_of (sizes_of s)

-- the ranges answer lists 24 tops, 0 past the last variable
abbrev pub padded : List ℕ → List ℕ
padded ts = ts ++ replicate (24 - length ts) 0
