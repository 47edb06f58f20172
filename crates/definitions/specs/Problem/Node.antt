-- A node and its eight bytes: op, symbol, three operands of two bytes (01, 'Problem bytes'). The function-free table has the
-- same layout. Assumes nothing.
use Rattle.std.specs.Prelude.{ℕ, zero, suc, ◌+◌, List, [], ◌∷◌, ◌++◌, Bool, ◌&&◌, length, get_or, eqb}
use Rattle.definitions.specs.Lists.{snoc, concat_map}
use Rattle.definitions.specs.Bytes.{byte_at, two_at, two, EQP}

pub record Node : Type 0 where
  pub op : ℕ
  pub sym : ℕ
  pub a : ℕ
  pub b : ℕ
  pub c : ℕ

-- a node of an op with no symbol
abbrev pub plain : ℕ → ℕ → ℕ → ℕ → Node
plain op a b c = record { op = op; sym = 0; a = a; b = b; c = c }

abbrev pub no_node : Node
no_node = plain 0 0 0 0

-- node k of a table; past the end, a node of zeros
abbrev pub node : List Node → ℕ → Node
node t k = get_or t k no_node

-- the same op, symbol and operand numbers
abbrev pub same : Node → Node → Bool
same m n =
    eqb m.op n.op && eqb m.sym n.sym && eqb m.a n.a && eqb m.b n.b && eqb m.c n.c

-- the node whose eight bytes stand at an offset
abbrev pub node_at : List ℕ → ℕ → Node
node_at s i =
    record { op = byte_at s i; sym = byte_at s (i + 1); a = two_at s (i + 2); b = two_at s (i + 4); c = two_at s (i + 6) }

-- the n nodes that stand one after the other from an offset on
abbrev pub nodes_at : List ℕ → ℕ → ℕ → List Node
nodes_at s i zero = []
nodes_at s i (suc n) = node_at s i ∷ nodes_at s (i + 8) n

-- the eight bytes of a node
abbrev pub node_bytes : Node → List ℕ
node_bytes n = n.op ∷ n.sym ∷ two n.a ++ two n.b ++ two n.c

-- the bytes of a table
abbrev pub table_bytes : List Node → List ℕ
table_bytes t = concat_map node_bytes t

-- the bytes of a problem: the mark, version 1, the two counts, the symbol bytes, the nodes
abbrev pub problem_bytes : List ℕ → List Node → List ℕ
problem_bytes symbols t = EQP ++ two 1 ++ (length symbols ∷ []) ++ two (length t) ++ symbols ++ table_bytes t

-- a thing for each node of a table, in order after those in hand; each comes from the things of the nodes before it
abbrev pub grown : {X : Type 0} → (List X → Node → X) → List X → List Node → List X
grown f xs [] = xs
grown f xs (n ∷ t) = grown f (snoc xs (f xs n)) t
