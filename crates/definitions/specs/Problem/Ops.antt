-- The ops, with the operands and the sort of each: the table of nodes (01, 'Problem bytes'). Assumes nothing.
use Rattle.std.specs.Prelude.{ℕ, ◌%◌, List, [], ◌∷◌, Bool, true, false, ◌&&◌, get_or, length, take, replicate, eqb, leb, ltb}
use Rattle.std.proofs.Math.Option.{Option, none, some}
use Rattle.definitions.specs.Lists.{all}
use Rattle.definitions.specs.Problem.Node.{Node, node}

-- ops 0 to 9 in order: function application, choice of terms, equation, not, and, or, predicate application, true, false,
-- choice of formulas; and any other number
pub data Op : Type 0 where
  apply choose equal negate both either test verum falsum select unknown : Op

abbrev pub op_of : ℕ → Op
op_of n =
    get_or (apply ∷ choose ∷ equal ∷ negate ∷ both ∷ either ∷ test ∷ verum ∷ falsum ∷ select ∷ []) n unknown

pub data Sort : Type 0 where
  term formula : Sort

abbrev pub same_sort : Sort → Sort → Bool
same_sort term term = true
same_sort term formula = false
same_sort formula term = false
same_sort formula formula = true

-- the sort of a node of an op
abbrev pub sort_of : Op → Sort
sort_of apply = term
sort_of choose = term
sort_of equal = formula
sort_of negate = formula
sort_of both = formula
sort_of either = formula
sort_of test = formula
sort_of verum = formula
sort_of falsum = formula
sort_of select = formula
sort_of unknown = formula

-- the sorts of an op's operands; those of an application are as many terms as its arity
abbrev pub operand_sorts : Op → ℕ → Option (List Sort)
operand_sorts apply n = some (replicate n term)
operand_sorts choose n = some (formula ∷ term ∷ term ∷ [])
operand_sorts equal n = some (term ∷ term ∷ [])
operand_sorts negate n = some (formula ∷ [])
operand_sorts both n = some (formula ∷ formula ∷ [])
operand_sorts either n = some (formula ∷ formula ∷ [])
operand_sorts test n = some (replicate n term)
operand_sorts verum n = some []
operand_sorts falsum n = some []
operand_sorts select n = some (formula ∷ formula ∷ formula ∷ [])
operand_sorts unknown n = none

-- a symbol byte is the arity of a function, 0 to 3, or 16 more than that of a predicate
abbrev pub is_function : ℕ → Bool
is_function byte = ltb byte 4

abbrev pub is_predicate : ℕ → Bool
is_predicate byte = leb 16 byte && ltb byte 20

-- the arity of symbol k
abbrev pub arity : List ℕ → ℕ → ℕ
arity symbols k = get_or symbols k 0 % 16

-- the symbol field of a node is right: a known symbol of the op's kind, and 0 where the op has none
abbrev pub symbol_right : List ℕ → Op → ℕ → Bool
symbol_right symbols apply k = ltb k (length symbols) && is_function (get_or symbols k 0)
symbol_right symbols choose k = eqb k 0
symbol_right symbols equal k = eqb k 0
symbol_right symbols negate k = eqb k 0
symbol_right symbols both k = eqb k 0
symbol_right symbols either k = eqb k 0
symbol_right symbols test k = ltb k (length symbols) && is_predicate (get_or symbols k 0)
symbol_right symbols verum k = eqb k 0
symbol_right symbols falsum k = eqb k 0
symbol_right symbols select k = eqb k 0
symbol_right symbols unknown k = false

-- the sorts of a node's operands, with these symbol bytes
abbrev pub sorts_of : List ℕ → Node → Option (List Sort)
sorts_of symbols n = operand_sorts (op_of n.op) (arity symbols n.sym)

abbrev pub count_of : Option (List Sort) → ℕ
count_of none = 0
count_of (some ss) = length ss

-- the three operand fields of a node, and those that are in use
abbrev pub fields_of : Node → List ℕ
fields_of n = n.a ∷ n.b ∷ n.c ∷ []

abbrev pub operands_of : List ℕ → Node → List ℕ
operands_of symbols n = take (count_of (sorts_of symbols n)) (fields_of n)

-- the operands have these sorts, each the number of an earlier node, and the others are 0
abbrev pub operands_right : List Node → List Sort → List ℕ → Bool
operands_right earlier [] ks = all (eqb 0) ks
operands_right earlier (s ∷ ss) [] = false
operands_right earlier (s ∷ ss) (k ∷ ks) =
    ltb k (length earlier) && same_sort (sort_of (op_of (node earlier k).op)) s && operands_right earlier ss ks

abbrev pub fits : List Node → Option (List Sort) → List ℕ → Bool
fits earlier none ks = false
fits earlier (some ss) ks = operands_right earlier ss ks

-- a node is right after the earlier nodes, with these symbol bytes
abbrev pub node_right : List ℕ → List Node → Node → Bool
node_right symbols earlier n =
    symbol_right symbols (op_of n.op) n.sym && fits earlier (sorts_of symbols n) (fields_of n)

-- an application of a function or a predicate
abbrev pub is_app : Op → Bool
is_app apply = true
is_app choose = false
is_app equal = false
is_app negate = false
is_app both = false
is_app either = false
is_app test = true
is_app verum = false
is_app falsum = false
is_app select = false
is_app unknown = false
