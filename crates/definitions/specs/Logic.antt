-- What a table of nodes means (01, 'The logic'; source document 003, section 2). An interpretation gives each function symbol
-- a total function on whole numbers and each predicate symbol a total truth-valued one; a symbol of arity 0 is a plain
-- variable or truth variable. The value of a node comes from the values of the nodes before it. The function-free table is
-- read the same way, with no symbol bytes: there every symbol has arity 0. Assumes nothing.
use Rattle.std.specs.Prelude.{ℕ, ◌-◌, ◌≡◌, List, [], map, Bool, true, false, not, ◌&&◌, ◌||◌, cond, get_or, length, eqb}
use Rattle.definitions.specs.Problem.Node.{Node, grown}
use Rattle.definitions.specs.Problem.Ops.{
  Op,
  apply,
  choose,
  equal,
  negate,
  both,
  either,
  test,
  verum,
  falsum,
  select,
  unknown,
  op_of,
  operands_of,
}
use Rattle.definitions.specs.Problem.Check.{symbols_of, nodes_of}

pub record Interpretation : Type 0 where
  pub function : ℕ → List ℕ → ℕ
  pub predicate : ℕ → List ℕ → Bool

-- a term's value is a number, a formula's a truth value
pub data Value : Type 0 where
  number : ℕ → Value
  truth : Bool → Value

-- what is read where the sort is wrong is 0, or false: no accepted problem does so
abbrev pub number_of : Value → ℕ
number_of (number n) = n
number_of (truth b) = 0

abbrev pub truth_of : Value → Bool
truth_of (number n) = false
truth_of (truth b) = b

-- the value of node k, read as a number and as a truth value
abbrev pub value_at : List Value → ℕ → Value
value_at vs k = get_or vs k (number 0)

abbrev pub number_at : List Value → ℕ → ℕ
number_at vs k = number_of (value_at vs k)

abbrev pub truth_at : List Value → ℕ → Bool
truth_at vs k = truth_of (value_at vs k)

-- the value of a node of an op, from the values vs of the nodes before it; xs are the values of its arguments
abbrev pub op_value : Interpretation → List Value → Op → Node → List ℕ → Value
op_value I vs apply n xs = number (I.function n.sym xs)
op_value I vs choose n xs = number (cond (truth_at vs n.a) (number_at vs n.b) (number_at vs n.c))
op_value I vs equal n xs = truth (eqb (number_at vs n.a) (number_at vs n.b))
op_value I vs negate n xs = truth (not (truth_at vs n.a))
op_value I vs both n xs = truth (truth_at vs n.a && truth_at vs n.b)
op_value I vs either n xs = truth (truth_at vs n.a || truth_at vs n.b)
op_value I vs test n xs = truth (I.predicate n.sym xs)
op_value I vs verum n xs = truth true
op_value I vs falsum n xs = truth false
op_value I vs select n xs = truth (cond (truth_at vs n.a) (truth_at vs n.b) (truth_at vs n.c))
op_value I vs unknown n xs = truth false

abbrev pub node_value : Interpretation → List ℕ → List Value → Node → Value
node_value I symbols vs n = op_value I vs (op_of n.op) n (map (number_at vs) (operands_of symbols n))

-- the values of all nodes of a table
abbrev pub values : Interpretation → List ℕ → List Node → List Value
values I symbols t = grown (node_value I symbols) [] t

-- the formula at a named root of a problem is true (02, E2)
unfoldable pub holds_at : Interpretation → List ℕ → ℕ → Bool
holds_at I s root = truth_at (values I (symbols_of s) (nodes_of s)) root

-- it is valid if true in every interpretation
unfoldable pub ValidAt : List ℕ → ℕ → Type 0
ValidAt s root = (I : Interpretation) → holds_at I s root ≡ true

-- the same of the last node, which is 01's formula of a problem
unfoldable pub holds : Interpretation → List ℕ → Bool
holds I s = truth_at (values I (symbols_of s) (nodes_of s)) (length (nodes_of s) - 1)

unfoldable pub Valid : List ℕ → Type 0
Valid s = (I : Interpretation) → holds I s ≡ true
