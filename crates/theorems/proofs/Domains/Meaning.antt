-- What a table of nodes means over any domain with a test of equality: Logic, with the domain's elements in place of the whole
-- numbers. Assumes nothing.
use Prim.Native.Nat.{ℕ, ◌-◌}
use mathlib.Core.Path.{◌≡◌}
use mathlib.Core.List.{List, [], map}
use mathlib.Core.Bool.{Bool, true, false, not, ◌&&◌, ◌||◌, cond}
use mathlib.Core.Logic.{◌↔◌}
use lib.ListN.{get_or, length}
use lib.Dec.{eqb}
use borrow.Author.Tests.{eq-eqb, eqb-true}
use Rattle.definitions.specs.Problem.Node.{Node, grown}
use Rattle.definitions.specs.Problem.Ops.{
  Op,
  apply,
  choose,
  equal,
  negate,
  both,
  either,
  test,
  verum,
  falsum,
  select,
  unknown,
  op_of,
  operands_of,
}
use Rattle.definitions.specs.Problem.Check.{symbols_of, nodes_of}

-- a domain: its elements, one of them (it is not empty), and an exact test of equality
pub record Domain : Type 1 where
  pub carrier : Type 0
  pub one : carrier
  pub same : carrier → carrier → Bool
  pub exact : (x y : carrier) → (same x y ≡ true) ↔ (x ≡ y)

pub record InterpretationOver (D : Domain) : Type 0 where
  pub function : ℕ → List D.carrier → D.carrier
  pub predicate : ℕ → List D.carrier → Bool

-- a term's value is an element, a formula's a truth value
pub data ValueOver (D : Domain) : Type 0 where
  element : D.carrier → ValueOver D
  truth : Bool → ValueOver D

module _ {D : Domain} where
  -- what is read where the sort is wrong is the domain's one element, or false
  abbrev pub element_of : ValueOver D → D.carrier
  element_of (element d) = d
  element_of (truth b) = D.one

  abbrev pub truth_of : ValueOver D → Bool
  truth_of (element d) = false
  truth_of (truth b) = b

  -- the value of node k, read as an element and as a truth value
  abbrev pub value_at : List (ValueOver D) → ℕ → ValueOver D
  value_at vs k = get_or vs k (element D.one)

  abbrev pub element_at : List (ValueOver D) → ℕ → D.carrier
  element_at vs k = element_of (value_at vs k)

  abbrev pub truth_at : List (ValueOver D) → ℕ → Bool
  truth_at vs k = truth_of (value_at vs k)

  -- the value of a node of an op, from the values vs of the nodes before it; xs are the values of its arguments
  abbrev pub op_value : InterpretationOver D → List (ValueOver D) → Op → Node → List D.carrier → ValueOver D
  op_value J vs apply n xs = element (J.function n.sym xs)
  op_value J vs choose n xs = element (cond (truth_at vs n.a) (element_at vs n.b) (element_at vs n.c))
  op_value J vs equal n xs = truth (D.same (element_at vs n.a) (element_at vs n.b))
  op_value J vs negate n xs = truth (not (truth_at vs n.a))
  op_value J vs both n xs = truth (truth_at vs n.a && truth_at vs n.b)
  op_value J vs either n xs = truth (truth_at vs n.a || truth_at vs n.b)
  op_value J vs test n xs = truth (J.predicate n.sym xs)
  op_value J vs verum n xs = truth true
  op_value J vs falsum n xs = truth false
  op_value J vs select n xs = truth (cond (truth_at vs n.a) (truth_at vs n.b) (truth_at vs n.c))
  op_value J vs unknown n xs = truth false

  abbrev pub node_value : InterpretationOver D → List ℕ → List (ValueOver D) → Node → ValueOver D
  node_value J symbols vs n = op_value J vs (op_of n.op) n (map (element_at vs) (operands_of symbols n))

  -- the values of all nodes of a table
  abbrev pub values : InterpretationOver D → List ℕ → List Node → List (ValueOver D)
  values J symbols t = grown (node_value J symbols) [] t

-- the formula of a problem, its last node, is true
unfoldable pub holds_over : (D : Domain) → InterpretationOver D → List ℕ → Bool
holds_over D J s = truth_at (values J (symbols_of s) (nodes_of s)) (length (nodes_of s) - 1)

-- a formula is valid over a domain if true in every interpretation over it
unfoldable pub ValidOver : Domain → List ℕ → Type 0
ValidOver D s = (J : InterpretationOver D) → holds_over D J s ≡ true

-- the domain of Logic
abbrev pub whole_numbers : Domain
whole_numbers = record { carrier = ℕ; one = 0; same = eqb; exact = λ x y. (eqb-true x y, eq-eqb x y) }
