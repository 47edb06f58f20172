-- Function-free tables: what it is for one to be well formed, with so many variables and truth variables. Operands are earlier
-- nodes of the sorts asked, and variable numbers are below the counts. Assumes nothing.
use mathlib.Core.Path.{◌≡◌, subst}
use Prim.Native.Nat.{ℕ, ◌<◌}
use native.Mathlib.Omega.{arith}
use mathlib.Core.Bool.{Bool, true, ◌&&◌}
use mathlib.Core.List.{List, []}
use lib.ListN.{length, take}
use lib.Seq.{length-take-le}
use lib.Dec.{ltb}
use borrow.Author.Tests.{ltb-true}
use Rattle.definitions.specs.Problem.Node.{Node, node}
use Rattle.definitions.specs.Problem.Ops.{Op, apply, choose, equal, negate, both, either, test, verum, falsum, select, unknown, op_of, operand_sorts, fits, fields_of, operands_of}
use Rattle.definitions.specs.Logic.{Interpretation, value_at, node_value, values}
use Rattle.theorems.proofs.Laws.Tests.{and_left, and_right}
use Rattle.theorems.proofs.Laws.Ops.{AllBelow, fits_below}
use Rattle.theorems.proofs.Tables.Fixed.{value_fixed}

-- how many symbols a node of an op may name: the variables, the truth variables, and else 0 alone
abbrev pub names_of : ℕ → ℕ → Op → ℕ
names_of N P apply = N
names_of N P choose = 1
names_of N P equal = 1
names_of N P negate = 1
names_of N P both = 1
names_of N P either = 1
names_of N P test = P
names_of N P verum = 1
names_of N P falsum = 1
names_of N P select = 1
names_of N P unknown = 1

-- a node is right after the earlier nodes of a function-free table: every symbol has arity 0
abbrev pub free_right : ℕ → ℕ → List Node → Node → Bool
free_right N P earlier n =
    ltb n.sym (names_of N P (op_of n.op)) && fits earlier (operand_sorts (op_of n.op) 0) (fields_of n)

-- a function-free table of N variables and P truth variables
abbrev pub Free : ℕ → ℕ → List Node → Type 0
Free N P t = (k : ℕ) → k < length t → free_right N P (take k t) (node t k) ≡ true

module _ (N P : ℕ) (t : List Node) (free : Free N P t) (k : ℕ) (h : k < length t) where
  abbrev n : Node
  n = node t k

  pub free_named : n.sym < names_of N P (op_of n.op)
  free_named =
      ltb-true n.sym (names_of N P (op_of n.op))
      (and_left (ltb n.sym (names_of N P (op_of n.op))) (fits (take k t) (operand_sorts (op_of n.op) 0) (fields_of n)) (free k h))

  pub free_fits : fits (take k t) (operand_sorts (op_of n.op) 0) (fields_of n) ≡ true
  free_fits =
      and_right (ltb n.sym (names_of N P (op_of n.op))) (fits (take k t) (operand_sorts (op_of n.op) 0) (fields_of n)) (free k h)

  -- each node's value is its op applied to its operands' values
  pub free_fixed : (A : Interpretation) → value_at (values A [] t) k ≡ node_value A [] (values A [] t) n
  free_fixed A =
      value_fixed A [] t k h
      (subst (λ (m : ℕ). AllBelow m (operands_of [] n)) (length-take-le k t (omega arith))
      (fits_below (take k t) (operand_sorts (op_of n.op) 0) (fields_of n) free_fits))
