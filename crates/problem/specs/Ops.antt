-- The ops that the code names: what each is, and its number. Assumes nothing.
use Rattle.std.specs.Prelude.{ℕ}
use Rattle.definitions.specs.Problem.Ops as ops
use Rattle.problem.specs.declared.ops.Op.{Op}
use Rattle.problem.specs.declared.ops.Op.TheVariants.{
  Apply,
  Choose,
  Equal,
  Negate,
  Both,
  Either,
  Test,
  Verum,
  Falsum,
  Select,
  Unknown,
}

abbrev pub op_read : Op → ops.Op
op_read Apply = ops.apply
op_read Choose = ops.choose
op_read Equal = ops.equal
op_read Negate = ops.negate
op_read Both = ops.both
op_read Either = ops.either
op_read Test = ops.test
op_read Verum = ops.verum
op_read Falsum = ops.falsum
op_read Select = ops.select
op_read Unknown = ops.unknown

abbrev pub byte_of : Op → ℕ
byte_of Apply = 0
byte_of Choose = 1
byte_of Equal = 2
byte_of Negate = 3
byte_of Both = 4
byte_of Either = 5
byte_of Test = 6
byte_of Verum = 7
byte_of Falsum = 8
byte_of Select = 9
byte_of Unknown = 10
