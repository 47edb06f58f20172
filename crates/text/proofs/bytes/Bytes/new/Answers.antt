-- No byte is in use. Assumes nothing.
use Rattle.std.proofs.Common.{arith}
use Rattle.terms.specs.Padded.{filled_none}
use Rattle.text.proofs.bytes.Bytes.new.Goals as goal

pub invariant_of-result : goal.invariant_of-result
invariant_of-result g c = (omega arith, filled_none 0 g.row.N)
