-- Each byte is counted. Assumes nothing.
use Rattle.std.proofs.Common.{arith, take}
use Rattle.solve_lines.proofs.Counting.{count_feed, count_byte, count_all}
use Rattle.solve_lines.proofs.places.position_of.Goals as goal
use Rattle.solve_lines.proofs.places.position_of.Goals.{then-byte-eq10, else-byte-eq10}

pub loop-byte-preserved : goal.loop-byte-preserved
loop-byte-preserved c =
    elim c.if-byte-eq10.branch [
      | then-byte-eq10 w ↦ record {
        few_lines = omega arith;
        few_columns = omega arith;
        left = cc (count_feed (take c.min.result c.args.text.now) c.loop-byte.byte-index c.loop-byte.line c.loop-byte.column (omega arith) w.if-byte-eq10.true);
      }
      | else-byte-eq10 w ↦ record {
        few_lines = omega arith;
        few_columns = omega arith;
        left = cc (count_byte (take c.min.result c.args.text.now) c.loop-byte.byte-index c.loop-byte.line c.loop-byte.column (omega arith) w.if-byte-eq10.false);
      }
    ]

pub returns : goal.returns
returns c = count_all _ _ _ _ _ _ c.min.ensures (omega arith) c.loop-byte.invariant.left
