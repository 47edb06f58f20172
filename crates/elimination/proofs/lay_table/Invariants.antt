use Rattle.std.proofs.Common.{◌≡◌}
use Rattle.definitions.specs.Problem.Node.{table_bytes}
use Rattle.definitions.specs.Operations.Buffers.{over}
use Rattle.elimination.specs.State.{state_at, LaidAt}
use Rattle.elimination.proofs.lay_table.Given as goal

abbrev pub invariant-loop-k : goal.invariant-loop-k
invariant-loop-k l =
    record {
      laid : LaidAt l.problem l.k l.all;
      work_is : l.work ≡ over (table_bytes (state_at l.problem l.k).out) l.fn.work;
    }
