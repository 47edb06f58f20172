use Rattle.std.proofs.Common.{◌≡◌, ◌+◌, ◌≤◌, drop}
use Rattle.definitions.specs.Solve.{position, after_bytes}
use Rattle.solve_lines.proofs.places.position_of.Given as goal

abbrev pub invariant-loop-byte : goal.invariant-loop-byte
invariant-loop-byte l = record {
  few_lines : l.line ≤ l.byte-index + 1;
  few_columns : l.column ≤ l.byte-index + 1;
  left : after_bytes (position l.line l.column) (drop l.byte-index l.before) ≡ after_bytes (position 1 1) l.before;
}
