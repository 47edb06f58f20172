-- The pieces in the order in which the program writes them are the definition's lines. Assumes nothing.
use mathlib.Core.Path.{◌≡◌, ap, ◌∙◌}
use Prim.Native.Nat.{ℕ}
use mathlib.Core.Bool.{Bool}
use mathlib.Core.List.{List, ◌++◌}
use Rattle.definitions.specs.Witness.{Row}
use Rattle.definitions.specs.Solve.{name_at, is_barred, row_start, row_end, row_with, symbol_byte, row_line}
use Rattle.solve_lines.specs.Read.{WrittenAs}
use Rattle.solve_lines.specs.declared.names.Written.{Written}

-- a row: what comes before the name, the name from the text, and what comes after it
pub row_pieces : (text problem : List ℕ) (r : Row) (w : Written) → WrittenAs text (name_at text r.symbol) w
    → row_start w.barred ++ w.bytes.now ++ row_end w.barred (symbol_byte problem r.symbol) r ≡ row_line text problem r
unfolding row_line
row_pieces text problem r w a =
    let byte = symbol_byte problem r.symbol in
    ap (λ (b : Bool). row_with b w.bytes.now byte r) a.bars
    ∙ ap (λ (n : List ℕ). row_with (is_barred text (name_at text r.symbol)) n byte r) a.name
