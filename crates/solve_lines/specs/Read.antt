-- What the library's answers stand for: a position, a row, a name as it is written, a budget. Assumes nothing.
use Rattle.std.specs.Prelude.{◌≡◌, ℕ, List, length, get_or, Option, None, Some}
use Rattle.std.proofs.Math.Option as definition
use Rattle.definitions.specs.Witness as witness
use Rattle.definitions.specs.Text.Tokens.{Placed, wrong}
use Rattle.definitions.specs.Text.Tokens as tokens
use Rattle.definitions.specs.Solve.{is_barred}
use Rattle.definitions.specs.Solve as solve
use Rattle.terms.specs.Lexing.{tokens_at}
use Rattle.solve_lines.specs.declared.places.Position.{Position}
use Rattle.solve_lines.specs.declared.rows.Row.{Row}
use Rattle.solve_lines.specs.declared.names.Written.{Written}

abbrev pub position_read : Position → solve.Position
position_read p = record { line = p.line; column = p.column }

abbrev pub row_read : Row → witness.Row
row_read r = record { symbol = r.symbol; x = r.x; y = r.y; z = r.z; value = r.value }

abbrev pub budget_read : Option ℕ → definition.Option ℕ
budget_read (Some n) = definition.some n
budget_read None = definition.none

-- the first token from an offset on; an empty one at the end of the text
abbrev pub first_at : List ℕ → ℕ → Placed
first_at text at = get_or (tokens_at text at) 0 (record { token = wrong; place = length text })

-- the bytes of a token's name, and whether there are bars
pub record WrittenAs (text : List ℕ) (p : Placed) (r : Written) : Type 0 where
  pub name : r.bytes.now ≡ tokens.name_of p.token
  pub bars : r.barred ≡ is_barred text p
