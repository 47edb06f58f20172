-- The witness: its bytes, a row for each distinct application in node order; and the tables that witness bytes stand for
-- (01, 'Witness'). Assumes nothing.
use Rattle.std.specs.Prelude.{ℕ, ◌+◌, ◌*◌, List, [], ◌∷◌, ◌++◌, map, reverse, Bool, true, false, ◌&&◌, get_or, length, eqb}
use Rattle.definitions.specs.Lists.{concat_map, below}
use Rattle.definitions.specs.Bytes.{EQW, two, byte_at}
use Rattle.definitions.specs.Problem.Check.{symbols_of}
use Rattle.definitions.specs.Logic.{Interpretation, Value, number, truth, value_at, number_at}
use Rattle.definitions.specs.Elimination.{App, images_of, eliminated}
use Rattle.definitions.specs.Places.{values_at}

-- a row: a symbol, three argument values, and the value there
pub record Row : Type 0 where
  pub symbol : ℕ
  pub x : ℕ
  pub y : ℕ
  pub z : ℕ
  pub value : ℕ

-- the row of a symbol at some arguments; an unused argument is 0
abbrev pub row_of : ℕ → List ℕ → ℕ → Row
row_of symbol xs value = record { symbol = symbol; x = get_or xs 0 0; y = get_or xs 1 0; z = get_or xs 2 0; value = value }

abbrev pub row_bytes : Row → List ℕ
row_bytes r = r.symbol ∷ r.x ∷ r.y ∷ r.z ∷ r.value ∷ []

-- the letters EQW, version 1 in two bytes, the row count, the rows
abbrev pub witness_bytes : List Row → List ℕ
witness_bytes rows = EQW ++ two 1 ++ (length rows ∷ []) ++ concat_map row_bytes rows

-- a value as a byte: a number, or 0 for false and 1 for true
abbrev pub byte_of : Value → ℕ
byte_of (number n) = n
byte_of (truth false) = 0
byte_of (truth true) = 1

-- the row of an application: the values of the images, of its arguments and of itself
abbrev pub app_row : List ℕ → List ℕ → List Value → App → Row
app_row symbols images vs app =
    row_of app.of.sym (map (number_at vs) (images_of symbols images app.of)) (byte_of (value_at vs app.image))

-- the rows of a problem at a place, in node order, and their bytes
unfoldable pub rows_at : List ℕ → ℕ → List Row
rows_at s p = map (app_row (symbols_of s) (eliminated s).images (values_at s p)) (reverse (eliminated s).apps)

unfoldable pub witness_at : List ℕ → ℕ → List ℕ
witness_at s p = witness_bytes (rows_at s p)

-- the rows that witness bytes list: the count is byte 5, and row k is the five bytes from 6 + 5 k on
abbrev pub row_at : List ℕ → ℕ → Row
row_at w i =
    record {
      symbol = byte_at w i;
      x = byte_at w (i + 1);
      y = byte_at w (i + 2);
      z = byte_at w (i + 3);
      value = byte_at w (i + 4);
    }

abbrev pub rows_in : List ℕ → List Row
rows_in w = map (λ k. row_at w (6 + 5 * k)) (below (byte_at w 5))

-- a row lists the value of a symbol at some arguments
abbrev pub lists : ℕ → List ℕ → Row → Bool
lists symbol xs r =
    eqb r.symbol symbol && eqb r.x (get_or xs 0 0) && eqb r.y (get_or xs 1 0) && eqb r.z (get_or xs 2 0)

-- the value that the first such row gives; what no row lists is 0
abbrev pub listed : ℕ → List ℕ → List Row → ℕ
listed symbol xs [] = 0
listed symbol xs (r ∷ rs) = elim (lists symbol xs r) [ true ↦ r.value | false ↦ listed symbol xs rs ]

-- the tables as an interpretation: 1 is true, and what no row lists is 0 or false
unfoldable pub tables : List Row → Interpretation
tables rows =
    record { function = λ f xs. listed f xs rows; predicate = λ f xs. eqb (listed f xs rows) 1 }

-- the interpretation that witness bytes stand for
unfoldable pub tables_of : List ℕ → Interpretation
tables_of w = tables (rows_in w)
