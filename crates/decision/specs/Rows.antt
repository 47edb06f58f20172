-- The witness as the code writes it, row by row, against the definition's rows at a place. Assumes nothing.
use Rattle.std.specs.Prelude.{◌≡◌, ◌<◌, ℕ, List, [], ◌∷◌, ◌++◌, map, length, get_or, take}
use Rattle.definitions.specs.Bytes.{EQW, two}
use Rattle.definitions.specs.Problem.Node.{node}
use Rattle.definitions.specs.Problem.Check.{node_count, nodes_of}
use Rattle.definitions.specs.Places.{values_at}
use Rattle.definitions.specs.Witness.{Row, byte_of, row_bytes, rows_at, witness_at}
use Rattle.definitions.specs.Operations.Buffers.{over}
use Rattle.elimination.specs.State.{state_at, app_at, noted}
use Rattle.elimination.specs.declared.laid.Laid.{Laid}

abbrev pub row_of5 : ℕ → ℕ → ℕ → ℕ → ℕ → Row
row_of5 symbol x y z value = record { symbol = symbol; x = x; y = y; z = z; value = value }

abbrev pub no_row : Row
no_row = row_of5 0 0 0 0 0

-- the mark, the version, the row count
abbrev pub head_bytes : ℕ → List ℕ
head_bytes rows = EQW ++ two 1 ++ (rows ∷ [])

-- what the rows read of an elimination: the images, and where the distinct applications stand. The applications' own variables are not
-- among it
pub record Noted (s : List ℕ) (l : Laid) : Type 0 where
  pub images_are : take (node_count s) l.images ≡ (state_at s (node_count s)).images
  pub count_is : l.count ≡ length (state_at s (node_count s)).apps
  pub nodes_are : l.nodes ≡ length (state_at s (node_count s)).out
  pub app_before : (i : ℕ) → i < l.count → (noted l i).node < node_count s
  pub app_of : (i : ℕ) → i < l.count → node (nodes_of s) (noted l i).node ≡ (app_at s (node_count s) i).of
  pub app_image : (i : ℕ) → i < l.count → get_or l.images (noted l i).node 0 ≡ (app_at s (node_count s) i).image

-- these bytes are the values of the problem's function-free table at a place
abbrev pub ValuesOf : List ℕ → ℕ → List ℕ → Type 0
ValuesOf s p vals = take (length (values_at s p)) vals ≡ map byte_of (values_at s p)

-- the bytes of row i of the place whose values these are
abbrev pub RowOf : List ℕ → ℕ → List ℕ → List ℕ → Type 0
RowOf s i vals row = (p : ℕ) → ValuesOf s p vals → row ≡ row_bytes (get_or (rows_at s p) i no_row)

-- the witness of the place whose values these are stands at the start, and the rest is as it was
abbrev pub WitnessWritten : List ℕ → List ℕ → List ℕ → ℕ → List ℕ → Type 0
WitnessWritten s vals before written after =
    (p : ℕ) → ValuesOf s p vals → (after ≡ over (witness_at s p) before) × (written ≡ length (witness_at s p))
