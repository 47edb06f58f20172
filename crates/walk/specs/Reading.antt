-- The positions of the nodes. Assumes nothing.
use Rattle.std.specs.Prelude.{◌≡◌, ℕ, ◌<◌, List, length, get_or}

-- positions as the code has them
abbrev pub positions_in : List ℕ → ℕ → ℕ
positions_in positions k = get_or positions k 0

-- each node has a position of its own
pub record InOrder (positions : List ℕ) : Type 0 where
  pub inside : (k : ℕ) → k < length positions → get_or positions k 0 < length positions
  pub apart : (j k : ℕ) → j < length positions → k < length positions → get_or positions j 0 ≡ get_or positions k 0 → j ≡ k
