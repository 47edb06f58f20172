-- The law of kept values (02, E7): after every step the kept values equal values worked out afresh. A block is the places that share
-- the slow digits; lane l of block q is place q * W + l + 1, W being the assignments of the fast digits. Assumes nothing.
use Rattle.std.specs.Prelude.{◌≡◌, ℕ, ◌+◌, ◌<◌, List, ◌++◌}
use Rattle.definitions.specs.Lists.{product_of}
use Rattle.definitions.specs.Places.{digits_after}
use Rattle.ranges.specs.declared.Shape.{Shape}
use Rattle.walk.specs.Cells.{cell}
use Rattle.walk.specs.Digits.{value_in}

-- the digits of a lane of a block
abbrev pub lane_digits : List ℕ → List ℕ → ℕ → ℕ → List ℕ
lane_digits fast slow q l = digits_after fast l ++ digits_after slow q

-- node k, at its position, has in every lane of block q the value that the definition gives it there
abbrev pub FreshAt : List ℕ → Shape → ℕ → (ℕ → ℕ) → List ℕ → List ℕ → ℕ → List ℕ → ℕ → Type 0
FreshAt table s S pos fast slow q cells k =
    (l : ℕ) → l < product_of fast → cell S cells (42 + pos k) l ≡ value_in table s (lane_digits fast slow q l) k

-- every node has
pub record KeptFresh (table : List ℕ) (s : Shape) (S : ℕ) (pos : ℕ → ℕ) (fast slow : List ℕ) (q : ℕ) (cells : List ℕ) : Type 0 where
  pub fresh : (k : ℕ) → k < s.nodes → FreshAt table s S pos fast slow q cells k

-- every node has that stands before a position
pub record FreshBefore (table : List ℕ) (s : Shape) (S : ℕ) (pos : ℕ → ℕ) (fast slow : List ℕ) (q from : ℕ) (cells : List ℕ) : Type 0 where
  pub fresh : (k : ℕ) → k < s.nodes → pos k < from → FreshAt table s S pos fast slow q cells k
