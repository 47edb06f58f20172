-- The digits' cells laid for the first block. Assumes nothing.
use Rattle.std.specs.Prelude.{◌≡◌, ℕ, ◌+◌, ◌*◌, ◌/◌, ◌%◌, ◌<◌, List, length, get_or}
use Rattle.walk.specs.Cells.{Constant, FastHeld}

-- a digit that goes on by one after each run of lanes, in the lanes from an offset on; what stands before is as it was
pub record DigitLaid (at lanes run size least : ℕ) (before after : List ℕ) : Type 0 where
  pub inside : (l : ℕ) → l < lanes → get_or after (at + l) 0 ≡ l / run % size + least
  pub outside : (i : ℕ) → i < at → get_or after i 0 ≡ get_or before i 0

-- the first k fast digits in their lanes; the cells of false and true are as they were
pub record FastLaid (S N : ℕ) (fast : List ℕ) (k : ℕ) (before after : List ℕ) : Type 0 where
  pub laid : (v : ℕ) → v < k → FastHeld S N fast v after
  pub outside : (i : ℕ) → i < S * 2 → get_or after i 0 ≡ get_or before i 0

-- false, true and the fast digits
pub record LanesReady (S N : ℕ) (fast cells : List ℕ) : Type 0 where
  pub constant : Constant S cells
  pub fast_held : (v : ℕ) → v < length fast → FastHeld S N fast v cells
