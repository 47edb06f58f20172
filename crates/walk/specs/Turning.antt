-- What holds of the digits of an odometer, whatever it is used for. Assumes nothing.
use Rattle.std.specs.Prelude.{◌≡◌, ℕ, ◌≤◌, ◌<◌, List, length, get_or}

-- the digits in use are below their sizes, and those past the last are 0
pub record Turning (digits sizes : List ℕ) (count : ℕ) : Type 0 where
  pub digits_long : length digits ≡ 40
  pub sizes_long : length sizes ≡ 40
  pub few : count ≤ 40
  pub sizes_small : (j : ℕ) → get_or sizes j 0 < 256
  pub within : (j : ℕ) → j < count → get_or digits j 0 < get_or sizes j 0
  pub past : (j : ℕ) → count ≤ j → get_or digits j 0 ≡ 0
