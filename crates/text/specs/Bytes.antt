-- A row of bytes that grows up to a bound. Assumes nothing.
use Rattle.std.specs.Prelude.{◌≡◌, ℕ, ◌≤◌, Bool, true, false, List, length}
use Rattle.definitions.specs.Lists.{snoc}

-- a byte is put behind the others, or there is no room for it
pub record Pushes (most byte : ℕ) (bs : List ℕ) (pushed : Bool) (bs' : List ℕ) : Type 0 where
  pub few : length bs' ≤ most
  pub more : pushed ≡ true → bs' ≡ snoc bs byte
  pub full : pushed ≡ false → length bs ≡ most
  pub same : pushed ≡ false → bs' ≡ bs
