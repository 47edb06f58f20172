-- An array of n numbers that a loop fills from the front, one store a turn or none. Assumes nothing.
use mathlib.Core.Path.{◌≡◌, refl, ◌∙◌}
use Prim.Native.Nat.{ℕ, zero, suc, ◌+◌, ◌≤◌, ◌<◌}
use native.Mathlib.Omega.{arith}
use mathlib.Core.List.{List}
use lib.ListN.{length, get_or, set, replicate, length-set}
use lib.Seq.{get_or-set_other}
use Rattle.theorems.proofs.Laws.Entries.{set_more}

-- the numbers before k are done, and those from k on are as they were at the start
pub record Filled (Done : ℕ → ℕ → Type 0) (start : ℕ → ℕ) (n k : ℕ) (xs : List ℕ) : Type 0 where
  pub long : length xs ≡ n
  pub done : (i : ℕ) → i < k → Done i (get_or xs i 0)
  pub rest : (i : ℕ) → k ≤ i → get_or xs i 0 ≡ start i

pub zeros : (n i : ℕ) → get_or {A = ℕ} (replicate n 0) i 0 ≡ 0
zeros zero i = refl
zeros (suc n) zero = refl
zeros (suc n) (suc i) = zeros n i

module _ (Done : ℕ → ℕ → Type 0) (start : ℕ → ℕ) (n : ℕ) (xs : List ℕ) where
  pub filled_none : length xs ≡ n → ((i : ℕ) → get_or xs i 0 ≡ start i) → Filled Done start n 0 xs
  filled_none l e = record { long = l; done = λ i h. absurd (omega arith); rest = λ i h. e i }

  module _ (k : ℕ) (h : k < n) (f : Filled Done start n k xs) where
    pub filled_set : (x : ℕ) → Done k x → Filled Done start n (k + 1) (set xs k x)
    filled_set x d =
        record {
          long = length-set xs k x ∙ f.long;
          done = set_more Done xs k x (let e = f.long in omega arith) f.done d;
          rest = λ i l. get_or-set_other xs k i x 0 (λ e. omega arith) ∙ f.rest i (omega arith);
        }
