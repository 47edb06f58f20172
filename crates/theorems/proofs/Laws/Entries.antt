-- The entries of a list that is filled from the front, one store at a time. Assumes nothing.
use mathlib.Core.Path.{sym, subst}
use Prim.Native.Nat.{ℕ, ◌+◌, ◌<◌}
use native.Mathlib.Omega.{arith}
use mathlib.Core.List.{List}
use borrow.Author.Count.{below_more}
use lib.ListN.{length, get_or, set}
use lib.Seq.{get_or-set_same, get_or-set_other}

-- what holds of each entry before k, and of what is stored at k, holds of each entry up to k
pub set_more : (P : ℕ → ℕ → Type 0) (xs : List ℕ) (k x : ℕ) → k < length xs → ((j : ℕ) → j < k → P j (get_or xs j 0)) → P k x
    → (j : ℕ) → j < k + 1 → P j (get_or (set xs k x) j 0)
set_more P xs k x h before here =
    below_more (λ j. P j (get_or (set xs k x) j 0)) k
    (λ j l. subst (P j) (sym (get_or-set_other xs k j x 0 (λ e. omega arith))) (before j l))
    (subst (P k) (sym (get_or-set_same xs k x 0 h)) here)
