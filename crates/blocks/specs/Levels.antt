-- A node's level: the first slow digit that can move and that the node depends on. The digits are fast and slow ones, and a digit of
-- one value never moves. Assumes nothing.
use Rattle.std.specs.Prelude.{ℕ, zero, suc, Bool, true, false, ◌&&◌, not, List, get_or, ltb}
use Rattle.definitions.specs.Problem.Node.{Node}
use Rattle.blocks.specs.Sets.{depends}

-- the first number below n that passes a test, or n
abbrev pub first_of : (ℕ → Bool) → ℕ → ℕ
first_of f zero = 0
first_of f (suc n) = elim (f 0) as (λ _. ℕ) [ true ↦ 0 | false ↦ suc (first_of (λ j. f (suc j)) n) ]

-- digit v is slow, and has more than one value
abbrev pub moves : ℕ → List ℕ → ℕ → Bool
moves F sizes v = not (ltb v F) && ltb 1 (get_or sizes v 0)

-- 64 where the node depends on no such digit: there are at most 40
abbrev pub level_of : ℕ → ℕ → List ℕ → List Node → ℕ → ℕ
level_of N F sizes t k = first_of (λ v. depends N t k v && moves F sizes v) 64
