-- A worked table: u = v and v = w, with sizes 2, 2, 3 and the first digit fast. Assumes nothing.
use mathlib.Core.Path.{◌≡◌, refl}
use Prim.Native.Nat.{ℕ}
use mathlib.Core.Bool.{true, false}
use mathlib.Core.List.{List, [], ◌∷◌, map}
use Rattle.definitions.specs.Lists.{below}
use Rattle.definitions.specs.Problem.Node.{Node, plain}
use Rattle.definitions.specs.Places.{digits_after}
use Rattle.blocks.specs.Sets.{depends}
use Rattle.blocks.specs.Levels.{level_of}
use Rattle.blocks.specs.Order.{pos_of, start_of}
use Rattle.blocks.specs.Moves.{turning}

abbrev variable : ℕ → Node
variable v = record { op = 0; sym = v; a = 0; b = 0; c = 0 }

-- u, v, u = v, w, v = w, both
abbrev table : List Node
table = variable 0 ∷ variable 1 ∷ plain 2 0 1 0 ∷ variable 2 ∷ plain 2 1 3 0 ∷ plain 4 2 4 0 ∷ []

-- digit 0, u's, is fast; digits 1 and 2 are slow
abbrev level : ℕ → ℕ
level = level_of 3 1 (2 ∷ 2 ∷ 3 ∷ []) table

-- u depends on no slow digit, w on the second slow one alone
levels_are : map level (below 6) ≡ 64 ∷ 1 ∷ 1 ∷ 2 ∷ 1 ∷ 1 ∷ []
levels_are = refl

positions_are : map (pos_of level 6) (below 6) ≡ 0 ∷ 2 ∷ 3 ∷ 1 ∷ 4 ∷ 5 ∷ []
positions_are = refl

-- digit 1 turns: all but u and w; digit 2 turns, and digit 1 goes back: all but u
starts_are : (start_of level 6 1 ≡ 2) × (start_of level 6 2 ≡ 1)
starts_are = (refl, refl)

-- from slow digits 0, 0 the first turns; from 1, 0 it goes back and the second turns; at 1, 2 none is left
turnings_are : map (λ q. turning (2 ∷ 3 ∷ []) (digits_after (2 ∷ 3 ∷ []) q)) (below 6) ≡ 0 ∷ 1 ∷ 0 ∷ 1 ∷ 0 ∷ 2 ∷ []
turnings_are = refl

set_of_last : map (depends 3 table 4) (below 3) ≡ false ∷ true ∷ true ∷ []
set_of_last = refl
