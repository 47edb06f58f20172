-- Which digits a step moves (01, 'the assignment hands on its successor'; 02, E7): those before the first that is not at its top go
-- back to 0, that one turns, and those after it stay. Assumes nothing.
use Rattle.std.specs.Prelude.{ℕ, suc, Bool, true, false, List, [], ◌∷◌, ltb}

-- the first digit that is not at its top, or as many as there are
abbrev pub turning : List ℕ → List ℕ → ℕ
turning [] ds = 0
turning (s ∷ ss) [] = 0
turning (s ∷ ss) (d ∷ ds) = elim (ltb (suc d) s) [ true ↦ 0 | false ↦ suc (turning ss ds) ]

-- every digit is at its top
abbrev pub topped : List ℕ → List ℕ → Bool
topped [] ds = true
topped (s ∷ ss) [] = true
topped (s ∷ ss) (d ∷ ds) = elim (ltb (suc d) s) [ true ↦ false | false ↦ topped ss ds ]
