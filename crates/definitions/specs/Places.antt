-- The assignments, in order (01, 'Ranges and order'). An assignment has a digit for each variable, then for each truth
-- variable; a variable's value is its digit plus 1, and a truth variable is true at digit 1. Assumes nothing.
use Rattle.std.specs.Prelude.{ℕ, zero, suc, pred, ◌+◌, List, [], ◌∷◌, Bool, true, false, get_or, length, replicate, ltb, eqb}
use Rattle.definitions.specs.Problem.Check.{nodes_of, functions_in}
use Rattle.definitions.specs.Logic.{Interpretation, Value, values, truth_at}
use Rattle.definitions.specs.Elimination.{eliminated, table_of, root_of}
use Rattle.definitions.specs.Ranges.{sizes_of}

-- the successor: the first digit moves fastest, and one that is at its top goes back to 0 and hands on
abbrev pub next : List ℕ → List ℕ → List ℕ
next [] ds = []
next (size ∷ sizes) [] = []
next (size ∷ sizes) (d ∷ ds) =
    elim (ltb (suc d) size) [ true ↦ suc d ∷ ds | false ↦ 0 ∷ next sizes ds ]

-- place 1 has all variables 1 and all truth variables false
abbrev pub first : List ℕ → List ℕ
first sizes = replicate (length sizes) 0

-- the digits p places after the first
abbrev pub digits_after : List ℕ → ℕ → List ℕ
digits_after sizes zero = first sizes
digits_after sizes (suc p) = next sizes (digits_after sizes p)

-- the digits at a place, from 1 on
abbrev pub digits_at : List ℕ → ℕ → List ℕ
digits_at sizes p = digits_after sizes (pred p)

-- the digits as an interpretation of the function-free table, whose variables are so many
abbrev pub assignment : ℕ → List ℕ → Interpretation
assignment variables ds =
    record {
      function = λ v args. suc (get_or ds v 0);
      predicate = λ v args. eqb (get_or ds (variables + v) 0) 1;
    }

-- the assignment of a problem at a place
abbrev pub assignment_at : List ℕ → ℕ → Interpretation
assignment_at s p = assignment (functions_in (nodes_of s)) (digits_at (sizes_of s) p)

-- the values of all function-free nodes at a place
unfoldable pub values_at : List ℕ → ℕ → List Value
values_at s p = values (assignment_at s p) [] (table_of s)

-- the formula is true at a place
unfoldable pub true_at : List ℕ → ℕ → Bool
true_at s p = truth_at (values_at s p) (root_of (eliminated s))
