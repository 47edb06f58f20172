-- What `==` and the library's searches answer of names, in the words of the definitions. Assumes nothing.
use Rattle.std.proofs.Common.{◌≡◌, refl, ap, ◌∙◌, ℕ, suc, ◌+◌, Bool, true, false, not, ◌&&◌, ◌||◌, cond, List, [], ◌∷◌, Some, Option, add-one, is_some, position, bytes_eq}
use Rattle.std.specs.List.{position_from}
use Rattle.std.proofs.lemmas.Iterator.Adapters.{position_from-zero}
use lib.Pointwise.{pointwise}
use lib.Dec.{eqb}
use Rattle.std.proofs.Math.Option as maybe
use Rattle.definitions.specs.Lists.{any, first_failing}
use Rattle.definitions.specs.Text.Ascii.{same_bytes}
use Rattle.theorems.proofs.Laws.Tests.{eqb_swap}
use Rattle.problem.specs.Stages.{found_of}

-- two names are equal byte for byte
pub equal_same : (a b : List ℕ) → pointwise eqb a b ≡ same_bytes a b
equal_same [] [] = refl
equal_same [] (y ∷ ys) = refl
equal_same (x ∷ xs) [] = refl
equal_same (x ∷ xs) (y ∷ ys) = ap (λ (b : Bool). eqb x y && b) (equal_same xs ys)

pub same_swapped : (a b : List ℕ) → same_bytes a b ≡ same_bytes b a
same_swapped [] [] = refl
same_swapped [] (y ∷ ys) = refl
same_swapped (x ∷ xs) [] = refl
same_swapped (x ∷ xs) (y ∷ ys) = ap (λ (b : Bool). b && same_bytes xs ys) (eqb_swap x y) ∙ ap (λ (b : Bool). eqb y x && b) (same_swapped xs ys)

-- both ways
pub ruleset names = (equal_same, same_swapped)

pub equal_swapped : (a b : List ℕ) → pointwise eqb a b ≡ same_bytes b a
equal_swapped a b = equal_same a b ∙ same_swapped a b

-- the place of a name in a list of names
abbrev is_row : List ℕ → List ℕ → Bool
is_row name row = pointwise eqb row name

position_first : (name : List ℕ) (i : ℕ) (rows : List (List ℕ))
    → found_of (position_from (is_row name) i rows) ≡ first_failing (λ row. not (same_bytes name row)) i rows
position_first name i [] = refl
position_first name i (row ∷ rows) =
    ap (λ (b : Bool). found_of (cond b (Some i) (position_from (is_row name) (i + 1) rows))) (equal_swapped row name)
    ∙ go (same_bytes name row)
    (position_first name (i + 1) rows ∙ ap (λ (k : ℕ). first_failing (λ row. not (same_bytes name row)) k rows) (add-one i))
  where
    go : (b : Bool) → found_of (position_from (is_row name) (i + 1) rows) ≡ first_failing (λ row. not (same_bytes name row)) (suc i) rows
        → found_of (cond b (Some i) (position_from (is_row name) (i + 1) rows))
        ≡ elim (not b) as (λ _. maybe.Option ℕ) [ true ↦ first_failing (λ row. not (same_bytes name row)) (suc i) rows | false ↦ maybe.some i ]
    go true e = refl
    go false e = e

any_first : (name : List ℕ) (i : ℕ) (rows : List (List ℕ)) → is_some (position_from (is_row name) i rows) ≡ any (same_bytes name) rows
any_first name i [] = refl
any_first name i (row ∷ rows) =
    ap (λ (b : Bool). is_some (cond b (Some i) (position_from (is_row name) (i + 1) rows))) (equal_swapped row name)
    ∙ go (same_bytes name row) (any_first name (i + 1) rows)
  where
    go : (b : Bool) → is_some (position_from (is_row name) (i + 1) rows) ≡ any (same_bytes name) rows
        → is_some (cond b (Some i) (position_from (is_row name) (i + 1) rows)) ≡ (b || any (same_bytes name) rows)
    go true e = refl
    go false e = e

module _ (name : List ℕ) (rows : List (List ℕ)) (r : Option ℕ) (e : r ≡ position (λ row. bytes_eq row name) rows) where
  pub placed : found_of r ≡ first_failing (λ row. not (same_bytes name row)) 0 rows
  placed = ap found_of (e ∙ position_from-zero (is_row name) rows) ∙ position_first name 0 rows

  pub among : is_some r ≡ any (same_bytes name) rows
  among = ap is_some (e ∙ position_from-zero (is_row name) rows) ∙ any_first name 0 rows
