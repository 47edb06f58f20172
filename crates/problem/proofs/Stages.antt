-- What refuses a table, by how far the conditions have been tried: the first that holds. Conditions are counted from 0, and condition k
-- refuses with number k + 1. Assumes nothing.
use mathlib.Core.Path.{◌≡◌, sym, ap, ◌∙◌}
use Prim.Native.Nat.{ℕ, zero, suc}
use mathlib.Core.Bool.{Bool, true, false}
use mathlib.Core.List.{List, [], ◌∷◌}
use mathlib.Core.Option.{Option, none, some}
use lib.ListN.{get_or, take}
use Rattle.definitions.specs.Problem.Check.{Refused, refuse, refuse_if, refuse_at, layout_conditions, layout_refusal}
use Rattle.theorems.proofs.Laws.First.{AllNone, first_at_lem}
use Rattle.std.specs.Prelude as std
use Rattle.problem.specs.Stages.{found_of, Passed}

-- the first that holds refuses with this number and place
abbrev pub First : List ℕ → ℕ → ℕ → Type 0
First s number place = layout_refusal s ≡ some (refuse number place)

module _ {A : Type 0} where
  one_more_lem : (xs : List (Option A)) (k : ℕ) → AllNone (take k xs) → get_or xs k none ≡ none → AllNone (take (suc k) xs)
  one_more_lem [] k p e = tt
  one_more_lem (y ∷ ys) zero p e = (e, tt)
  one_more_lem (y ∷ ys) (suc k) p e = (p.0, one_more_lem ys k p.1 e)

module _ (s : List ℕ) where
  -- where the first k conditions do not hold and condition k does, it refuses
  refused_at : (k : ℕ) (r : Refused) → Passed k s → get_or (layout_conditions s) k none ≡ some r → layout_refusal s ≡ some r
  unfolding layout_refusal
  refused_at k r p e = first_at_lem (layout_conditions s) k r p e

  passed_next : (k : ℕ) → Passed k s → get_or (layout_conditions s) k none ≡ none → Passed (suc k) s
  passed_next k p e = one_more_lem (layout_conditions s) k p e

-- condition k is a test
module _
    (s : List ℕ) (k : ℕ) (test : Bool)
    (is : get_or (layout_conditions s) k none ≡ refuse_if test (suc k)) (p : Passed k s) where
  pub refused_if : test ≡ true → First s (suc k) 0
  refused_if e = refused_at s k (refuse (suc k) 0) p (is ∙ ap (λ (b : Bool). refuse_if b (suc k)) e)

  pub passed_if : test ≡ false → Passed (suc k) s
  passed_if e = passed_next s k p (is ∙ ap (λ (b : Bool). refuse_if b (suc k)) e)

-- condition k is a search, which has been made
module _
    (s : List ℕ) (k : ℕ) (search : Option ℕ)
    (is : get_or (layout_conditions s) k none ≡ refuse_at search (suc k)) (p : Passed k s)
    {found : std.Option ℕ} (searched : found_of found ≡ search) where
  pub refused_found : {place : ℕ} → found ≡ std.Some place → First s (suc k) place
  refused_found {place} e =
      refused_at s k (refuse (suc k) place) p (is ∙ ap (λ (o : Option ℕ). refuse_at o (suc k)) (sym searched ∙ ap found_of e))

  pub passed_nothing : found ≡ std.None → Passed (suc k) s
  passed_nothing e = passed_next s k p (is ∙ ap (λ (o : Option ℕ). refuse_at o (suc k)) (sym searched ∙ ap found_of e))
