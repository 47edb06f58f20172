-- Which digits a step moves: those before the first that is not at its top go back to 0, that one turns, and those after it
-- stay. Assumes nothing.
use mathlib.Core.Path.{◌≡◌, refl, ap}
use Prim.Native.Nat.{ℕ, zero, suc, ◌≤◌, ◌<◌}
use native.Mathlib.Omega.{arith}
use mathlib.Core.Bool.{Bool, true, false, ◌&&◌, false≢true}
use mathlib.Core.List.{List, [], ◌∷◌, ◌++◌}
use mathlib.Core.Logic.{inl, inr}
use lib.ListN.{length, get_or}
use lib.Dec.{ltb}
use borrow.Author.Tests.{ltb-true, ltb-false}
use Rattle.definitions.specs.Places.{next, first}
use Rattle.theorems.proofs.Laws.Tests.{split}
use Rattle.blocks.specs.Moves.{turning, topped}

-- how a successor goes, by whether the first digit is below its top
module _ (s d : ℕ) (ss ds : List ℕ) where
  abbrev next_by : Bool → List ℕ
  next_by b = elim b as (λ _. List ℕ) [ true ↦ suc d ∷ ds | false ↦ 0 ∷ next ss ds ]

  abbrev turning_by : Bool → ℕ
  turning_by b = elim b as (λ _. ℕ) [ true ↦ 0 | false ↦ suc (turning ss ds) ]

  abbrev topped_by : Bool → Bool
  topped_by b = elim b as (λ _. Bool) [ true ↦ false | false ↦ topped ss ds ]

-- what a step does to each digit
pub record Step (ss ds : List ℕ) (i : ℕ) (es : List ℕ) : Type 0 where
  pub lower : (j : ℕ) → j < i → get_or es j 0 ≡ 0
  pub tops : (j : ℕ) → j < i → get_or ss j 0 ≤ suc (get_or ds j 0)
  pub turned : i < length ss → (get_or es i 0 ≡ suc (get_or ds i 0)) × (suc (get_or ds i 0) < get_or ss i 0)
  pub above : (j : ℕ) → i < j → get_or es j 0 ≡ get_or ds j 0
  pub inside : i ≤ length ss

pub step_digits : (ss ds : List ℕ) → length ds ≡ length ss → Step ss ds (turning ss ds) (next ss ds)
step_digits [] [] l =
    record {
      lower = λ j h. absurd (omega arith);
      tops = λ j h. absurd (omega arith);
      turned = λ h. absurd (omega arith);
      above = λ j h. refl;
      inside = omega arith;
    }
step_digits [] (d ∷ ds) l = absurd (omega arith)
step_digits (s ∷ ss) [] l = absurd (omega arith)
step_digits (s ∷ ss) (d ∷ ds) l = go (step_digits ss ds (omega arith)) (ltb (suc d) s) refl
  where
    go : Step ss ds (turning ss ds) (next ss ds) → (b : Bool) → ltb (suc d) s ≡ b → Step (s ∷ ss) (d ∷ ds) (turning_by s d ss ds b) (next_by s d ss ds b)
    go rest true e =
        record {
          lower = λ j h. absurd (omega arith);
          tops = λ j h. absurd (omega arith);
          turned = λ h. (refl, ltb-true (suc d) s e);
          above = λ j h. later j h;
          inside = omega arith;
        }
      where
        later : (j : ℕ) → 0 < j → get_or (suc d ∷ ds) j 0 ≡ get_or (d ∷ ds) j 0
        later zero h = absurd (omega arith)
        later (suc j) h = refl
    go rest false e =
        record {
          lower = λ j h. low j h;
          tops = λ j h. top j h;
          turned = λ h. rest.turned (omega arith);
          above = λ j h. high j h;
          inside = (let r = rest.inside in omega arith);
        }
      where
        low : (j : ℕ) → j < suc (turning ss ds) → get_or (0 ∷ next ss ds) j 0 ≡ 0
        low zero h = refl
        low (suc j) h = rest.lower j (omega arith)

        top : (j : ℕ) → j < suc (turning ss ds) → get_or (s ∷ ss) j 0 ≤ suc (get_or (d ∷ ds) j 0)
        top zero h = ltb-false (suc d) s e
        top (suc j) h = rest.tops j (omega arith)

        high : (j : ℕ) → suc (turning ss ds) < j → get_or (0 ∷ next ss ds) j 0 ≡ get_or (d ∷ ds) j 0
        high zero h = absurd (omega arith)
        high (suc j) h = rest.above j (omega arith)

-- how a loop over the digits finds the one that turns: all before it are at their tops, and it is not
pub turning_at : (ss ds : List ℕ) → length ds ≡ length ss → (i : ℕ) → i < length ss
    → ((j : ℕ) → j < i → get_or ss j 0 ≤ suc (get_or ds j 0)) → suc (get_or ds i 0) < get_or ss i 0 → turning ss ds ≡ i
turning_at ss ds l i h tops top =
    let s = step_digits ss ds l in
    elim (split (turning ss ds) i) [
      | inl g ↦ absurd (let a = (s.turned (omega arith)).1 in let b = tops (turning ss ds) g in omega arith)
      | inr g ↦ elim (split i (turning ss ds)) [ inl f ↦ absurd (let a = s.tops i f in omega arith) | inr f ↦ omega arith ]
    ]

-- or that none does
pub turning_none : (ss ds : List ℕ) → length ds ≡ length ss
    → ((j : ℕ) → j < length ss → get_or ss j 0 ≤ suc (get_or ds j 0)) → turning ss ds ≡ length ss
turning_none ss ds l tops =
    let s = step_digits ss ds l in
    let e = s.inside in
    elim (split (turning ss ds) (length ss)) [
      | inl g ↦ absurd (let a = (s.turned g).1 in let b = tops (turning ss ds) g in omega arith)
      | inr g ↦ omega arith
    ]

-- all are at their tops exactly where none turns
pub topped_turning : (ss ds : List ℕ) → length ds ≡ length ss → topped ss ds ≡ true → turning ss ds ≡ length ss
topped_turning [] ds l e = refl
topped_turning (s ∷ ss) [] l e = absurd (omega arith)
topped_turning (s ∷ ss) (d ∷ ds) l e = go (λ e'. topped_turning ss ds (omega arith) e') (ltb (suc d) s) e
  where
    go : (topped ss ds ≡ true → turning ss ds ≡ length ss) → (b : Bool) → topped_by s d ss ds b ≡ true
        → turning_by s d ss ds b ≡ suc (length ss)
    go rest true e' = absurd (false≢true e')
    go rest false e' = ap suc (rest e')

pub turning_topped : (ss ds : List ℕ) → length ds ≡ length ss → turning ss ds ≡ length ss → topped ss ds ≡ true
turning_topped [] ds l e = refl
turning_topped (s ∷ ss) [] l e = absurd (omega arith)
turning_topped (s ∷ ss) (d ∷ ds) l e = go (λ e'. turning_topped ss ds (omega arith) e') (ltb (suc d) s) e
  where
    go : (turning ss ds ≡ length ss → topped ss ds ≡ true) → (b : Bool) → turning_by s d ss ds b ≡ suc (length ss)
        → topped_by s d ss ds b ≡ true
    go rest true e' = absurd (omega arith)
    go rest false e' = rest (omega arith)

-- the successor of digits at their tops is the first
pub topped_first : (ss ds : List ℕ) → length ds ≡ length ss → topped ss ds ≡ true → next ss ds ≡ first ss
topped_first [] ds l e = refl
topped_first (s ∷ ss) [] l e = absurd (omega arith)
topped_first (s ∷ ss) (d ∷ ds) l e = go (λ e'. topped_first ss ds (omega arith) e') (ltb (suc d) s) e
  where
    go : (topped ss ds ≡ true → next ss ds ≡ first ss) → (b : Bool) → topped_by s d ss ds b ≡ true → next_by s d ss ds b ≡ 0 ∷ first ss
    go rest true e' = absurd (false≢true e')
    go rest false e' = ap {B = List ℕ} (λ x. 0 ∷ x) (rest e')

-- and where the successor is the first, all were at their tops
pub first_topped : (ss ds : List ℕ) → length ds ≡ length ss → next ss ds ≡ first ss → topped ss ds ≡ true
first_topped [] ds l e = refl
first_topped (s ∷ ss) [] l e = absurd (omega arith)
first_topped (s ∷ ss) (d ∷ ds) l e = go (λ e'. first_topped ss ds (omega arith) e') (ltb (suc d) s) e
  where
    go : (next ss ds ≡ first ss → topped ss ds ≡ true) → (b : Bool) → next_by s d ss ds b ≡ 0 ∷ first ss → topped_by s d ss ds b ≡ true
    go rest true e' = absurd (let z : suc d ≡ 0 = ap (λ (x : List ℕ). get_or x 0 0) e' in omega arith)
    go rest false e' = rest (let z : next ss ds ≡ first ss = cc in z)

-- a list of digits in two parts: the step of the first part, and of the second where the first part is at its tops
module _ (slow es : List ℕ) where
  abbrev pub step_by : List ℕ → Bool → List ℕ
  step_by xs b = elim b as (λ _. List ℕ) [ true ↦ xs ++ next slow es | false ↦ xs ++ es ]

  pub next_append : (fast ds : List ℕ) → length ds ≡ length fast
      → next (fast ++ slow) (ds ++ es) ≡ step_by (next fast ds) (topped fast ds)
  next_append [] [] l = refl
  next_append [] (d ∷ ds) l = absurd (omega arith)
  next_append (s ∷ fast) [] l = absurd (omega arith)
  next_append (s ∷ fast) (d ∷ ds) l = go (ltb (suc d) s) (topped fast ds) (next_append fast ds (omega arith))
    where
      go : (b c : Bool) → next (fast ++ slow) (ds ++ es) ≡ step_by (next fast ds) c
          → next_by s d (fast ++ slow) (ds ++ es) b ≡ step_by (next_by s d fast ds b) (elim b as (λ _. Bool) [ true ↦ false | false ↦ c ])
      go true c e = refl
      go false true e = ap {B = List ℕ} (λ x. 0 ∷ x) e
      go false false e = ap {B = List ℕ} (λ x. 0 ∷ x) e

  pub topped_append : (fast ds : List ℕ) → length ds ≡ length fast
      → topped (fast ++ slow) (ds ++ es) ≡ topped fast ds && topped slow es
  topped_append [] [] l = refl
  topped_append [] (d ∷ ds) l = absurd (omega arith)
  topped_append (s ∷ fast) [] l = absurd (omega arith)
  topped_append (s ∷ fast) (d ∷ ds) l = go (topped_append fast ds (omega arith)) (ltb (suc d) s)
    where
      go : topped (fast ++ slow) (ds ++ es) ≡ topped fast ds && topped slow es → (b : Bool)
          → topped_by s d (fast ++ slow) (ds ++ es) b ≡ topped_by s d fast ds b && topped slow es
      go rest true = refl
      go rest false = rest
