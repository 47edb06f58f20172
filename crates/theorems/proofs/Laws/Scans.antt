-- A scan for the first that is not right: the first that fails a test, the first wrong node. One more step either ends the scan or
-- leaves what is left after it; so a scan from the start finds exactly the first that is not right. Assumes nothing.
use mathlib.Core.Path.{◌≡◌, refl, sym, ap, ap₂, ◌∙◌}
use Prim.Native.Nat.{ℕ, zero, suc, ◌+◌, ◌≤◌, ◌<◌}
use native.Mathlib.Numerals.{add-one}
use native.Mathlib.Omega.{arith}
use native.Mathlib.Nat.{le_antisymm}
use mathlib.Core.Bool.{Bool, true, false, false≢true}
use mathlib.Core.List.{List, []}
use mathlib.Core.Logic.{◌⊎◌, inl, inr, ◌↔◌}
use mathlib.Core.Option.{Option, none, some}
use lib.ListN.{length, get_or, take, drop, drop_of_length-le}
use lib.Seq.{length-take-le, take-suc, drop-cons}
use Rattle.definitions.specs.Lists.{first_failing}
use Rattle.definitions.specs.Problem.Node.{Node, node, no_node}
use Rattle.definitions.specs.Problem.Ops.{node_right}
use Rattle.definitions.specs.Problem.Check.{first_wrong}
use Rattle.theorems.specs.Conditions.{FirstWrong}
use Rattle.theorems.proofs.Laws.Tests.{split, none≢some, some_same}

-- the first member from k on that fails a test
abbrev pub failing_from : {A : Type 0} → (A → Bool) → List A → ℕ → Option ℕ
failing_from f xs k = first_failing f k (drop k xs)

module _ {A : Type 0} (f : A → Bool) (xs : List A) where
  module _ (d : A) (k : ℕ) (h : k < length xs) where
    here : failing_from f xs k ≡ elim (f (get_or xs k d)) [ true ↦ failing_from f xs (suc k) | false ↦ some k ]
    here = ap (first_failing f k) (drop-cons xs k d h)

    pub fails_here : f (get_or xs k d) ≡ false → failing_from f xs k ≡ some k
    fails_here e = here ∙ rw e

    pub fails_later : f (get_or xs k d) ≡ true → failing_from f xs k ≡ failing_from f xs (k + 1)
    fails_later e = rw (add-one k) (here ∙ rw e)

  pub fails_nowhere : (k : ℕ) → length xs ≤ k → failing_from f xs k ≡ none
  fails_nowhere k h = ap (first_failing f k) (drop_of_length-le xs h)

-- the first wrong node from node k on
module _ (symbols : List ℕ) (t : List Node) where
  abbrev pub wrong_from : ℕ → Option ℕ
  wrong_from k = first_wrong symbols (take k t) (drop k t)

  module _ (k : ℕ) (h : k < length t) where
    node_here : wrong_from k ≡ elim (node_right symbols (take k t) (node t k)) [ true ↦ wrong_from (suc k) | false ↦ some k ]
    node_here =
        ap (first_wrong symbols (take k t)) (drop-cons t k no_node h)
        ∙ ap₂ (λ (before : List Node) (m : ℕ).
        elim (node_right symbols (take k t) (node t k)) as (λ _. Option ℕ) [
          | true ↦ first_wrong symbols before (drop (suc k) t)
          | false ↦ some m
        ]) (sym (take-suc t k no_node h)) (length-take-le k t (omega arith))

    pub wrong_here : node_right symbols (take k t) (node t k) ≡ false → wrong_from k ≡ some k
    wrong_here e = node_here ∙ rw e

    pub wrong_later : node_right symbols (take k t) (node t k) ≡ true → wrong_from k ≡ wrong_from (k + 1)
    wrong_later e = rw (add-one k) (node_here ∙ rw e)

  pub wrong_nowhere : (k : ℕ) → length t ≤ k → wrong_from k ≡ none
  wrong_nowhere k h = ap (first_wrong symbols (take k t)) (drop_of_length-le t h)

-- any scan of n things: what it finds from k on, where it ends, goes on and runs out
module _
    (n : ℕ) (right : ℕ → Bool) (from : ℕ → Option ℕ)
    (ends : (k : ℕ) → k < n → right k ≡ false → from k ≡ some k)
    (goes_on : (k : ℕ) → k < n → right k ≡ true → from k ≡ from (k + 1))
    (runs-out : (k : ℕ) → n ≤ k → from k ≡ none) where
  abbrev Found : Option ℕ → Type 0
  Found o = ((o ≡ none) × ((j : ℕ) → j < n → right j ≡ true)) ⊎ ((k : ℕ) × (o ≡ some k) × FirstWrong right n k)

  -- those before k are right, and at most so many are left
  found_from : (left k : ℕ) → n ≤ left + k → ((j : ℕ) → j < k → right j ≡ true) → Found (from k)
  found_from zero k h before = inl (runs-out k (omega arith), λ j l. before j (omega arith))
  found_from (suc left) k h before =
      elim (split k n) [
        | inl l ↦ go l (right k) refl (λ further. found_from left (k + 1) (omega arith) further)
        | inr l ↦ inl (runs-out k l, λ j m. before j (omega arith))
      ]
    where
      one_more_lem : right k ≡ true → (j : ℕ) → j < k + 1 → right j ≡ true
      one_more_lem e j m = elim (split j k) [ inl b ↦ before j b | inr b ↦ ap right (let s : j ≡ k = omega arith in s) ∙ e ]

      go : k < n → (b : Bool) → right k ≡ b → (((j : ℕ) → j < k + 1 → right j ≡ true) → Found (from (k + 1))) → Found (from k)
      go l true e rest = rw (goes_on k l e) (rest (one_more_lem e))
      go l false e rest = inr (k, ends k l e, record { within = l; wrong = e; before = before })

  found : Found (from 0)
  found = found_from n 0 (omega arith) (λ j l. absurd (omega arith))

  first_le : {j k : ℕ} → FirstWrong right n j → FirstWrong right n k → j ≤ k
  first_le {j} {k} f g =
      elim (split k j) [ inl h ↦ absurd (false≢true (sym g.wrong ∙ f.before k h)) | inr h ↦ h ]

  -- it finds exactly the first that is not right
  pub finds_first : (k : ℕ) → (from 0 ≡ some k) ↔ FirstWrong right n k
  finds_first k = (there, back)
    where
      there : from 0 ≡ some k → FirstWrong right n k
      there e =
          elim found [
            | inl f ↦ absurd (none≢some (sym f.0 ∙ e))
            | inr f ↦ rw (some_same f.0 k (sym f.1 ∙ e)) at f.2
          ]

      back : FirstWrong right n k → from 0 ≡ some k
      back w =
          elim found [
            | inl f ↦ absurd (false≢true (sym w.wrong ∙ f.1 k w.within))
            | inr f ↦ f.1 ∙ ap {B = Option ℕ} some (le_antisymm (first_le f.2 w) (first_le w f.2))
          ]

-- so it is with the bytes of the symbols, and with the nodes
pub failing_first : {A : Type 0} (f : A → Bool) (xs : List A) (d : A) (k : ℕ)
    → (first_failing f 0 xs ≡ some k) ↔ FirstWrong (λ j. f (get_or xs j d)) (length xs) k
failing_first f xs d =
    finds_first (length xs) (λ j. f (get_or xs j d)) (failing_from f xs) (fails_here f xs d) (fails_later f xs d)
    (fails_nowhere f xs)

pub wrong_first : (symbols : List ℕ) (t : List Node) (k : ℕ)
    → (first_wrong symbols [] t ≡ some k) ↔ FirstWrong (λ j. node_right symbols (take j t) (node t j)) (length t) k
wrong_first symbols t =
    finds_first (length t) (λ j. node_right symbols (take j t) (node t j)) (wrong_from symbols t) (wrong_here symbols t)
    (wrong_later symbols t) (wrong_nowhere symbols t)
