-- An array whose first few places are in use, and whose others hold one and the same thing. Assumes nothing.
use Rattle.std.specs.Prelude.{◌≡◌, refl, ℕ, zero, suc, ◌+◌, ◌≤◌, ◌<◌, List, [], ◌∷◌, length, set, take, replicate}
use Rattle.std.proofs.Common.{ap, sym, ◌∙◌, arith, length-take-le}
use Rattle.std.proofs.lemmas.List.{take_more_set}
use Rattle.definitions.specs.Lists.{snoc}

module _ {A : Type 0} (z : A) where
  -- a list that is filled up to a length
  abbrev pub padded : ℕ → List A → List A
  padded zero xs = []
  padded (suc n) [] = z ∷ padded n []
  padded (suc n) (x ∷ xs) = x ∷ padded n xs

  -- the first k of n places are in use
  abbrev pub Filled : ℕ → List A → ℕ → Type 0
  Filled n ys k = padded n (take k ys) ≡ ys

  pub length-padded : (n : ℕ) (xs : List A) → length (padded n xs) ≡ n
  length-padded zero xs = refl
  length-padded (suc n) [] = ap suc (length-padded n [])
  length-padded (suc n) (x ∷ xs) = ap suc (length-padded n xs)

  pub length-filled : (n : ℕ) (ys : List A) (k : ℕ) → Filled n ys k → length ys ≡ n
  length-filled n ys k e = sym (ap length e) ∙ length-padded n (take k ys)

  pub length-used : (n : ℕ) (ys : List A) (k : ℕ) → k ≤ n → Filled n ys k → length (take k ys) ≡ k
  length-used n ys k h e = length-take-le k ys (omega (arith, length-filled n ys k e))

  -- none is in use
  pub filled_none : (n : ℕ) → Filled n (replicate n z) 0
  filled_none zero = refl
  filled_none (suc n) = ap (λ (xs : List A). z ∷ xs) (filled_none n)

  padded_more : (n : ℕ) (xs : List A) (x : A) → length xs < n → set (padded n xs) (length xs) x ≡ padded n (snoc xs x)
  padded_more zero xs x h = absurd (omega arith)
  padded_more (suc n) [] x h = refl
  padded_more (suc n) (y ∷ xs) x h = ap (λ (zs : List A). y ∷ zs) (padded_more n xs x (omega arith))

  -- one more is
  pub filled_more : (n : ℕ) (ys : List A) (k : ℕ) (x : A) → k < n → Filled n ys k → Filled n (set ys k x) (k + 1)
  filled_more n ys k x h e =
      let used = length-used n ys k (omega arith) e in
      ap (padded n) (take_more_set ys k x (omega (arith, length-filled n ys k e)))
      ∙ sym (padded_more n (take k ys) x (omega (arith, used)))
      ∙ ap (λ (j : ℕ). set (padded n (take k ys)) j x) used
      ∙ ap (λ (zs : List A). set zs k x) e
