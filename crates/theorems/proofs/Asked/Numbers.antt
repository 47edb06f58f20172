-- The number of a node among the reached ones (02, E2): in a list that rises, it is where the node stands, and a lower node has a lower
-- number. Assumes nothing.
use mathlib.Core.Path.{◌≡◌, refl, sym, ap, ◌∙◌}
use Prim.Native.Nat.{ℕ, zero, suc, ◌<◌, ◌≤◌}
use native.Mathlib.Omega.{arith}
use mathlib.Core.Bool.{Bool, true, false, false≢true}
use mathlib.Core.Logic.{◌⊎◌, inl, inr}
use mathlib.Core.List.{List, [], ◌∷◌}
use lib.ListN.{length, get_or}
use lib.Dec.{ltb}
use borrow.Author.Tests.{lt-ltb, le-ltb}
use Rattle.definitions.specs.Lists.{keep, keep_if}
use Rattle.definitions.specs.Problem.Asked.{number_in}
use Rattle.theorems.proofs.Asked.Reach.{In, in_split, get_d_in, Rising, rising_above}

counted : ℕ → List ℕ → ℕ → Bool → ℕ
counted x xs k b = length (keep_if b x (keep (λ j. ltb j k) xs))

pub skip : (x : ℕ) (xs : List ℕ) (k : ℕ) → k ≤ x → number_in (x ∷ xs) k ≡ number_in xs k
unfolding counted
skip x xs k h = ap (counted x xs k) (le-ltb x k h)

pub count : (x : ℕ) (xs : List ℕ) (k : ℕ) → x < k → number_in (x ∷ xs) k ≡ suc (number_in xs k)
unfolding counted
count x xs k h = ap (counted x xs k) (lt-ltb x k h)

pub none_below : (lo : ℕ) (xs : List ℕ) (k : ℕ) → Rising lo xs → k ≤ lo → number_in xs k ≡ 0
none_below lo [] k r h = refl
none_below lo (x ∷ xs) k r h = let l = r.0 in skip x xs k (omega arith) ∙ none_below (suc x) xs k r.1 (omega arith)

first_own : (x : ℕ) (xs : List ℕ) → Rising (suc x) xs → number_in (x ∷ xs) x ≡ 0
first_own x xs r = skip x xs x (omega arith) ∙ none_below (suc x) xs x r (omega arith)

pub number_few : (xs : List ℕ) (k : ℕ) → number_in xs k ≤ length xs
number_few [] k = omega arith
number_few (x ∷ xs) k = go (ltb x k) (number_few xs k)
  where
    go : (b : Bool) → number_in xs k ≤ length xs → length (keep_if b x (keep (λ j. ltb j k) xs)) ≤ suc (length xs)
    go true h = omega arith
    go false h = omega arith

-- the number of the i-th is i
pub number_of_lem : (lo : ℕ) (xs : List ℕ) → Rising lo xs → (i : ℕ) → i < length xs → number_in xs (get_or xs i 0) ≡ i
number_of_lem lo [] r i h = absurd (omega arith)
number_of_lem lo (x ∷ xs) r zero h = first_own x xs r.1
number_of_lem lo (x ∷ xs) r (suc i) h =
    let l : i < length xs = omega arith in
    let a = rising_above (suc x) xs r.1 (get_or xs i 0) (get_d_in xs i l) in
    count x xs (get_or xs i 0) (omega arith) ∙ ap suc (number_of_lem (suc x) xs r.1 i l)

-- and what stands at the number of a member is the member
pub number_in_lem : (lo : ℕ) (xs : List ℕ) → Rising lo xs → (k : ℕ) → In k xs → (number_in xs k < length xs) × (get_or xs (number_in xs k) 0 ≡ k)
number_in_lem lo [] r k e = absurd (false≢true e)
number_in_lem lo (x ∷ xs) r k e = go (in_split k x xs e) (number_in_lem (suc x) xs r.1 k)
  where
    go : (k ≡ x) ⊎ In k xs → (In k xs → (number_in xs k < length xs) × (get_or xs (number_in xs k) 0 ≡ k))
        → (number_in (x ∷ xs) k < suc (length xs)) × (get_or (x ∷ xs) (number_in (x ∷ xs) k) 0 ≡ k)
    go (inl p) rec =
        let z : number_in (x ∷ xs) k ≡ 0 = ap (number_in (x ∷ xs)) p ∙ first_own x xs r.1 in
        (omega arith, ap (λ (i : ℕ). get_or (x ∷ xs) i 0) z ∙ sym p)
    go (inr p) rec =
        let a = rising_above (suc x) xs r.1 k p in
        let c = count x xs k (omega arith) in
        let q = rec p in
        let l = q.0 in
        (omega arith, ap (λ (i : ℕ). get_or (x ∷ xs) i 0) c ∙ q.1)

-- a lower member has a lower number
pub number_less : (lo : ℕ) (xs : List ℕ) → Rising lo xs → (o k : ℕ) → In o xs → o < k → number_in xs o < number_in xs k
number_less lo [] r o k e h = absurd (false≢true e)
number_less lo (x ∷ xs) r o k e h = go (in_split o x xs e) (number_less (suc x) xs r.1 o k)
  where
    go : (o ≡ x) ⊎ In o xs → (In o xs → o < k → number_in xs o < number_in xs k) → number_in (x ∷ xs) o < number_in (x ∷ xs) k
    go (inl p) rec =
        let z : number_in (x ∷ xs) o ≡ 0 = ap (number_in (x ∷ xs)) p ∙ first_own x xs r.1 in
        let c = count x xs k (omega arith) in
        omega arith
    go (inr p) rec =
        let a = rising_above (suc x) xs r.1 o p in
        let c = count x xs o (omega arith) in
        let d = count x xs k (omega arith) in
        let l = rec p h in
        omega arith
