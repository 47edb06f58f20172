-- Small functions on lists that the library does not have. Assumes nothing.
use Rattle.std.specs.Prelude.{ℕ, zero, suc, ◌*◌, List, [], ◌∷◌, ◌++◌, Bool, true, false, ◌&&◌, ◌||◌}
use Rattle.std.proofs.Math.Option.{Option, none, some}

module _ {A : Type 0} where
  -- some member passes the test
  abbrev pub any : (A → Bool) → List A → Bool
  any f [] = false
  any f (x ∷ xs) = f x || any f xs

  -- every member passes the test
  abbrev pub all : (A → Bool) → List A → Bool
  all f [] = true
  all f (x ∷ xs) = f x && all f xs

  abbrev pub keep_if : Bool → A → List A → List A
  keep_if true x xs = x ∷ xs
  keep_if false x xs = xs

  -- the members that pass the test, in order
  abbrev pub keep : (A → Bool) → List A → List A
  keep f [] = []
  keep f (x ∷ xs) = keep_if (f x) x (keep f xs)

  -- the number of the first member that fails the test, counted from i
  abbrev pub first_failing : (A → Bool) → ℕ → List A → Option ℕ
  first_failing f i [] = none
  first_failing f i (x ∷ xs) = elim (f x) [ true ↦ first_failing f (suc i) xs | false ↦ some i ]

  -- the list with one more member at its end
  abbrev pub snoc : List A → A → List A
  snoc xs x = xs ++ (x ∷ [])

  -- the first of a list that is there
  abbrev pub first_of : List (Option A) → Option A
  first_of [] = none
  first_of (some x ∷ xs) = some x
  first_of (none ∷ xs) = first_of xs

-- what each member gives, one after the other
abbrev pub concat_map : {A B : Type 0} → (A → List B) → List A → List B
concat_map f [] = []
concat_map f (x ∷ xs) = f x ++ concat_map f xs

-- n, n + 1, .., as many as the second number says
abbrev pub count_from : ℕ → ℕ → List ℕ
count_from n zero = []
count_from n (suc k) = n ∷ count_from (suc n) k

-- 0, 1, .., n - 1
abbrev pub below : ℕ → List ℕ
below n = count_from 0 n

-- all the members multiplied; 1 if there are none
abbrev pub product_of : List ℕ → ℕ
product_of [] = 1
product_of (x ∷ xs) = x * product_of xs
