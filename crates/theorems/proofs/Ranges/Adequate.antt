-- The ranges are adequate: for any function-free table whose equations link no pair outside given classes, and for any
-- assignment of whole numbers, some place within the ranges of those classes gives every formula of the table the same truth.
-- Assumes nothing.
use mathlib.Core.Path.{◌≡◌, refl, sym, ap, ◌∙◌, subst}
use Prim.Native.Nat.{ℕ, zero, suc, pred, ◌+◌, ◌≤◌, ◌<◌}
use native.Mathlib.Omega.{arith}
use mathlib.Core.Bool.{Bool, true, false}
use mathlib.Core.List.{List, [], ◌∷◌, ◌++◌, map}
use lib.ListN.{length, get_or, replicate, length-map, get_or-append}
use lib.Seq.{get_or-append-add}
use lib.Dec.{eqb}
use Rattle.definitions.specs.Lists.{count_from, below, product_of}
use Rattle.definitions.specs.Problem.Node.{Node}
use Rattle.definitions.specs.Problem.Ops.{formula}
use Rattle.definitions.specs.Logic.{Interpretation, truth_of, truth_at, values}
use Rattle.definitions.specs.Ranges.{sizes}
use Rattle.definitions.specs.Places.{digits_at, assignment}
use Rattle.theorems.specs.Classes.{LinksInside, top_in, tops_in}
use Rattle.theorems.proofs.Laws.Ops.{sort_at}
use Rattle.theorems.proofs.Tables.Free.{Free}
use Rattle.theorems.proofs.Ranges.Renaming.{Equivalence, renamed, renamed_low, renamed_high}
use Rattle.theorems.proofs.Ranges.SmallModel.{agree}
use Rattle.theorems.proofs.Search.Places.{Within, reach}

pub length_count_from : (m n : ℕ) → length (count_from m n) ≡ n
length_count_from m zero = refl
length_count_from m (suc n) = ap suc (length_count_from (suc m) n)

module _ {X : Type 0} (f : ℕ → X) where
  get_d_count_from : (m n i : ℕ) (d : X) → i < n → get_or (map f (count_from m n)) i d ≡ f (m + i)
  get_d_count_from m zero i d h = absurd (omega arith)
  get_d_count_from m (suc n) zero d h = ap f (let e : m ≡ m + 0 = omega arith in e)
  get_d_count_from m (suc n) (suc i) d h =
      get_d_count_from (suc m) n i d (omega arith) ∙ ap f (let e : suc m + i ≡ m + suc i = omega arith in e)

  -- what a list over 0 to n - 1 has at i
  pub get_d_below : (n i : ℕ) (d : X) → i < n → get_or (map f (below n)) i d ≡ f i
  get_d_below n i d h = get_d_count_from 0 n i d h ∙ ap f (let e : 0 + i ≡ i = omega arith in e)

  pub length_below : (n : ℕ) → length (map f (below n)) ≡ n
  length_below n = length-map (below n) f ∙ length_count_from 0 n

within_append : (xs ds ys es : List ℕ) → Within xs ds → Within ys es → Within (xs ++ ys) (ds ++ es)
within_append [] [] ys es w v = v
within_append [] (d ∷ ds) ys es w v = absurd w
within_append (x ∷ xs) [] ys es w v = absurd w
within_append (x ∷ xs) (d ∷ ds) ys es w v = (w.0, within_append xs ds ys es w.1 v)

within_from : (f g : ℕ → ℕ) (m n : ℕ) → ((v : ℕ) → v < m + n → g v < f v) → Within (map f (count_from m n)) (map g (count_from m n))
within_from f g m zero h = tt
within_from f g m (suc n) h = (h m (omega arith), within_from f g (suc m) n (λ v l. h v (omega arith)))

-- a truth variable's digit
abbrev bit : Bool → ℕ
bit true = 1
bit false = 0

within_bits : (f : ℕ → Bool) (m n : ℕ) → Within (replicate n 2) (map (λ v. bit (f v)) (count_from m n))
within_bits f m zero = tt
within_bits f m (suc n) = (go (f m), within_bits f (suc m) n)
  where
    go : (b : Bool) → bit b < 2
    go true = omega arith
    go false = omega arith

bit_one : (b : Bool) → eqb (bit b) 1 ≡ b
bit_one true = refl
bit_one false = refl

module _
    (t : List Node)
    (N P : ℕ)
    (free : Free N P t)
    (J : ℕ → ℕ → Bool)
    (E : Equivalence J N)
    (inside : LinksInside t N J)
    (A : Interpretation) where
  abbrev a : ℕ → ℕ
  a v = A.function v []

  abbrev number_digits : List ℕ
  number_digits = map (λ v. pred (renamed J a v)) (below N)

  abbrev truth_digits : List ℕ
  truth_digits = map (λ v. bit (A.predicate v [])) (below P)

  -- the digits of the renamed assignment
  abbrev digits : List ℕ
  digits = number_digits ++ truth_digits

  abbrev B : Interpretation
  B = assignment N digits

  digits_within : Within (sizes (tops_in J N) P) digits
  digits_within =
      within_append (tops_in J N) number_digits (replicate P 2) truth_digits
      (within_from (top_in J) (λ v. pred (renamed J a v)) 0 N
      (λ v l. let low = renamed_low J N E a v in let high = renamed_high J N E a v (omega arith) in omega arith))
      (within_bits (λ v. A.predicate v []) 0 P)

  number_renamed : (v : ℕ) → v < N → B.function v [] ≡ renamed J a v
  number_renamed v h =
      let l = length_below (λ u. pred (renamed J a u)) N in
      let low = renamed_low J N E a v in
      ap suc (get_or-append number_digits truth_digits 0 v (omega arith) ∙ get_d_below (λ u. pred (renamed J a u)) N v 0 h)
      ∙ (let e : suc (pred (renamed J a v)) ≡ renamed J a v = omega arith in e)

  truth_kept : (v : ℕ) → v < P → B.predicate v [] ≡ A.predicate v []
  truth_kept v h =
      let l = length_below (λ u. pred (renamed J a u)) N in
      ap (λ (d : ℕ). eqb d 1)
      (subst (λ (m : ℕ). get_or digits (m + v) 0 ≡ get_or truth_digits v 0) l (get_or-append-add number_digits truth_digits v 0)
      ∙ get_d_below (λ u. bit (A.predicate u [])) P v 0 h)
      ∙ bit_one (A.predicate v [])

  -- some place has the same truth at every formula
  pub adequate :
      (p : ℕ) × (1 ≤ p) × (p ≤ product_of (sizes (tops_in J N) P))
      × ((k : ℕ) → k < length t → sort_at t k ≡ formula
      → truth_at (values A [] t) k ≡ truth_at (values (assignment N (digits_at (sizes (tops_in J N) P) p)) [] t) k)
  adequate =
      let r = reach (sizes (tops_in J N) P) digits digits_within in
      let h = r.1 in (
        suc r.0,
        omega arith,
        omega arith,
        λ k l s.
            ap truth_of ((agree t N P free J E inside A B number_renamed truth_kept k l).at_formula s)
            ∙ ap (λ (ds : List ℕ). truth_at (values (assignment N ds) [] t) k) (sym r.2),
      )
