-- The odometer of the slow digits: its sizes are those after the fast ones, and it stands at its first place. Assumes nothing.
use mathlib.Core.Path.{◌≡◌, refl, sym, ap, ◌∙◌}
use Prim.Native.Nat.{ℕ, zero, suc, ◌+◌, ◌-◌, ◌≤◌, ◌<◌}
use native.Mathlib.Omega.{arith}
use mathlib.Core.List.{List, [], ◌∷◌, ◌++◌}
use mathlib.Core.Logic.{inl, inr}
use lib.ListN.{length, get_or, take, drop, replicate, length-take, length-drop, length-append, length-replicate, get_or-append}
use lib.Seq.{get_or-append-add, get_or-take, get_or-drop, length-take-le, ext_get_or}
use Rattle.definitions.specs.Places.{first}
use Rattle.theorems.proofs.Search.Places.{Positive}
use Rattle.walk.specs.declared.odometer.Odometer.{Odometer}
use Rattle.walk.specs.Turning.{Turning}
use Rattle.walk.specs.Digits.{sizes_in, SlowIs}

pub record Taking (fast : ℕ) (all : List ℕ) (j : ℕ) (sizes : List ℕ) : Type 0 where
  pub long : length sizes ≡ 40
  pub taken : (i : ℕ) → i < j → get_or sizes i 0 ≡ get_or all (fast + i) 0
  pub rest : (i : ℕ) → j ≤ i → get_or sizes i 0 ≡ 0

zeros_at : (n i : ℕ) → get_or (replicate {A = ℕ} n 0) i 0 ≡ 0
zeros_at zero i = refl
zeros_at (suc n) zero = refl
zeros_at (suc n) (suc i) = zeros_at n i

-- a part of the sizes, and zeros after it
pub taking_part : (fast : ℕ) (all xs : List ℕ) (n : ℕ) → n ≤ 40 → fast + n ≤ length all → xs ≡ take n (drop fast all)
    → Taking fast all n (xs ++ drop n (replicate 40 0))
taking_part fast all xs n few fits e =
    let zeros : List ℕ = replicate 40 0 in
    let long : length xs ≡ n = ap length e ∙ (simp (length-take, length-drop) (omega arith)) in
    let many = length-replicate {A = ℕ} 40 0 in
    record {
      long = length-append xs (drop n zeros) ∙ (let r = length-drop n zeros in omega arith);
      taken =
          λ i h.
          get_or-append xs (drop n zeros) 0 i (omega arith) ∙ ap (λ ys. get_or ys i 0) e ∙ get_or-take n (drop fast all) i 0 h
          ∙ get_or-drop fast all i 0;
      rest =
          λ i h.
          ap (λ k. get_or (xs ++ drop n zeros) k 0) (let q : i ≡ length xs + (i - n) = omega arith in q)
          ∙ get_or-append-add xs (drop n zeros) (i - n) 0 ∙ get_or-drop n zeros (i - n) 0 ∙ zeros_at 40 (n + (i - n));
    }

pub positive_drop : (n : ℕ) (ss : List ℕ) → Positive ss → Positive (drop n ss)
positive_drop zero ss p = p
positive_drop (suc n) [] p = p
positive_drop (suc n) (s ∷ ss) p = positive_drop n ss p.1

-- digits that are all 0 are the first
zeros_first : (ss ds : List ℕ) → length ds ≡ length ss → ((i : ℕ) → get_or ds i 0 ≡ 0) → ds ≡ first ss
zeros_first [] [] l z = refl
zeros_first [] (d ∷ ds) l z = absurd (omega arith)
zeros_first (s ∷ ss) [] l z = absurd (omega arith)
zeros_first (s ∷ ss) (d ∷ ds) l z =
    let rest = zeros_first ss ds (omega arith) (λ i. z (suc i)) in
    let e : d ≡ 0 = z 0 in
    cc

module _ (o : Odometer) (F : ℕ) (few : F ≤ o.count) (sizes : List ℕ) (taking : Taking F o.sizes (o.count - F) sizes) where
  abbrev n : ℕ
  n = o.count - F

  abbrev t : Turning o.digits o.sizes o.count
  t = o.turning

  n_few : n ≤ 40
  n_few = let a = t.few in omega arith

  sizes_length : length (sizes_in o) ≡ o.count
  sizes_length = let a = t.few in let b = t.sizes_long in length-take-le o.count o.sizes (omega arith)

  here_length : length (take n sizes) ≡ n
  here_length = let a = taking.long in let b = n_few in length-take-le n sizes (omega arith)

  same_sizes : take n sizes ≡ drop F (sizes_in o)
  same_sizes =
      ext_get_or 0 (take n sizes) (drop F (sizes_in o))
      (here_length ∙ sym (length-drop F (sizes_in o) ∙ ap (λ x. x - F) sizes_length))
      (λ i h.
      let l = here_length in
      get_or-take n sizes i 0 (omega arith) ∙ taking.taken i (omega arith) ∙ sym (get_or-take o.count o.sizes (F + i) 0 (omega arith))
      ∙ sym (get_or-drop F (sizes_in o) i 0))

  digits_length : length (take n (replicate {A = ℕ} 40 0)) ≡ n
  digits_length = let b = n_few in let e = length-replicate {A = ℕ} 40 0 in length-take-le n (replicate 40 0) (omega arith)

  zero_digit : (i : ℕ) → get_or (take n (replicate {A = ℕ} 40 0)) i 0 ≡ 0
  zero_digit i =
      elim (Rattle.theorems.proofs.Laws.Tests.split i n) [
        | inl h ↦ get_or-take n (replicate 40 0) i 0 h ∙ zeros_at 40 i
        | inr h ↦ lib.ListN.get_or-eq_default (take n (replicate 40 0)) 0 (let m = digits_length in omega arith)
      ]

  size_small : (i : ℕ) → get_or sizes i 0 < 256
  size_small i =
      elim (Rattle.theorems.proofs.Laws.Tests.split i n) [
        | inl h ↦ (let a = taking.taken i h in let b = t.sizes_small (F + i) in omega arith)
        | inr h ↦ (let a = taking.rest i h in omega arith)
      ]

  pub slow_turns : Turning (replicate 40 0) sizes (o.count - F)
  slow_turns =
      record {
        digits_long = length-replicate {A = ℕ} 40 0;
        sizes_long = taking.long;
        few = n_few;
        sizes_small = size_small;
        within =
            λ i h.
            let z = zeros_at 40 i in
            let e = taking.taken i h in
            let w = t.within (F + i) (omega arith) in
            omega arith;
        past = λ i h. zeros_at 40 i;
      }

  pub slow_is : (turning : Turning (replicate 40 0) sizes (o.count - F))
      → SlowIs o F (record { digits = replicate 40 0; sizes = sizes; count = o.count - F; turning = turning })
  slow_is turning =
      record {
        count_is = refl;
        sizes_are = same_sizes;
        at_first = zeros_first (take n sizes) (take n (replicate 40 0)) (digits_length ∙ sym here_length) zero_digit;
      }
