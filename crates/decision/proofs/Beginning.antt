-- The odometer at place 1, from its sizes one by one. Assumes nothing.
use mathlib.Core.Path.{◌≡◌, refl, sym, ap, ap₂, ◌∙◌}
use borrow.Rule.Slice.PartMut.{put_mid}
use Prim.Native.Nat.{ℕ, ◌+◌, ◌-◌, ◌≤◌, ◌<◌}
use native.Mathlib.Omega.{arith}
use mathlib.Core.List.{List, ◌++◌}
use mathlib.Core.Logic.{inl, inr}
use Rattle.std.proofs.lemmas.List.{drop-replicate}
use lib.ListN.{length, get_or, take, drop, replicate, length-replicate, length-append, length-drop, get_or-replicate, get_or-append}
use lib.Seq.{get_or-take, length-take-le, get_or-append-add, get_or-append_right, take_at, drop_at, drop-drop, ext_get_or}
use Rattle.definitions.specs.Ranges.{sizes}
use Rattle.definitions.specs.Places.{first}
use Rattle.theorems.proofs.Laws.Tests.{split}
use Rattle.ranges.specs.declared.Shape.{Shape}
use Rattle.ranges.proofs.Filled.{zeros}
use Rattle.walk.specs.Turning.{Turning}
use Rattle.walk.specs.Digits.{digits_of, sizes_in}
use Rattle.walk.specs.Walked.{Starts}
use Rattle.walk.specs.declared.odometer.Odometer.{Odometer}

-- sizes one by one: the tops of the variables, 2 for each truth variable, and zeros
pub record Sized (tops : List ℕ) (s : Shape) (ss : List ℕ) : Type 0 where
  pub few : s.variables ≤ 24
  pub fewer : s.truths ≤ 16
  pub tops_long : length tops ≡ 24
  pub ranges : (u : ℕ) → u < s.variables → (1 ≤ get_or tops u 0) × (get_or tops u 0 ≤ 24)
  pub long : length ss ≡ 40
  pub at_variable : (j : ℕ) → j < s.variables → get_or ss j 0 ≡ get_or tops j 0
  pub at_truth : (j : ℕ) → s.variables ≤ j → j < s.variables + s.truths → get_or ss j 0 ≡ 2
  pub at_rest : (j : ℕ) → s.variables + s.truths ≤ j → get_or ss j 0 ≡ 0

-- the sizes as they are laid
module _ (tops : List ℕ) (s : Shape) (few : s.variables ≤ 24) (fewer : s.truths ≤ 16) (long : length tops ≡ 24) where
  abbrev front : List ℕ
  front = take s.variables tops

  abbrev rest : ℕ
  rest = 40 - (s.variables + s.truths)

  abbrev laid : List ℕ
  laid = front ++ (replicate {A = ℕ} s.truths 2 ++ replicate {A = ℕ} rest 0)

  front_long : length front ≡ s.variables
  front_long = length-take-le s.variables tops (omega arith)

  pub are_laid : (a b : List ℕ) → a ≡ front
      → b ≡ replicate (length (take (s.variables + s.truths - s.variables) (drop s.variables (a ++ drop s.variables (replicate {A = ℕ} 40 0))))) 2
      → put_mid s.variables (s.variables + s.truths - s.variables) (a ++ drop s.variables (replicate 40 0)) b ≡ laid
  are_laid a b e f =
      let k : s.variables + s.truths - s.variables ≡ s.truths = omega arith in
      let la : length a ≡ s.variables = ap length e ∙ front_long in
      let z = replicate {A = ℕ} 40 0 in
      let tail = drop_at a (drop s.variables z) s.variables la in
      let lz = length-drop s.variables z in
      let l40 = length-replicate {A = ℕ} 40 0 in
      let lt = ap length tail in
      let many : length (take (s.variables + s.truths - s.variables) (drop s.variables (a ++ drop s.variables z))) ≡ s.truths =
      length-take-le (s.variables + s.truths - s.variables) (drop s.variables (a ++ drop s.variables z)) (omega arith) ∙ k in
      ap₂ {C = List ℕ} (λ (x y : List ℕ). x ++ y)
      (take_at a (drop s.variables z) s.variables la ∙ e)
      (ap₂ {C = List ℕ} (λ (x y : List ℕ). x ++ y) (f ∙ ap (λ n. replicate n 2) many)
      (ap₂ {C = List ℕ} drop k tail ∙ drop-drop s.truths s.variables z
      ∙ drop-replicate (s.variables + s.truths) 40 0))

  pub sized : ((u : ℕ) → u < s.variables → (1 ≤ get_or tops u 0) × (get_or tops u 0 ≤ 24)) → (ss : List ℕ) → ss ≡ laid → Sized tops s ss
  sized ranges ss e =
      let n = front_long in
      let r1 = length-replicate {A = ℕ} s.truths 2 in
      let r2 = length-replicate {A = ℕ} rest 0 in
      let tail : List ℕ = replicate {A = ℕ} s.truths 2 ++ replicate {A = ℕ} rest 0 in
      record {
        few = few;
        fewer = fewer;
        tops_long = long;
        ranges = ranges;
        long = ap length e ∙ omega (arith, length-append front tail, length-append (replicate {A = ℕ} s.truths 2) (replicate rest 0));
        at_variable = λ j h.
            ap (λ (xs : List ℕ). get_or xs j 0) e ∙ get_or-append front tail 0 j (omega arith) ∙ get_or-take s.variables tops j 0 h;
        at_truth = λ j h g.
            ap (λ (xs : List ℕ). get_or xs j 0) e ∙ get_or-append_right front tail j 0 (omega arith)
            ∙ get_or-append (replicate {A = ℕ} s.truths 2) (replicate {A = ℕ} rest 0) 0 (j - length front) (omega arith)
            ∙ get_or-replicate s.truths (j - length front) 2 0 (omega arith);
        at_rest = λ j h.
            ap (λ (xs : List ℕ). get_or xs j 0) e ∙ get_or-append_right front tail j 0 (omega arith)
            ∙ get_or-append_right (replicate {A = ℕ} s.truths 2) (replicate {A = ℕ} rest 0) (j - length front) 0 (omega arith)
            ∙ zeros rest (j - length front - length (replicate {A = ℕ} s.truths 2));
      }

module _ {tops : List ℕ} {s : Shape} {ss : List ℕ} (z : Sized tops s ss) where
  abbrev N : ℕ
  N = s.variables

  abbrev P : ℕ
  P = s.truths

  in_use : length (take (N + P) ss) ≡ N + P
  in_use = let l = z.long in let n = z.few in let p = z.fewer in length-take-le (N + P) ss (omega arith)

  size_low : (j : ℕ) → j < N + P → (1 ≤ get_or ss j 0) × (get_or ss j 0 ≤ 24)
  size_low j h =
      elim (split j N) [
        | inl b ↦ let e = z.at_variable j b in let r = z.ranges j b in (omega arith, omega arith)
        | inr b ↦ let e = z.at_truth j b h in (omega arith, omega arith)
      ]

  small : (j : ℕ) → get_or ss j 0 < 256
  small j =
      elim (split j (N + P)) [
        | inl b ↦ let r = size_low j b in omega arith
        | inr b ↦ let e = z.at_rest j b in omega arith
      ]

  digits_length : length (take (N + P) (replicate {A = ℕ} 40 0)) ≡ N + P
  digits_length =
      let l = length-replicate {A = ℕ} 40 0 in
      let n = z.few in
      let p = z.fewer in
      length-take-le (N + P) (replicate 40 0) (omega arith)

  pub turning : Turning (replicate 40 0) ss (N + P)
  turning =
      record {
        digits_long = length-replicate {A = ℕ} 40 0;
        sizes_long = z.long;
        few = let n = z.few in let p = z.fewer in omega arith;
        sizes_small = small;
        within = λ j h. let r = size_low j h in let d = zeros 40 j in omega arith;
        past = λ j h. zeros 40 j;
      }

  module _ (turns : Turning (replicate 40 0) ss (N + P)) where
    abbrev o : Odometer
    o = record { digits = replicate 40 0; sizes = ss; count = N + P; turning = turns }

    first_digits : digits_of o ≡ first (sizes_in o)
    first_digits =
        ext_get_or 0 (digits_of o) (first (sizes_in o)) (digits_length ∙ sym (length-replicate {A = ℕ} (length (sizes_in o)) 0 ∙ in_use))
        (λ j h.
        let l = digits_length in
        let u = in_use in
        get_or-take (N + P) (replicate {A = ℕ} 40 0) j 0 (omega arith) ∙ zeros 40 j
        ∙ sym (get_or-replicate (length (sizes_in o)) j 0 0 (omega arith)))

    tops_used : length (take N tops) ≡ N
    tops_used = let n = z.few in (let t = z.tops_long in length-take-le N tops (omega arith))

    same_sizes : sizes_in o ≡ sizes (take N tops) P
    same_sizes =
        ext_get_or 0 (sizes_in o) (sizes (take N tops) P)
        (in_use ∙ sym (length-append (take N tops) (replicate P 2) ∙ (let a = tops_used in let b = length-replicate {A = ℕ} P 2 in let q : length (take N tops) + length (replicate {A = ℕ} P 2) ≡ N + P = omega arith in q)))
        (λ j h.
        let u = in_use in
        let a = tops_used in
        get_or-take (N + P) ss j 0 (omega arith)
        ∙ elim (split j N) [
          | inl b ↦ z.at_variable j b ∙ sym (get_or-append (take N tops) (replicate P 2) 0 j (omega arith) ∙ get_or-take N tops j 0 b)
          | inr b ↦
              z.at_truth j b (omega arith)
              ∙ sym
              (ap (λ i. get_or (take N tops ++ replicate P 2) i 0) (let q : j ≡ length (take N tops) + (j - N) = omega arith in q)
              ∙ get_or-append-add (take N tops) (replicate P 2) (j - N) 0
              ∙ get_or-replicate P (j - N) 2 0 (omega arith))
        ])

    pub beginning : Starts s o × (sizes_in o ≡ sizes (take N tops) P)
    beginning = (
      record {
        count_is = refl;
        at_first = first_digits;
        small = λ j h. (size_low j (omega arith)).1;
        bits = λ j h. z.at_truth (N + j) (omega arith) (omega arith);
      },
      same_sizes,
    )
