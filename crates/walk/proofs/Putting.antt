-- A part of a list replaced. Assumes nothing.
use mathlib.Core.Path.{◌≡◌, sym, ap, ◌∙◌}
use Prim.Native.Nat.{ℕ, ◌+◌, ◌-◌, ◌≤◌, ◌<◌}
use native.Mathlib.Omega.{arith}
use mathlib.Core.List.{List, ◌++◌}
use mathlib.Core.Logic.{◌⊎◌, inl, inr}
use lib.ListN.{length, get_or, take, drop, get_or-append}
use borrow.Rule.Slice.PartMut.{put_mid}
use lib.Seq.{get_or-take, get_or-drop, get_or-append-add, length-take-le}

-- n elements laid at an offset of a list, and the rest as before
pub record Put (before : List ℕ) (at n : ℕ) (xs after : List ℕ) : Type 0 where
  pub inside : (l : ℕ) → l < n → get_or after (at + l) 0 ≡ get_or xs l 0
  pub outside : (i : ℕ) → (i < at) ⊎ (at + n ≤ i) → get_or after i 0 ≡ get_or before i 0

-- n elements written over a part of a list
module _ (before ys : List ℕ) (at k n : ℕ) (whole : k ≡ n) (many : length ys ≡ n) (fits : at + n ≤ length before) where
  low : length (take at before) ≡ at
  low = length-take-le at before (omega arith)

  abbrev rest : List ℕ
  rest = drop k (drop at before)

  abbrev after : List ℕ
  after = put_mid at k before ys

  past : (i : ℕ) → get_or after (at + i) 0 ≡ get_or (ys ++ rest) i 0
  past i = ap (λ a. get_or after (a + i) 0) (sym low) ∙ get_or-append-add (take at before) (ys ++ rest) i 0

  pub put_part : Put before at n ys after
  put_part =
      record {
        inside = λ l h. past l ∙ get_or-append ys rest 0 l (omega arith);
        outside =
            λ i h.
            elim h [
              | inl b ↦ (let l = low in get_or-append (take at before) (ys ++ rest) 0 i (omega arith) ∙ get_or-take at before i 0 b)
              | inr b ↦ beyond i b
            ];
      }
    where
      beyond : (i : ℕ) → at + n ≤ i → get_or after i 0 ≡ get_or before i 0
      beyond i b =
          let j = i - (at + n) in
          ap (λ a. get_or after a 0) (let q : i ≡ at + (length ys + j) = omega arith in q)
          ∙ past (length ys + j)
          ∙ get_or-append-add ys rest j 0
          ∙ get_or-drop k (drop at before) j 0
          ∙ get_or-drop at before (k + j) 0
          ∙ ap (λ a. get_or before a 0) (let q : at + (k + j) ≡ i = omega arith in q)
