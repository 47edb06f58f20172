-- The slow digits laid one after the other, each in all lanes of its cell. Assumes nothing.
use mathlib.Core.Path.{◌≡◌, sym, ap, ◌∙◌, subst}
use Prim.Native.Nat.{ℕ, ◌+◌, ◌*◌, ◌≤◌, ◌<◌}
use native.Mathlib.Omega.{arith}
use native.Mathlib.Nat.{mul-le-mul_left}
use mathlib.Core.List.{List}
use mathlib.Core.Logic.{◌⊎◌, inl, inr}
use lib.ListN.{length, get_or, take, length-take, get_or-eq_default}
use lib.Seq.{get_or-take, length-take-le}
use Rattle.theorems.proofs.Laws.Tests.{split}
use Rattle.walk.specs.Cells.{Filled, least_of, SlowHeld, SlowLaid}

module _ (S N F : ℕ) (xs : List ℕ) (j : ℕ) (before cells after : List ℕ) (s : SlowLaid S N F xs j before cells)
    (least : ℕ) (e : least ≡ least_of N (F + j)) (f : Filled S (S * (2 + (F + j))) (get_or xs j 0 + least) cells after) where
  earlier : (i l : ℕ) → i < j → l < S → S * (2 + (F + i)) + l < S * (2 + (F + j))
  earlier i l h g =
      let m : S * (3 + (F + i)) ≤ S * (2 + (F + j)) = mul-le-mul_left S (omega arith) in
      let q : S * (3 + (F + i)) ≡ S * (2 + (F + i)) + S = omega arith in
      omega arith

  held : SlowHeld S N F xs j after
  held l h = f.inside l h ∙ ap (λ x. get_or xs j 0 + x) e

  pub slow_more : SlowLaid S N F xs (j + 1) before after
  slow_more =
      record {
        laid =
            λ i h.
            elim (split i j) [
              | inl u ↦ (λ l g. f.outside (S * (2 + (F + i)) + l) (inl (earlier i l u g)) ∙ s.laid i u l g)
              | inr u ↦ subst (λ k. SlowHeld S N F xs k after) (let q : j ≡ i = omega arith in q) held
            ];
        outside =
            λ i h.
            elim h [
              | inl u ↦
                  (let m : S * (2 + F) ≤ S * (2 + (F + j)) = mul-le-mul_left S (omega arith) in
                  f.outside i (inl (omega arith)) ∙ s.outside i (inl u))
              | inr u ↦
                  (let q : S * (2 + (F + (j + 1))) ≡ S * (2 + (F + j)) + S = omega arith in
                  f.outside i (inr (omega arith)) ∙ s.outside i (inr (omega arith)))
            ];
      }

-- so many of the digits are laid where they stand by themselves
pub slow_part : (S N F : ℕ) (ds : List ℕ) (n : ℕ) (before after : List ℕ) → n ≤ length ds → SlowLaid S N F (take n ds) (length (take n ds)) before after
    → SlowLaid S N F ds n before after
slow_part S N F ds n before after h s =
    let e = length-take-le n ds h in
    record {
      laid = λ j b l g. s.laid j (omega arith) l g ∙ ap (λ x. x + least_of N (F + j)) (get_or-take n ds j 0 b);
      outside = λ i b. s.outside i (subst (λ m. (i < S * (2 + F)) ⊎ (S * (2 + (F + m)) ≤ i)) (sym e) b);
    }

-- and small, as they are
pub small_part : (ds : List ℕ) (n : ℕ) → ((v : ℕ) → get_or ds v 0 + 1 < 256) → (v : ℕ) → get_or (take n ds) v 0 + 1 < 256
small_part ds n h v =
    elim (split v n) [
      | inl b ↦ (let e = get_or-take n ds v 0 b in let u = h v in omega arith)
      | inr b ↦ (let e : get_or (take n ds) v 0 ≡ 0 = get_or-eq_default (take n ds) 0 (let m = length-take n ds in omega arith) in omega arith)
    ]
