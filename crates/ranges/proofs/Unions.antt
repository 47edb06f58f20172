-- Unions of classes, one variable more at a time. Assumes nothing.
use mathlib.Core.Path.{◌≡◌, sym, ◌∙◌, subst}
use Prim.Native.Nat.{ℕ, ◌+◌}
use native.Mathlib.Omega.{arith}
use mathlib.Core.Bool.{true, false, false≢true}
use mathlib.Core.Logic.{◌⊎◌, inl, inr}
use mathlib.Core.List.{List}
use lib.ListN.{get_or}
use lib.Bits.{bit_or}
use Rattle.theorems.proofs.Laws.Tests.{or_cases, or_left, or_right, split}
use Rattle.ranges.specs.Sets.{in_set, InUnion, UnionIs}
use Rattle.ranges.proofs.SetLaws.{in_or}

module _ (sets : List ℕ) (these : ℕ) where
  module _ (n all : ℕ) (u : UnionIs sets these n all) where
    further : (v : ℕ) → InUnion sets these n v → InUnion sets these (n + 1) v
    further v w = let h = w.1 in (w.0, omega arith, w.2, w.3)

    last : (v : ℕ) → InUnion sets these (n + 1) v
        → InUnion sets these n v ⊎ ((in_set these n ≡ true) × (in_set (get_or sets n 0) v ≡ true))
    last v w =
        let h = w.1 in
        elim (split w.0 n) [
          | inl l ↦ inl (w.0, l, w.2, w.3)
          | inr l ↦
              let e : w.0 ≡ n = omega arith in
              inr (subst (λ (i : ℕ). (in_set these i ≡ true) × (in_set (get_or sets i 0) v ≡ true)) e (w.2, w.3))
        ]

    -- one variable more, in the set or not
    pub union_more : in_set these n ≡ true → UnionIs sets these (n + 1) (bit_or all (get_or sets n 0))
    union_more e =
        record {
          in_union =
              λ v p.
              elim (or_cases (in_set all v) (in_set (get_or sets n 0) v) (sym (in_or all (get_or sets n 0) v) ∙ p)) [
                | inl q ↦ further v (u.in_union v q)
                | inr q ↦ (n, omega arith, e, q)
              ];
          has_union =
              λ v w.
              in_or all (get_or sets n 0) v
              ∙ elim (last v w) [
                | inl x ↦ or_left (in_set all v) (in_set (get_or sets n 0) v) (u.has_union v x)
                | inr x ↦ or_right (in_set all v) (in_set (get_or sets n 0) v) x.1
              ];
        }

    pub union_same : in_set these n ≡ false → UnionIs sets these (n + 1) all
    union_same e =
        record {
          in_union = λ v p. further v (u.in_union v p);
          has_union =
              λ v w.
              elim (last v w) [ inl x ↦ u.has_union v x | inr x ↦ absurd (false≢true (sym e ∙ x.0)) ];
        }
