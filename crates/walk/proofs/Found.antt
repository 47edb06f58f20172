-- The first of some lanes that is 0, where they stand among the cells. Assumes nothing.
use mathlib.Core.Path.{◌≡◌, refl, sym, ap, ◌∙◌}
use Prim.Native.Nat.{ℕ, zero, suc, ◌+◌, ◌-◌, ◌≤◌, ◌<◌}
use native.Mathlib.Omega.{arith}
use mathlib.Core.Bool.{Bool, true, false, not, cond}
use mathlib.Core.List.{List, [], ◌∷◌}
use lib.ListN.{length, get_or, take, drop, length-take, length-drop}
use lib.Seq.{get_or-take, get_or-drop}
use lib.Dec.{eqb}
use borrow.Author.Tests.{eqb-true, eqb-false, lt-ltb, le-ltb}
use Rattle.std.specs.Prelude.{Some, None, position}
use Rattle.std.specs.List.{position_or_len, prefix_len, list_any}
use Rattle.std.proofs.lemmas.List.Sums.{position_or_len_is}
use Rattle.std.proofs.lemmas.List.Folds.{list_any_at}
use Rattle.std.proofs.lemmas.List.Quantifiers.{position-Some}

prefix_less : (q : ℕ → Bool) (x : ℕ) (xs : List ℕ) (k : ℕ) → prefix_len q xs ≤ k → prefix_len q (x ∷ xs) ≤ suc k
prefix_less q x xs k h = go (q x) refl
  where
    go : (b : Bool) → q x ≡ b → cond b (1 + prefix_len q xs) 0 ≤ suc k
    go true t = omega arith
    go false t = omega arith

first_low : (q : ℕ → Bool) (xs : List ℕ) (k : ℕ) → k < length xs → q (get_or xs k 0) ≡ false → prefix_len q xs ≤ k
first_low q [] k h e = absurd (omega arith)
first_low q (x ∷ xs) zero h e = rw e (omega arith)
first_low q (x ∷ xs) (suc k) h e = prefix_less q x xs k (first_low q xs k (omega arith) e)

-- where no position is found, no element passes
pub none_passes : (p : ℕ → Bool) (xs : List ℕ) → position p xs ≡ None → (k : ℕ) → k < length xs → p (get_or xs k 0) ≡ false
none_passes p xs e k h = go (p (get_or xs k 0)) refl
  where
    go : (b : Bool) → p (get_or xs k 0) ≡ b → b ≡ false
    go false t = refl
    go true t =
        let low = first_low (λ x. not (p x)) xs k h (ap not t) in
        let lt : position_or_len p xs < length xs = omega arith in
        let f : position p xs ≡ Some (position_or_len p xs) = rw (lt-ltb _ _ lt) in
        cc

-- and where none passes, none is found
pub none_found : (p : ℕ → Bool) (xs : List ℕ) → ((k : ℕ) → k < length xs → p (get_or xs k 0) ≡ false) → position p xs ≡ None
none_found p xs h =
    let e = position_or_len_is p xs (length xs) 0 (omega arith) h (λ g. absurd (omega arith)) in
    rw (le-ltb (position_or_len p xs) (length xs) (omega arith))

-- no element is that of which a test says that none is
pub none_any : (p : ℕ → Bool) (xs : List ℕ) → list_any p xs ≡ false → (k : ℕ) → k < length xs → p (get_or xs k 0) ≡ false
none_any p xs e k h = go (p (get_or xs k 0)) refl
  where
    go : (b : Bool) → p (get_or xs k 0) ≡ b → b ≡ false
    go false t = refl
    go true t = let a = list_any_at p xs k 0 h t in cc

-- the first of so many lanes from an offset on that is 0, or as many as there are
pub record FirstLane (cells : List ℕ) (at many r : ℕ) : Type 0 where
  pub inside : r ≤ many
  pub before : (l : ℕ) → l < r → get_or cells (at + l) 0 ≡ 0 → ⊥
  pub there : r < many → get_or cells (at + r) 0 ≡ 0

module _ (cells : List ℕ) (at many : ℕ) (fits : at + many ≤ length cells) where
  -- the lanes of a part of the cells
  abbrev part : List ℕ
  part = take (at + many - at) (drop at cells)

  part_length : length part ≡ many
  part_length = simp (length-take, length-drop) (omega arith)

  in_part : (l : ℕ) → l < many → get_or part l 0 ≡ get_or cells (at + l) 0
  in_part l h = get_or-take (at + many - at) (drop at cells) l 0 (omega arith) ∙ get_or-drop at cells l 0

  pub found_some : (l : ℕ) → position (λ x. eqb x 0) part ≡ Some l → FirstLane cells at many l × (l < many)
  found_some l e =
      let f = position-Some (λ x. eqb x 0) part l 0 e in
      let n = part_length in
      let low : l < many = (let z = f.0 in omega arith) in (
        record {
          inside = omega arith;
          before = λ k h z. not_zero _ (f.2 k h) (in_part k (omega arith) ∙ z);
          there = λ h. sym (in_part l low) ∙ eqb-true _ 0 f.1;
        },
        low,
      )
    where
      not_zero : (x : ℕ) → eqb x 0 ≡ false → x ≡ 0 → ⊥
      not_zero x f z = eqb-false x 0 f z

  pub found_none : position (λ x. eqb x 0) part ≡ None → FirstLane cells at many many
  found_none e =
      record {
        inside = omega arith;
        before = λ k h z. let n = part_length in eqb-false _ 0 (none_passes (λ x. eqb x 0) part e k (omega arith)) (in_part k h ∙ z);
        there = λ h. absurd (omega arith);
      }
