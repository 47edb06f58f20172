-- Lines and columns are counted byte by byte. Assumes nothing.
use Rattle.std.proofs.Common.{◌≡◌, ℕ, ◌+◌, ◌≤◌, ◌<◌, List, drop, get_or, length, take, min, ap, sym, ◌∙◌, add-one, drop-cons}
use Rattle.std.proofs.lemmas.List.{take_min}
use Rattle.std.proofs.Math.ListN.{drop_of_length-le}
use borrow.Author.Tests.{eq-eqb, ne_eqb}
use Rattle.definitions.specs.Solve.{position, after_byte, after_bytes, position_of}

module _ (s : List ℕ) (at line column : ℕ) (h : at < length s) where
  -- the byte at an offset is counted, and those behind it are to come
  one : after_bytes (after_byte (position line column) (get_or s at 0)) (drop (at + 1) s) ≡ after_bytes (position line column) (drop at s)
  one = rw (add-one, drop-cons s at 0 h)

  pub count_feed : get_or s at 0 ≡ 10 → after_bytes (position (line + 1) 1) (drop (at + 1) s) ≡ after_bytes (position line column) (drop at s)
  count_feed e = rw (eq-eqb (get_or s at 0) 10 e, after_byte) at one

  pub count_byte : (get_or s at 0 ≡ 10 → ⊥)
      → after_bytes (position line (column + 1)) (drop (at + 1) s) ≡ after_bytes (position line column) (drop at s)
  count_byte e = rw (ne_eqb (get_or s at 0) 10 e, after_byte) at one

pub count_all : (text : List ℕ) (place n at line column : ℕ) → n ≡ min place (length text) → length (take n text) ≤ at
    → after_bytes (position line column) (drop at (take n text)) ≡ after_bytes (position 1 1) (take n text)
    → position line column ≡ position_of text place
unfolding position_of
count_all text place n at line column e h left =
    sym (ap (after_bytes (position line column)) (drop_of_length-le (take n text) h)) ∙ left
    ∙ ap (after_bytes (position 1 1)) (ap (λ (k : ℕ). take k text) e ∙ take_min place text)
