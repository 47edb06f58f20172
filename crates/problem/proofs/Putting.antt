-- Bytes put at the start of a lent tail: what the whole buffer is once the tail is back. Assumes nothing.
use borrow.Rule.Slice.PartMut.{put_mid, mid_of, post_of}
use native.Mathlib.Omega.{arith}
use mathlib.Core.Path.{◌≡◌, sym, ap, ap₂, ◌∙◌}
use Prim.Native.Nat.{ℕ, ◌+◌, ◌-◌, ◌≤◌}
use mathlib.Core.List.{List, [], ◌++◌, append_assoc, append-nil}
use lib.ListN.{length, take, drop, length-append, length-drop}
use lib.Seq.{take_all, take_at, drop_at, drop-drop, drop-length, drop-append-add}
use Rattle.definitions.specs.Operations.Buffers.{over}

module _ (before : List ℕ) (at : ℕ) (fits : at ≤ length before) where
  -- the tail that is lent is all that stands from there on
  pub tail_whole : mid_of at (length before - at) before ≡ drop at before
  tail_whole = take_all (length before - at) (drop at before) (omega (arith, length-drop at before))

  nothing_after : post_of at (length before - at) before ≡ []
  nothing_after = ap (λ k. drop k (drop at before)) (sym (length-drop at before)) ∙ drop-length (drop at before)

  -- what was put at its start stands there; what stood before it and after it stays
  pub put_there : (bytes ys : List ℕ) → ys ≡ over bytes (mid_of at (length before - at) before)
      → put_mid at (length before - at) before ys ≡ take at before ++ bytes ++ drop (at + length bytes) before
  put_there bytes ys y =
      ap (λ l. take at before ++ l)
      (ap₂ {C = List ℕ} (λ x z. x ++ z)
      (y ∙ ap (over bytes) tail_whole ∙ ap (λ z. bytes ++ z) (drop-drop (length bytes) at before)) nothing_after
      ∙ append-nil (bytes ++ drop (at + length bytes) before))
      ∙ sym (append_assoc (take at before) bytes (drop (at + length bytes) before))

-- what stands straight after the bytes laid so far is laid too
pub over_more : (before laid buffer bytes : List ℕ) (at : ℕ) → length laid ≡ at → before ≡ over laid buffer
    → take at before ++ bytes ++ drop (at + length bytes) before ≡ over (laid ++ bytes) buffer
over_more before laid buffer bytes at l e =
    let rest = drop (length laid) buffer in
    let n = length bytes in
    ap₂ {C = List ℕ} (λ x z. x ++ bytes ++ z) (ap (take at) e ∙ take_at laid rest at l)
    (sym (drop-drop n at before) ∙ ap (drop n) (ap (drop at) e ∙ drop_at laid rest at l) ∙ drop-drop n (length laid) buffer
    ∙ ap (λ k. drop k buffer) (sym (length-append laid bytes)))

-- so it is with what is put at the start of the tail after them
pub put_more : (before laid buffer bytes ys : List ℕ) (at : ℕ) → length laid ≡ at → before ≡ over laid buffer
    → ys ≡ over bytes (mid_of at (length before - at) before)
    → put_mid at (length before - at) before ys ≡ over (laid ++ bytes) buffer
put_more before laid buffer bytes ys at l e y =
    let fits : at ≤ length before = omega (arith, ap length e, length-append laid (drop (length laid) buffer)) in
    put_there before at fits bytes ys y ∙ over_more before laid buffer bytes at l e

-- what was laid first does not show where no fewer bytes are laid over it
pub over_over : (bytes first buffer : List ℕ) → length first ≤ length bytes → over bytes (over first buffer) ≡ over bytes buffer
over_over bytes first buffer h =
    let k = length bytes - length first in
    let e : length bytes ≡ length first + k = omega arith in
    ap (λ l. bytes ++ l)
    (ap (λ n. drop n (over first buffer)) e
    ∙ drop-append-add first (drop (length first) buffer) k
    ∙ drop-drop k (length first) buffer
    ∙ ap (λ n. drop n buffer) (sym e))
