-- Marks, one more at a time, and all that the root reaches: what the walk from the root down keeps. Assumes nothing.
use mathlib.Core.Path.{◌≡◌, refl, sym, ap, ◌∙◌}
use Prim.Native.Nat.{ℕ, suc, ◌+◌, ◌<◌}
use native.Mathlib.Omega.{arith}
use mathlib.Core.Bool.{Bool, true, false, cond, ◌||◌}
use mathlib.Core.List.{List, [], ◌∷◌}
use lib.ListN.{length, get_or, set, take}
use lib.Seq.{take-suc, get_or-set_same, get_or-set_other}
use lib.Dec.{eqb}
use borrow.Author.Tests.{eqb-true, eq-eqb}
use Rattle.theorems.proofs.Asked.Marks.{mark, mark_append}
use Rattle.asked.specs.Reached.{Marked}

-- an operand more is marked
pub mark_one : (ops before now : List ℕ) (j : ℕ) → j < length ops → get_or ops j 0 < length now → Marked (take j ops) before now
    → Marked (take (j + 1) ops) before (set now (get_or ops j 0) 1)
mark_one ops before now j h w m i l =
    go (eqb i o) refl
    ∙ sym (ap (λ (xs : List ℕ). cond (mark xs i) 1 (get_or before i 0)) (ap (λ (n : ℕ). take n ops) (let e : j + 1 ≡ suc j = omega arith in e) ∙ take-suc ops j 0 h) ∙ ap (λ (b : Bool). cond b 1 (get_or before i 0)) (mark_append i (take j ops) (o ∷ [])))
  where
    o : ℕ
    o = get_or ops j 0

    last : (a b : Bool) (x y : ℕ) → b ≡ false → x ≡ cond a 1 y → x ≡ cond (a || (b || false)) 1 y
    last true b x y e p = p
    last false b x y e p = rw e p

    here : (a b : Bool) (y : ℕ) → b ≡ true → 1 ≡ cond (a || (b || false)) 1 y
    here true b y e = refl
    here false b y e = rw e

    go : (b : Bool) → eqb i (get_or ops j 0) ≡ b
        → get_or (set now (get_or ops j 0) 1) i 0 ≡ cond (mark (take j ops) i || (eqb i (get_or ops j 0) || false)) 1 (get_or before i 0)
    go true e =
        ap (λ (k : ℕ). get_or (set now (get_or ops j 0) 1) k 0) (eqb-true i (get_or ops j 0) e) ∙ get_or-set_same now (get_or ops j 0) 1 0 w
        ∙ here (mark (take j ops) i) (eqb i (get_or ops j 0)) (get_or before i 0) e
    go false e =
        get_or-set_other now (get_or ops j 0) i 1 0 (λ q. mathlib.Core.Bool.true≢false (sym (eq-eqb i (get_or ops j 0) q) ∙ e))
        ∙ last (mark (take j ops) i) (eqb i (get_or ops j 0)) (get_or now i 0) (get_or before i 0) e (m i l)
