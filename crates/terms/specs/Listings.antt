-- The fields of a list's row. Assumes nothing.
use Rattle.std.specs.Prelude.{◌≡◌, refl, ℕ, zero, suc, ◌≤◌, List, [], ◌∷◌, length, get_or, take}
use Rattle.std.proofs.Common.{ap, sym, ◌∙◌, arith, reverse}
use Rattle.std.proofs.Math.Seq.{take-suc}
use Rattle.std.proofs.lemmas.List.{reverse-append, reverse-reverse}
use Rattle.terms.specs.Lists.{Row}
use Rattle.terms.specs.Padded.{padded, Filled, length-filled}
use Rattle.terms.specs.Rowing.{waiting_in}

-- what waits stands in the code the other way round
pub waiting_reversed : (pending : List ℕ) (n : ℕ) → n ≤ length pending → waiting_in pending n ≡ reverse (take n pending)
waiting_reversed pending zero h = refl
waiting_reversed pending (suc n) h =
    ap {B = List ℕ} (λ ns. get_or pending n 0 ∷ ns) (waiting_reversed pending n (omega arith))
    ∙ sym (ap reverse (take-suc pending n 0 (omega arith)) ∙ reverse-append (take n pending) (get_or pending n 0 ∷ []))

abbrev pub firsts_back : Row → List ℕ
firsts_back row = row.first ∷ row.second ∷ row.third ∷ []

abbrev pub pending_back : List ℕ → List ℕ
pending_back waiting = padded 0 256 (reverse waiting)

pub firsts_are : (firsts : List ℕ) → length firsts ≡ 3 → get_or firsts 0 0 ∷ get_or firsts 1 0 ∷ get_or firsts 2 0 ∷ [] ≡ firsts
firsts_are [] h = absurd (omega arith)
firsts_are (a ∷ []) h = absurd (omega arith)
firsts_are (a ∷ b ∷ []) h = absurd (omega arith)
firsts_are (a ∷ b ∷ c ∷ []) h = refl
firsts_are (a ∷ b ∷ c ∷ d ∷ rest) h = absurd (omega arith)

pub pending_are : (pending : List ℕ) (n : ℕ) → n ≤ 256 → Filled 0 256 pending n → pending_back (waiting_in pending n) ≡ pending
pending_are pending n h e =
    let long = length-filled 0 256 pending n e in
    ap (padded 0 256) (ap reverse (waiting_reversed pending n (omega (arith, long))) ∙ reverse-reverse (take n pending)) ∙ e

pub waiting_is : (pending : List ℕ) (n : ℕ) → length (waiting_in pending n) ≡ n
waiting_is pending zero = refl
waiting_is pending (suc n) = ap suc (waiting_is pending n)
