-- A digit laid run by run: it goes on by one after each run, and is 0 again after its last. Assumes nothing.
use mathlib.Core.Path.{◌≡◌, sym, ap, ◌∙◌}
use Prim.Native.Nat.{ℕ, ◌+◌, ◌*◌, ◌-◌, ◌/◌, ◌%◌, ◌≤◌, ◌<◌}
use native.Mathlib.Omega.{arith}
use native.Mathlib.Nat.{mul-le-mul_right, lt_of_mul-lt-mul_right, mod-lt, mod_self, mod-eq_of_lt, div-add-mod'}
use mathlib.Core.List.{List}
use mathlib.Core.Logic.{inl, inr}
use lib.Arith.{digits_div, digits_mod}
use lib.ListN.{get_or}
use Rattle.theorems.proofs.Laws.Tests.{split}
use Rattle.walk.specs.Cells.{Filled}
use Rattle.walk.specs.Laid.{DigitLaid}

-- so many lanes laid, which are whole runs, and the digit of the next run
pub record Running (at lanes run size least : ℕ) (before cells : List ℕ) (digit l : ℕ) : Type 0 where
  pub runs : ℕ
  pub runs_are : l ≡ runs * run
  pub digit_is : digit ≡ runs % size
  pub inside : l ≤ lanes
  pub laid : DigitLaid at l run size least before cells

pub digit_small : (at lanes run size least : ℕ) (before cells : List ℕ) (digit l : ℕ)
    → Running at lanes run size least before cells digit l → 1 ≤ size → digit < size
digit_small at lanes run size least before cells digit l r some =
    let e = r.digit_is in
    let b : r.runs % size < size = mod-lt r.runs some in
    omega arith

-- a digit that is not the last is below it
pub strict : (d n : ℕ) → d < n → (d + 1 ≡ n → ⊥) → d + 1 < n
strict d n h g = elim (split (d + 1) n) [ inl l ↦ l | inr l ↦ absurd (g (omega arith)) ]

-- whole runs that are not all lanes leave room for one more
pub run_fits : (lanes run runs l : ℕ) → lanes % run ≡ 0 → l ≡ runs * run → l < lanes → l + run ≤ lanes
run_fits lanes run runs l whole e h =
    let q = lanes / run in
    let sum : q * run + lanes % run ≡ lanes = div-add-mod' lanes run in
    let g : runs * run < q * run = omega arith in
    let m : (runs + 1) * run ≤ q * run = mul-le-mul_right run (let k = lt_of_mul-lt-mul_right run g in omega arith) in
    omega arith

module _ (runs size : ℕ) (some : 1 ≤ size) where
  sum : runs / size * size + runs % size ≡ runs
  sum = div-add-mod' runs size

  pub digit_turns : runs % size + 1 < size → runs % size + 1 ≡ (runs + 1) % size
  digit_turns h =
      let s = sum in
      let e : runs / size * size + (runs % size + 1) ≡ runs + 1 = omega arith in
      sym (digits_mod (runs / size) h) ∙ ap (λ x. x % size) e

  pub digit_returns : runs % size + 1 ≡ size → 0 ≡ (runs + 1) % size
  digit_returns h =
      let s = sum in
      let e : (runs / size + 1) * size + 0 ≡ runs + 1 = omega arith in
      sym (digits_mod (runs / size + 1) {m = size} {r = 0} some) ∙ ap (λ x. x % size) e

  pub digit_follows : (runs % size + 1) % size ≡ (runs + 1) % size
  digit_follows =
      elim (split (runs % size + 1) size) [
        | inl h ↦ mod-eq_of_lt h ∙ digit_turns h
        | inr h ↦
            (let b : runs % size < size = mod-lt runs some in
            let e : runs % size + 1 ≡ size = omega arith in
            ap (λ x. x % size) e ∙ mod_self size ∙ digit_returns e)
      ]

module _ (at lanes run size least n : ℕ) (before cells after : List ℕ) (digit l : ℕ)
    (r : Running at lanes run size least before cells digit l) (some : 1 ≤ size) (whole : lanes % run ≡ 0) (h : l < lanes) (wide : run ≤ n)
    (f : Filled n (at + l) (digit + least) cells after) where
  value : (m : ℕ) → l ≤ m → m < l + run → digit ≡ m / run % size
  value m g u =
      let s = r.runs_are in
      let low : m - l < run = omega arith in
      let e : r.runs * run + (m - l) ≡ m = omega arith in
      r.digit_is ∙ ap (λ x. x % size) (sym (digits_div r.runs low) ∙ ap (λ x. x / run) e)

  more_laid : DigitLaid at (l + run) run size least before after
  more_laid =
      record {
        inside =
            λ m u.
            elim (split m l) [
              | inl g ↦ f.outside (at + m) (inl (omega arith)) ∙ r.laid.inside m g
              | inr g ↦
                  (let q : at + m ≡ at + l + (m - l) = omega arith in
                  ap (λ i. get_or after i 0) q ∙ f.inside (m - l) (omega arith) ∙ ap (λ x. x + least) (value m g u))
            ];
        outside = λ i u. f.outside i (inl (omega arith)) ∙ r.laid.outside i u;
      }

  next_digit : (d : ℕ) → d ≡ (r.runs + 1) % size → Running at lanes run size least before after d (l + run)
  next_digit d e =
      record {
        runs = r.runs + 1;
        runs_are = let s = r.runs_are in omega arith;
        digit_is = e;
        inside = run_fits lanes run r.runs l whole r.runs_are h;
        laid = more_laid;
      }

  -- one run more
  pub run_more : (d : ℕ) → d ≡ (digit + 1) % size → Running at lanes run size least before after d (l + run)
  run_more d e = next_digit d (e ∙ ap (λ x. (x + 1) % size) r.digit_is ∙ digit_follows r.runs size some)
