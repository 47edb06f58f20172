-- What an outcome says of the places, for any test of places, and that it is the outcome exactly when this is true; a
-- greater budget changes only stopped. Assumes nothing.
use mathlib.Core.Path.{◌≡◌, refl, sym, ap, ◌∙◌, subst}
use Prim.Native.Nat.{ℕ, zero, suc, ◌+◌, min, ◌≤◌, ◌<◌}
use native.Mathlib.Omega.{arith}
use native.Mathlib.Nat.{le_antisymm, min-eq_left, min-eq_right}
use mathlib.Core.Bool.{Bool, true, false, cond, false≢true}
use mathlib.Core.Logic.{◌⊎◌, inl, inr}
use mathlib.Core.Option.{Option, none, some}
use lib.Dec.{leb}
use borrow.Author.Tests.{leb-true, leb-false}
use Rattle.definitions.specs.Verdict.{Outcome, valid, falsified, stopped, first_false, within, outcome_at, outcome}
use Rattle.theorems.specs.Searched.{AllTrue, FirstFalse, Says, tried_within}
use Rattle.theorems.proofs.Laws.Tests.{split}

-- what a search of the places 1 to n finds
abbrev Found : (ℕ → Bool) → ℕ → Option ℕ → Type 0
Found good n o = ((o ≡ none) × AllTrue good n) ⊎ ((p : ℕ) × (o ≡ some p) × FirstFalse good n p)

-- the last k of n places are still to be searched, and those before p are true
search_rest : (good : ℕ → Bool) (n p k : ℕ) → p + k ≡ suc n → 1 ≤ p → ((q : ℕ) → 1 ≤ q → q < p → good q ≡ true)
    → Found good n (first_false good p k)
search_rest good n p zero e h before = inl (refl, λ q l m. before q l (omega arith))
search_rest good n p (suc k) e h before =
    go (good p) refl (λ further. search_rest good n (suc p) k (omega arith) (omega arith) further)
  where
    go : (b : Bool) → good p ≡ b
        → (((q : ℕ) → 1 ≤ q → q < suc p → good q ≡ true) → Found good n (first_false good (suc p) k))
        → Found good n (elim b [ true ↦ first_false good (suc p) k | false ↦ some p ])
    go true g rest =
        rest
        (λ q l m.
        elim (split q p) [ inl a ↦ before q l a | inr a ↦ ap good (let s : q ≡ p = omega arith in s) ∙ g ])
    go false g rest = inr (p, refl, record { low = h; high = omega arith; fails = g; before = before })

-- either no place is false, or one is the first
pub first_or_none : (good : ℕ → Bool) (n : ℕ)
    → ((first_false good 1 n ≡ none) × AllTrue good n) ⊎ ((p : ℕ) × (first_false good 1 n ≡ some p) × FirstFalse good n p)
first_or_none good n = search_rest good n 1 n (omega arith) (omega arith) (λ q l m. absurd (omega arith))

within_cases : (P : Outcome → Type 0) (b p : ℕ) (o : ℕ → Outcome) → (p ≤ b → P (o p)) → (b < p → P (stopped b))
    → P (within b p o)
within_cases P b p o inside past = go (leb p b) refl
  where
    go : (c : Bool) → leb p b ≡ c → P (elim c [ true ↦ o p | false ↦ stopped b ])
    go true e = inside (leb-true p b e)
    go false e = past (leb-false p b e)

says : (good : ℕ → Bool) (b n : ℕ) → Says good b n (outcome b n good)
says good b n = go (first_false good 1 n) (first_or_none good n)
  where
    go : (o : Option ℕ) → Found good n o → Says good b n (outcome_at b n o)
    go o (inl f) =
        rw f.0
        (within_cases (Says good b n) b n valid (λ h. (refl, h, f.1))
        (λ h. (refl, h, λ q l m. f.1 q l (omega arith))))
    go o (inr f) =
        let r = f.2 in
        rw f.1
        (within_cases (Says good b n) b f.0 falsified (λ h. (h, r))
        (λ h. (refl, omega arith, λ q l m. r.before q l (omega arith))))

module _ {good : ℕ → Bool} {n : ℕ} where
  not_both : {m p : ℕ} → AllTrue good m → FirstFalse good n p → p ≤ m → ⊥
  not_both {p = p} a f h = false≢true (sym f.fails ∙ a p f.low h)

  first_le : {p q : ℕ} → FirstFalse good n p → FirstFalse good n q → p ≤ q
  first_le {p} {q} f g =
      elim (split q p) [ inl h ↦ absurd (false≢true (sym g.fails ∙ f.before q g.low h)) | inr h ↦ h ]

-- two outcomes that say what is true are the same
says_one : (good : ℕ → Bool) (b n : ℕ) (o o' : Outcome) → Says good b n o → Says good b n o' → o ≡ o'
says_one good b n (valid t) (valid t') s s' = ap valid (omega arith)
says_one good b n (valid t) (falsified t') s s' = absurd (not_both s.2 s'.1 s'.1.high)
says_one good b n (valid t) (stopped t') s s' = absurd (omega arith)
says_one good b n (falsified t) (valid t') s s' = absurd (not_both s'.2 s.1 s.1.high)
says_one good b n (falsified t) (falsified t') s s' =
    ap falsified (le_antisymm (first_le s.1 s'.1) (first_le s'.1 s.1))
says_one good b n (falsified t) (stopped t') s s' = absurd (not_both s'.2 s.1 s.0)
says_one good b n (stopped t) (valid t') s s' = absurd (omega arith)
says_one good b n (stopped t) (falsified t') s s' = absurd (not_both s.2 s'.1 s'.0)
says_one good b n (stopped t) (stopped t') s s' = ap stopped (omega arith)

says_when : (good : ℕ → Bool) (b n : ℕ) (o : Outcome) → Says good b n o → outcome b n good ≡ o
says_when good b n o s = says_one good b n (outcome b n good) o (says good b n) s

says_then : (good : ℕ → Bool) (b n : ℕ) (o : Outcome) → outcome b n good ≡ o → Says good b n o
says_then good b n o e = subst (Says good b n) e (says good b n)

pub valid_when : (good : ℕ → Bool) (b n : ℕ) → n ≤ b → AllTrue good n → outcome b n good ≡ valid n
valid_when good b n h a = says_when good b n (valid n) (refl, h, a)

pub falsified_when : (good : ℕ → Bool) (b n p : ℕ) → FirstFalse good n p → p ≤ b → outcome b n good ≡ falsified p
falsified_when good b n p f h = says_when good b n (falsified p) (h, f)

pub stopped_when : (good : ℕ → Bool) (b n : ℕ) → b < n → AllTrue good b → outcome b n good ≡ stopped b
stopped_when good b n h a = says_when good b n (stopped b) (refl, h, a)

pub valid_then : (good : ℕ → Bool) (b n t : ℕ) → outcome b n good ≡ valid t → (t ≡ n) × (n ≤ b) × AllTrue good n
valid_then good b n t e = says_then good b n (valid t) e

pub falsified_then : (good : ℕ → Bool) (b n t : ℕ) → outcome b n good ≡ falsified t → (t ≤ b) × FirstFalse good n t
falsified_then good b n t e = says_then good b n (falsified t) e

pub stopped_then : (good : ℕ → Bool) (b n t : ℕ) → outcome b n good ≡ stopped t → (t ≡ b) × (b < n) × AllTrue good b
stopped_then good b n t e = says_then good b n (stopped t) e

pub valid_grows : (good : ℕ → Bool) (b b' n t : ℕ) → b ≤ b' → outcome b n good ≡ valid t → outcome b' n good ≡ valid t
valid_grows good b b' n t h e =
    let s = valid_then good b n t e in
    says_when good b' n (valid t) (s.0, omega arith, s.2)

pub falsified_grows : (good : ℕ → Bool) (b b' n t : ℕ) → b ≤ b' → outcome b n good ≡ falsified t
    → outcome b' n good ≡ falsified t
falsified_grows good b b' n t h e =
    let s = falsified_then good b n t e in
    says_when good b' n (falsified t) (omega arith, s.1)

-- the count is the first false place if the budget reaches it, else the smaller of budget and product
abbrev pub count_of : Outcome → ℕ
count_of (valid t) = t
count_of (falsified t) = t
count_of (stopped t) = t

pub tried_is : (good : ℕ → Bool) (b n : ℕ) → count_of (outcome b n good) ≡ tried_within b n (first_false good 1 n)
tried_is good b n = go (first_false good 1 n) (first_or_none good n)
  where
    reached : (p : ℕ) → p ≤ n → (c : Bool) → leb p b ≡ c
        → count_of (elim c [ true ↦ falsified p | false ↦ stopped b ]) ≡ cond c p (min b n)
    reached p h true e = refl
    reached p h false e = let l = leb-false p b e in sym (min-eq_left (omega arith))

    go : (o : Option ℕ) → Found good n o → count_of (outcome_at b n o) ≡ tried_within b n o
    go o (inl f) =
        rw f.0
        (within_cases (λ o. count_of o ≡ min b n) b n valid (λ h. sym (min-eq_right h)) (λ h. sym (min-eq_left (omega arith))))
    go o (inr f) = rw f.1 (reached f.0 f.2.high (leb f.0 b) refl)

-- a budget of 0 tries nothing
pub nothing_tried : (good : ℕ → Bool) (n : ℕ) → 1 ≤ n → outcome 0 n good ≡ stopped 0
nothing_tried good n h = stopped_when good 0 n h (λ p l m. absurd (omega arith))
