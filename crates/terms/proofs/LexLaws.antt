-- Laws of the lexer: how far the bytes of a word go, and those between bars. Assumes nothing.
use mathlib.Core.Path.{◌≡◌, refl, sym, ap, ◌∙◌}
use Prim.Native.Nat.{ℕ, suc, ◌+◌, ◌-◌, ◌≤◌, ◌<◌}
use native.Mathlib.Omega.{arith}
use mathlib.Core.Bool.{Bool, true, false, false≢true}
use mathlib.Core.List.{List, [], ◌∷◌}
use mathlib.Core.Logic.{◌⊎◌, inl, inr}
use mathlib.Core.Option.{Option, none, some}
use lib.ListN.{length, get_or, take, drop, length-drop}
use lib.Seq.{get_or-drop}
use lib.Dec.{eqb}
use Rattle.std.proofs.lemmas.Bool.{eqb-true}
use Rattle.std.proofs.lemmas.List.{get_or_past}
use Rattle.std.specs.Prelude.{cond, Some, None}
use Rattle.std.specs.Bool.{then_some}
use Rattle.std.specs.List.{take_while}
use Rattle.std.proofs.lemmas.List.Sums.{take_while-cons}
use Rattle.definitions.specs.Text.Tokens.{word_byte, bar_byte, run, barred}
use Rattle.terms.specs.Lexing.{RunsTo, BarredTo}

-- the bytes from the first on that are bytes of a word, and as many as they are
run_passes : (xs : List ℕ) → run xs ≡ take_while word_byte xs
run_passes [] = refl
run_passes (x ∷ xs) = go (word_byte x) (run_passes xs) ∙ sym (take_while-cons word_byte x xs)
  where
    go : (b : Bool) → run xs ≡ take_while word_byte xs
        → elim b as (λ _. List ℕ) [ true ↦ x ∷ run xs | false ↦ [] ] ≡ cond b (x ∷ take_while word_byte xs) []
    go true e = ap (λ l. x ∷ l) e
    go false e = refl

run_taken : (xs : List ℕ) → (run xs ≡ take (length (run xs)) xs) × (length (run xs) ≤ length xs)
run_taken [] = (refl, omega arith)
run_taken (x ∷ xs) = go (word_byte x) (run_taken xs)
  where
    go : (b : Bool) → (run xs ≡ take (length (run xs)) xs) × (length (run xs) ≤ length xs)
        → let r = elim b as (λ _. List ℕ) [ true ↦ x ∷ run xs | false ↦ [] ] in (r ≡ take (length r) (x ∷ xs)) × (length r ≤ length (x ∷ xs))
    go true e = (ap (λ l. x ∷ l) e.0, omega (arith, e.1))
    go false e = (refl, omega arith)

pub runs_to : (text : List ℕ) (from : ℕ) → from ≤ length text → (n : ℕ) → n ≡ length (take_while word_byte (drop from text))
    → RunsTo text from (run (drop from text)) (from + n)
runs_to text from h n e =
    let m : n ≡ length (run (drop from text)) = e ∙ ap length (sym (run_passes (drop from text))) in
    let t = run_taken (drop from text) in
    let d = length-drop from text in
    record {
      bytes_are = t.0 ∙ ap (λ k. take k (drop from text)) (let z : length (run (drop from text)) ≡ from + n - from = omega (arith, m) in z);
      onward = omega arith;
      inside = omega (arith, m, t.1, d);
    }

-- the bytes that may stand between bars, from the first on, and the byte that ends them: no bar is one of them
abbrev bars : List ℕ → ℕ
bars [] = 0
bars (x ∷ xs) = elim (bar_byte x) [ true ↦ suc (bars xs) | false ↦ 0 ]

bars_passes : (xs : List ℕ) → bars xs ≡ length (take_while bar_byte xs)
bars_passes [] = refl
bars_passes (x ∷ xs) = go (bar_byte x) (bars_passes xs) ∙ ap length (sym (take_while-cons bar_byte x xs))
  where
    go : (b : Bool) → bars xs ≡ length (take_while bar_byte xs)
        → elim b as (λ _. ℕ) [ true ↦ suc (bars xs) | false ↦ 0 ] ≡ length {A = ℕ} (cond b (x ∷ take_while bar_byte xs) [])
    go true e = ap (λ (n : ℕ). suc n) e
    go false e = refl

abbrev ended : List ℕ → ℕ → Option (List ℕ)
ended xs n = elim (eqb (get_or xs n 0) 124) [ true ↦ some (take n xs) | false ↦ none ]

bars_end : (xs : List ℕ) → barred xs ≡ ended xs (bars xs)
bars_end [] = refl
bars_end (x ∷ xs) = go (eqb x 124) (bar_byte x) (bars_end xs) refl refl
  where
    push : (b : Bool) → elim (elim b as (λ _. Option (List ℕ)) [ true ↦ some (take (bars xs) xs) | false ↦ none ]) [ none ↦ none | some name ↦ some (x ∷ name) ]
        ≡ elim b as (λ _. Option (List ℕ)) [ true ↦ some (x ∷ take (bars xs) xs) | false ↦ none ]
    push true = refl
    push false = refl

    go : (bar fine : Bool) → barred xs ≡ ended xs (bars xs) → eqb x 124 ≡ bar → bar_byte x ≡ fine
        → elim bar as (λ _. Option (List ℕ)) [
          | true ↦ some []
          | false ↦ elim fine as (λ _. Option (List ℕ)) [ true ↦ elim (barred xs) [ none ↦ none | some name ↦ some (x ∷ name) ] | false ↦ none ]
        ]
        ≡ ended (x ∷ xs) (elim fine as (λ _. ℕ) [ true ↦ suc (bars xs) | false ↦ 0 ])
    go true true l e f = absurd (false≢true (sym (ap bar_byte (eqb-true x 124 e)) ∙ f))
    go false true l e f = ap (λ (o : Option (List ℕ)). elim o as (λ _. Option (List ℕ)) [ none ↦ none | some name ↦ some (x ∷ name) ]) l ∙ push (eqb (get_or xs (bars xs) 0) 124)
    go true false l e f = ap (λ (b : Bool). elim b as (λ _. Option (List ℕ)) [ true ↦ some [] | false ↦ none ]) (sym e)
    go false false l e f = ap (λ (b : Bool). elim b as (λ _. Option (List ℕ)) [ true ↦ some [] | false ↦ none ]) (sym e)

module _ (text : List ℕ) (from n : ℕ) (h : from ≤ length text) (e : n ≡ length (take_while bar_byte (drop from text))) where
  ends_at : barred (drop from text) ≡ elim (eqb (get_or text (from + n) 0) 124) as (λ _. Option (List ℕ)) [ true ↦ some (take n (drop from text)) | false ↦ none ]
  ends_at =
      bars_end (drop from text)
      ∙ ap (ended (drop from text)) (bars_passes (drop from text) ∙ sym e)
      ∙ ap (λ (b : ℕ). elim (eqb b 124) as (λ _. Option (List ℕ)) [ true ↦ some (take n (drop from text)) | false ↦ none ]) (get_or-drop from text n 0)

  bars_closed : from + n < length text → eqb (get_or text (from + n) 0) 124 ≡ true → BarredTo text from (Some (from + n))
  bars_closed i b = (
    ends_at
        ∙ ap (λ (b : Bool). elim b as (λ _. Option (List ℕ)) [ true ↦ some (take n (drop from text)) | false ↦ none ]) b
        ∙ ap (λ (k : ℕ). some (take k (drop from text))) (let z : n ≡ from + n - from = omega arith in z),
    omega arith,
    i,
  )

  bars_open : eqb (get_or text (from + n) 0) 124 ≡ false → BarredTo text from None
  bars_open f = ends_at ∙ ap (λ (b : Bool). elim b as (λ _. Option (List ℕ)) [ true ↦ some (take n (drop from text)) | false ↦ none ]) f

  pub bars_to : (b : Bool) → ((from + n < length text) × (b ≡ eqb (get_or text (from + n) 0) 124)) ⊎ ((length text ≤ from + n) × (b ≡ false))
      → BarredTo text from (then_some b (from + n))
  bars_to true (inl p) = bars_closed p.0 (sym p.1)
  bars_to false (inl p) = bars_open (sym p.1)
  bars_to true (inr p) = absurd (false≢true (sym p.1))
  bars_to false (inr p) = bars_open (ap (λ (x : ℕ). eqb x 124) (get_or_past text (from + n) 0 p.0))
