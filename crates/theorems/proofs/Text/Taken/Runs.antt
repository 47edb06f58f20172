-- Small laws of the reader: equal tokens, runs over many tokens, the first of a list that passes a test. Assumes nothing.
use mathlib.Core.Path.{◌≡◌, refl, sym, ap, ap₂, ◌∙◌}
use Prim.Native.Nat.{ℕ, zero, suc}
use mathlib.Core.Bool.{Bool, true, false, false≢true}
use mathlib.Core.List.{List, [], ◌∷◌, ◌++◌}
use mathlib.Core.Option.{Option, none, some}
use lib.Dec.{eqb}
use borrow.Author.Tests.{eqb-true, eq-eqb}
use Rattle.theorems.proofs.Laws.Tests.{and_left, and_right, and_intro, some_same, none≢some}
use Rattle.definitions.specs.Text.Ascii.{same_bytes}
use Rattle.definitions.specs.Text.Tokens.{Token, opening, closing, nought, wrong, symbol, word, kind_of, name_of, same_token}
use Rattle.definitions.specs.Text.Reader.{State, step}
use Rattle.definitions.specs.Text.Heads.{first_with}

pub same_bytes_lem : (xs ys : List ℕ) → same_bytes xs ys ≡ true → xs ≡ ys
same_bytes_lem [] [] e = refl
same_bytes_lem [] (y ∷ ys) e = absurd (false≢true e)
same_bytes_lem (x ∷ xs) [] e = absurd (false≢true e)
same_bytes_lem (x ∷ xs) (y ∷ ys) e =
    ap₂ {C = List ℕ} (λ z zs. z ∷ zs) (eqb-true x y (and_left (eqb x y) (same_bytes xs ys) e)) (same_bytes_lem xs ys (and_right (eqb x y) (same_bytes xs ys) e))

pub bytes_same : (xs : List ℕ) → same_bytes xs xs ≡ true
bytes_same [] = refl
bytes_same (x ∷ xs) = and_intro (eqb x x) (same_bytes xs xs) (eq-eqb x x refl) (bytes_same xs)

-- a token from its kind and its name
abbrev token_of : ℕ → List ℕ → Token
token_of zero name = opening
token_of (suc zero) name = closing
token_of (suc (suc zero)) name = nought
token_of (suc (suc (suc zero))) name = wrong
token_of (suc (suc (suc (suc zero)))) name = symbol name
token_of (suc (suc (suc (suc (suc k))))) name = word name

token_of_lem : (x : Token) → token_of (kind_of x) (name_of x) ≡ x
token_of_lem opening = refl
token_of_lem closing = refl
token_of_lem nought = refl
token_of_lem wrong = refl
token_of_lem (symbol name) = refl
token_of_lem (word name) = refl

pub same_token_lem : (x y : Token) → same_token x y ≡ true → x ≡ y
same_token_lem x y e =
    let k = eqb-true (kind_of x) (kind_of y) (and_left (eqb (kind_of x) (kind_of y)) (same_bytes (name_of x) (name_of y)) e) in
    let n = same_bytes_lem (name_of x) (name_of y) (and_right (eqb (kind_of x) (kind_of y)) (same_bytes (name_of x) (name_of y)) e) in
    sym (token_of_lem x) ∙ ap₂ {C = Token} token_of k n ∙ token_of_lem y

pub token_same : (x : Token) → same_token x x ≡ true
token_same x = and_intro (eqb (kind_of x) (kind_of x)) (same_bytes (name_of x) (name_of x)) (eq-eqb (kind_of x) (kind_of x) refl) (bytes_same (name_of x))

-- the state after many tokens
abbrev pub runs : State → List Token → Option State
runs st [] = some st
runs st (t ∷ ts) = elim (step st t) [ none ↦ none | some st' ↦ runs st' ts ]

pub runs_step : (st st' : State) (t : Token) (ts : List Token) → step st t ≡ some st' → runs st (t ∷ ts) ≡ runs st' ts
runs_step st st' t ts e = ap (λ (o : Option State). next o) e
  where
    next : Option State → Option State
    next o = elim o [ none ↦ none | some s ↦ runs s ts ]

-- a run over two lists is a run over the first and then the second
pub runs_append : (st st' : State) (ts us : List Token) → runs st ts ≡ some st' → runs st (ts ++ us) ≡ runs st' us
runs_append st st' [] us e = ap (λ (s : State). runs s us) (some_same st st' e)
runs_append st st' (t ∷ ts) us e = go (step st t) refl e (λ s e'. runs_append s st' ts us e')
  where
    go : (o : Option State) → step st t ≡ o → ◌≡◌ {A = Option State} (elim o [ none ↦ none | some s ↦ runs s ts ]) (some st')
        → ((s : State) → runs s ts ≡ some st' → runs s (ts ++ us) ≡ runs st' us)
        → runs st (t ∷ ts ++ us) ≡ runs st' us
    go none p e' rec = absurd (none≢some e')
    go (some s) p e' rec = runs_step st s t (ts ++ us) p ∙ rec s e'

-- a run that goes on has gone over each first part
pub runs_prefix : (st last : State) (ts us : List Token) → runs st (ts ++ us) ≡ some last → (mid : State) × (runs st ts ≡ some mid)
runs_prefix st last [] us e = (st, refl)
runs_prefix st last (t ∷ ts) us e = go (step st t) refl e (λ s e'. runs_prefix s last ts us e')
  where
    go : (o : Option State) → step st t ≡ o → ◌≡◌ {A = Option State} (elim o [ none ↦ none | some s ↦ runs s (ts ++ us) ]) (some last)
        → ((s : State) → runs s (ts ++ us) ≡ some last → (mid : State) × (runs s ts ≡ some mid))
        → (mid : State) × (runs st (t ∷ ts) ≡ some mid)
    go none p e' rec = absurd (none≢some e')
    go (some s) p e' rec = let r = rec s e' in (r.0, runs_step st s t ts p ∙ r.1)

module _ {A : Type 0} (f : A → Bool) where
  -- what is found passes
  pub first_passes : (xs : List A) (x : A) → first_with f xs ≡ some x → f x ≡ true
  first_passes [] x e = absurd (none≢some e)
  first_passes (y ∷ xs) x e = go (f y) refl e (first_passes xs x)
    where
      go : (b : Bool) → f y ≡ b → ◌≡◌ {A = Option A} (elim b [ true ↦ some y | false ↦ first_with f xs ]) (some x)
          → (first_with f xs ≡ some x → f x ≡ true) → f x ≡ true
      go true p e' rec = ap f (sym (some_same y x e')) ∙ p
      go false p e' rec = rec e'

  pub first_skip : (x : A) (xs : List A) → f x ≡ false → first_with f (x ∷ xs) ≡ first_with f xs
  first_skip x xs p = ap pick p
    where
      pick : Bool → Option A
      pick b = elim b [ true ↦ some x | false ↦ first_with f xs ]

  pub first_here : (x : A) (xs : List A) → f x ≡ true → first_with f (x ∷ xs) ≡ some x
  first_here x xs p = ap pick p
    where
      pick : Bool → Option A
      pick b = elim b [ true ↦ some x | false ↦ first_with f xs ]
