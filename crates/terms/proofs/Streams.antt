-- The tokens from an offset on, by the first of them: a gap, a token, and the tokens after it. Assumes nothing.
use mathlib.Core.Path.{◌≡◌, refl, sym, ap, ap₂, ◌∙◌}
use Prim.Native.Nat.{ℕ, zero, suc, ◌+◌, ◌≤◌, ◌<◌}
use native.Mathlib.Omega.{arith}
use mathlib.Core.Bool.{Bool, true, false, false≢true}
use mathlib.Core.List.{List, [], ◌∷◌}
use mathlib.Core.Option.{Option, none, some}
use lib.ListN.{length, get_or, drop, length-drop, drop_of_length-le}
use lib.Seq.{drop-drop}
use lib.Dec.{eqb}
use Rattle.definitions.specs.Text.Tokens.{opening, closing, wrong, Placed, word_byte, blank, run, barred, lexeme, word_token, bar_token, token_at, tokens_from}
use Rattle.definitions.specs.Text.Tokens as tokens
use Rattle.terms.specs.Lexing.{token_there, tokens_at, led, LexemeWithin, BlankTo, TokenIs, Lexed}
use Rattle.terms.specs.declared.tokens.Lexeme.{Lexeme}
use Rattle.terms.specs.declared.tokens.Token.{Token}
use Rattle.terms.proofs.ByteLaws.{from_here}

abbrev token : Lexeme → ℕ → ℕ → Token
token l place next = record { lexeme = l; place = place; next = next }

-- each token takes a byte or more
each_takes : (b : ℕ) (bs : List ℕ) → 1 ≤ (token_at b bs).width
each_takes b bs = go (word_byte b) refl (eqb b 124) (barred bs) (eqb b 40) (eqb b 41)
  where
    runs : (w : Bool) → w ≡ true → 1 ≤ length {A = ℕ} (elim w as (λ _. List ℕ) [ true ↦ b ∷ run bs | false ↦ [] ])
    runs true e = omega arith
    runs false e = absurd (false≢true e)

    bars : (o : Option (List ℕ)) → 1 ≤ (bar_token o).width
    bars none = omega arith
    bars (some name) = omega arith

    go : (w : Bool) → word_byte b ≡ w → (bar : Bool) (o : Option (List ℕ)) (p q : Bool)
        → 1 ≤ (elim w as (λ _. tokens.Lexeme) [
          | true ↦ lexeme (word_token b (run (b ∷ bs))) (length (run (b ∷ bs)))
          | false ↦ elim bar [
            | true ↦ bar_token o
            | false ↦ elim p [ true ↦ lexeme opening 1 | false ↦ elim q [ true ↦ lexeme closing 1 | false ↦ lexeme wrong 1 ] ]
          ]
        ]).width
    go true e bar o p q = runs (word_byte b) e
    go false e true o p q = bars o
    go false e false o true q = omega arith
    go false e false o false true = omega arith
    go false e false o false false = omega arith

-- the tokens after a gap
abbrev tokens_by : ℕ → ℕ → List ℕ → List Placed
tokens_by f place rest =
    elim rest [
      | [] ↦ []
      | b ∷ bs ↦
          record { token = (token_at b bs).token; place = place } ∷ tokens_from f (place + (token_at b bs).width) (drop (token_at b bs).width (b ∷ bs))
    ]

-- the count of bytes is fuel enough: more of it changes nothing
pub no_tokens : (f at : ℕ) (s : List ℕ) → length s ≤ 0 → tokens_from f at s ≡ []
no_tokens zero at s h = refl
no_tokens (suc f) at [] h = refl
no_tokens (suc f) at (x ∷ xs) h = absurd (omega arith)

fuel : (f g at : ℕ) (s : List ℕ) → length s ≤ f → length s ≤ g → tokens_from f at s ≡ tokens_from g at s
fuel zero g at s p q = sym (no_tokens g at s p)
fuel (suc f) zero at s p q = no_tokens (suc f) at s q
fuel (suc f) (suc g) at s p q =
    go (drop gap s) (λ i r l m. fuel f g i r l m) (omega (arith, length-drop gap s)) (omega (arith, length-drop gap s))
  where
    gap : ℕ
    gap = blank false s

    go : (rest : List ℕ) → ((i : ℕ) (s : List ℕ) → length s ≤ f → length s ≤ g → tokens_from f i s ≡ tokens_from g i s)
        → length rest ≤ suc f → length rest ≤ suc g → tokens_by f (at + gap) rest ≡ tokens_by g (at + gap) rest
    go [] same l m = refl
    go (b ∷ bs) same l m =
        let w = (token_at b bs).width in
        let one = each_takes b bs in
        ap {B = List Placed} (λ (ts : List Placed). record { token = (token_at b bs).token; place = at + gap } ∷ ts)
        (same (at + gap + w) (drop w (b ∷ bs)) (omega (arith, length-drop w (b ∷ bs))) (omega (arith, length-drop w (b ∷ bs))))

-- the tokens from an offset on, by the first of them
module _ (text : List ℕ) (at place : ℕ) (h : at ≤ length text) (k : BlankTo text at place) where
  gap_passed : drop (blank false (drop at text)) (drop at text) ≡ drop place text
  gap_passed = drop-drop (blank false (drop at text)) at text ∙ ap (λ (n : ℕ). drop n text) (sym k.ends)

  tokens_by_lem : tokens_at text at ≡ tokens_by (length text) place (drop place text)
  unfolding tokens_at
  tokens_by_lem =
      fuel (length text) (suc (length text)) at (drop at text) (omega (arith, length-drop at text)) (omega (arith, length-drop at text))
      ∙ ap₂ {C = List Placed} (tokens_by (length text)) (sym k.ends) gap_passed

  onward : at ≤ place
  onward = let e = k.ends in omega arith

  pub ends_here : place ≡ length text → Lexed text at (token Lexeme.End place place)
  ends_here e =
      record {
        tokens_are = tokens_by_lem ∙ ap (tokens_by (length text) place) (drop_of_length-le text {i = place} (omega arith));
        fits = e;
        later = onward;
        inside = k.inside;
      }

  pub starts_here : (t : Token) → place < length text → TokenIs text place t → Lexed text at t
  unfolding tokens_at
  starts_here t l i =
      let w = (token_there text place).width in
      let there : tokens_at text at ≡ record { token = (token_there text place).token; place = place } ∷ tokens_from (length text) (place + w) (drop w (get_or text place 0 ∷ drop (place + 1) text)) =
      tokens_by_lem ∙ ap (tokens_by (length text) place) (from_here text place l) in
      let rest : drop w (get_or text place 0 ∷ drop (place + 1) text) ≡ drop t.next text =
      ap (drop w) (sym (from_here text place l)) ∙ drop-drop w place text ∙ ap (λ (n : ℕ). drop n text) (sym i.next_is) in
      let later : tokens_from (length text) (place + w) (drop w (get_or text place 0 ∷ drop (place + 1) text)) ≡ tokens_at text t.next =
      ap₂ {C = List Placed} (tokens_from (length text)) (sym i.next_is) rest in
      let o = onward in
      let n = i.next_is in
      record {
        tokens_are =
            there
            ∙ ap {B = List Placed} (λ (ts : List Placed). record { token = (token_there text place).token; place = place } ∷ ts) later
            ∙ ap (λ (p : ℕ). record { token = (token_there text place).token; place = p } ∷ tokens_at text t.next) (sym i.place_is)
            ∙ ap (led text t.place t.next) (sym i.token_is);
        fits = further t.lexeme i.fits;
        later = omega arith;
        inside = i.inside;
      }
    where
      further : (x : Lexeme) → LexemeWithin text place t x → LexemeWithin text at t x
      further Lexeme.End f = f
      further Lexeme.Opening f = let o = onward in omega arith
      further Lexeme.Closing f = let o = onward in omega arith
      further Lexeme.Nought f = let o = onward in omega arith
      further Lexeme.Wrong f = let o = onward in omega arith
      further (Lexeme.Symbol n) f = let o = onward in omega arith
      further (Lexeme.Word n) f = let o = onward in omega arith
