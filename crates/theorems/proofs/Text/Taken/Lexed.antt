-- What the tokens of a text are: each can be spelled or is a wrong one, and their places rise strictly and stand in the text (02, E1:
-- "each with its byte place"). Assumes nothing.
use mathlib.Core.Path.{◌≡◌, refl, sym, ap, ◌∙◌, subst}
use Prim.Native.Nat.{ℕ, zero, suc, ◌+◌, ◌-◌, ◌≤◌, ◌<◌}
use native.Mathlib.Omega.{arith}
use mathlib.Core.Bool.{Bool, true, false, not, ◌&&◌, ◌||◌, false≢true}
use mathlib.Core.List.{List, [], ◌∷◌}
use mathlib.Core.Logic.{inl, inr}
use mathlib.Core.Option.{Option, none, some}
use lib.ListN.{length, drop, length-drop}
use lib.Dec.{eqb, leb}
use borrow.Author.Tests.{eqb-true, leb-true, le-leb, ne_eqb}
use Rattle.definitions.specs.Lists.{any, all}
use Rattle.definitions.specs.Text.Ascii.{ascii, same_bytes}
use Rattle.definitions.specs.Text.Tokens.{Token, opening, closing, nought, wrong, symbol, word, Placed, is_of, within, white_space, digit, word_byte, bar_byte, RESERVED, blank, run, barred, Lexeme, lexeme, word_token, bar_token, token_at, tokens_from, tokens_of}
use Rattle.theorems.specs.Texts.{plain_tokens, Rises}
use Rattle.theorems.proofs.Laws.Tests.{and_left, and_right, and_intro, or_cases, or_left, or_right, some_same, none≢some}
use Rattle.theorems.proofs.Laws.All.{all_weaker, any_all}
use Rattle.theorems.proofs.Text.Taken.Spelling.{spellable}

-- a token of a text
abbrev pub lexed : Token → Bool
lexed opening = true
lexed closing = true
lexed nought = true
lexed wrong = true
lexed (symbol name) = spellable (symbol name)
lexed (word name) = spellable (word name)

-- a byte of a word may stand between bars
between : (b low high : ℕ) → within low high b ≡ true → (low ≤ b) × (b ≤ high)
between b low high e = (leb-true low b (and_left (leb low b) (leb b high) e), leb-true b high (and_right (leb low b) (leb b high) e))

in_bars : (b : ℕ) → 32 ≤ b → b ≤ 126 → (b ≡ 124 → ⊥) → (b ≡ 92 → ⊥) → bar_byte b ≡ true
in_bars b l h n m =
    or_left (white_space b || within 32 126 b && not (is_of (ascii "|\\") b)) (within 128 255 b)
    (or_right (white_space b) (within 32 126 b && not (is_of (ascii "|\\") b))
    (and_intro (within 32 126 b) (not (is_of (ascii "|\\") b)) (and_intro (leb 32 b) (leb b 126) (le-leb 32 b l) (le-leb b 126 h))
    (rw (ne_eqb b 124 n, ne_eqb b 92 m) refl)))

word_bar : (b : ℕ) → word_byte b ≡ true → bar_byte b ≡ true
word_bar b e =
    elim (or_cases (within 97 122 b || within 65 90 b || digit b) (is_of (ascii "~!@$%^&*_-+=<>.?/") b) e) [
      | inl f ↦
          elim (or_cases (within 97 122 b || within 65 90 b) (digit b) f) [
            | inl g ↦
                elim (or_cases (within 97 122 b) (within 65 90 b) g) [
                  | inl h ↦
                      (let r = between b 97 122 h in
                      let l = r.0 in
                      let u = r.1 in
                      in_bars b (omega arith) (omega arith) (λ n. omega arith) (λ n. omega arith))
                  | inr h ↦
                      (let r = between b 65 90 h in
                      let l = r.0 in
                      let u = r.1 in
                      in_bars b (omega arith) (omega arith) (λ n. omega arith) (λ n. omega arith))
                ]
            | inr g ↦
                (let r = between b 48 57 g in
                let l = r.0 in
                let u = r.1 in
                in_bars b (omega arith) (omega arith) (λ n. omega arith) (λ n. omega arith))
          ]
      | inr f ↦ any_all bar_byte (eqb b) b (eqb-true b) (ascii "~!@$%^&*_-+=<>.?/") f refl
    ]

-- a run holds word bytes, and no more than there are
run_words : (s : List ℕ) → (all word_byte (run s) ≡ true) × (length (run s) ≤ length s)
run_words [] = (refl, omega arith)
run_words (b ∷ bs) = go (word_byte b) refl (run_words bs)
  where
    go : (c : Bool) → word_byte b ≡ c → (all word_byte (run bs) ≡ true) × (length (run bs) ≤ length bs)
        → (◌≡◌ {A = Bool} (all word_byte (elim c [ true ↦ b ∷ run bs | false ↦ [] ])) true) × (length {A = ℕ} (elim c [ true ↦ b ∷ run bs | false ↦ [] ]) ≤ suc (length bs))
    go true p r = let l = r.1 in (and_intro (word_byte b) (all word_byte (run bs)) p r.0, omega arith)
    go false p r = (refl, omega arith)

-- what stands between bars holds bar bytes, and a bar stands after it
barred_bytes : (s name : List ℕ) → barred s ≡ some name → (all bar_byte name ≡ true) × (length name < length s)
barred_bytes [] name e = absurd (none≢some e)
barred_bytes (b ∷ bs) name e = go (eqb b 124) (bar_byte b) (barred bs) refl refl e (barred_bytes bs)
  where
    go : (c d : Bool) (o : Option (List ℕ)) → bar_byte b ≡ d → barred bs ≡ o
        → ◌≡◌ {A = Option (List ℕ)}
        (elim c [
          | true ↦ some []
          | false ↦ elim d [ true ↦ elim o [ none ↦ none | some name ↦ some (b ∷ name) ] | false ↦ none ]
        ])
        (some name)
        → ((n : List ℕ) → barred bs ≡ some n → (all bar_byte n ≡ true) × (length n < length bs))
        → (all bar_byte name ≡ true) × (length name < length (b ∷ bs))
    go true d o p q f rec =
        subst (λ (n : List ℕ). (all bar_byte n ≡ true) × (length n < length (b ∷ bs))) (some_same [] name f) (refl, omega arith)
    go false true none p q f rec = absurd (none≢some f)
    go false true (some n) p q f rec =
        let r = rec n q in
        let l = r.1 in
        subst (λ (n : List ℕ). (all bar_byte n ≡ true) × (length n < length (b ∷ bs))) (some_same (b ∷ n) name f)
        (and_intro (bar_byte b) (all bar_byte n) p r.0, omega arith)
    go false false o p q f rec = absurd (none≢some f)

-- the token at a byte takes a byte or more, and no more than there are
record Fine (l : Lexeme) (n : ℕ) : Type 0 where
  token_lexed : lexed l.token ≡ true
  some_bytes : 1 ≤ l.width
  few_bytes : l.width ≤ n

word_fine : (first : ℕ) (name : List ℕ) (n : ℕ) → all word_byte name ≡ true → 1 ≤ length name → length name ≤ n → Fine (lexeme (word_token first name) (length name)) n
word_fine first name n e l h = record { token_lexed = go (digit first) (same_bytes name (48 ∷ [])) (any (same_bytes name) RESERVED) refl; some_bytes = l; few_bytes = h }
  where
    go : (c d r : Bool) → any (same_bytes name) RESERVED ≡ r
        → lexed (elim c [ true ↦ elim d [ true ↦ nought | false ↦ wrong ] | false ↦ elim r [ true ↦ word name | false ↦ symbol name ] ]) ≡ true
    go true true r p = refl
    go true false r p = refl
    go false d true p = p
    go false d false p = all_weaker word_byte bar_byte word_bar name e

bar_fine : (s : List ℕ) (o : Option (List ℕ)) → barred s ≡ o → Fine (bar_token o) (suc (length s))
bar_fine s none e = record { token_lexed = refl; some_bytes = omega arith; few_bytes = omega arith }
bar_fine s (some name) e =
    let r = barred_bytes s name e in
    let l = r.1 in
    record { token_lexed = r.0; some_bytes = omega arith; few_bytes = omega arith }

token_fine : (b : ℕ) (bs : List ℕ) → Fine (token_at b bs) (suc (length bs))
token_fine b bs = go (word_byte b) (eqb b 124) (eqb b 40) (eqb b 41) refl
  where
    one : (t : Token) → lexed t ≡ true → Fine (lexeme t 1) (suc (length bs))
    one t e = record { token_lexed = e; some_bytes = omega arith; few_bytes = omega arith }

    begins : (c : Bool) → c ≡ true → 1 ≤ length {A = ℕ} (elim c [ true ↦ b ∷ run bs | false ↦ [] ])
    begins true e = omega arith
    begins false e = absurd (false≢true e)

    go : (w x y z : Bool) → word_byte b ≡ w
        → Fine
        (elim w [
          | true ↦ let name = run (b ∷ bs) in lexeme (word_token b name) (length name)
          | false ↦
              elim x [
                | true ↦ bar_token (barred bs)
                | false ↦ elim y [ true ↦ lexeme opening 1 | false ↦ elim z [ true ↦ lexeme closing 1 | false ↦ lexeme wrong 1 ] ]
              ]
        ])
        (suc (length bs))
    go true x y z p = let r = run_words (b ∷ bs) in word_fine b (run (b ∷ bs)) (suc (length bs)) r.0 (begins (word_byte b) p) r.1
    go false true y z p = bar_fine bs (barred bs) refl
    go false false true z p = one opening refl
    go false false false true p = one closing refl
    go false false false false p = one wrong refl

rises_wider : (low low' high high' : ℕ) (ps : List Placed) → low ≤ low' → high' ≤ high → Rises low' high' ps → Rises low high ps
rises_wider low low' high high' [] l h r = tt
rises_wider low low' high high' (p ∷ ps) l h r =
    let x = r.0 in
    let y = r.1 in
    (omega arith, omega arith, rises_wider (suc p.place) (suc p.place) high high' ps (omega arith) h r.2)

-- tokens from a place on
record Read (low high : ℕ) (ps : List Placed) : Type 0 where
  all_lexed : all lexed (plain_tokens ps) ≡ true
  rise : Rises low high ps

abbrev after_gap : ℕ → ℕ → List ℕ → List Placed
after_gap fuel at r =
    elim r [
      | [] ↦ []
      | b ∷ bs ↦
          record { token = (token_at b bs).token; place = at }
          ∷ tokens_from fuel (at + (token_at b bs).width) (drop (token_at b bs).width (b ∷ bs))
    ]

-- a token, and those after it
one_read : (at high b : ℕ) (bs : List ℕ) (ps : List Placed) → at + suc (length bs) ≤ high
    → Read (at + (token_at b bs).width) (at + (token_at b bs).width + length (drop (token_at b bs).width (b ∷ bs))) ps
    → Read at high (record { token = (token_at b bs).token; place = at } ∷ ps)
one_read at high b bs ps h r =
    let f = token_fine b bs in
    let w = (token_at b bs).width in
    let some_bytes = f.some_bytes in
    let few_bytes = f.few_bytes in
    let m : length (drop (token_at b bs).width (b ∷ bs)) ≡ suc (length bs) - (token_at b bs).width = length-drop (token_at b bs).width (b ∷ bs) in
    record {
      all_lexed = and_intro (lexed (token_at b bs).token) (all lexed (plain_tokens ps)) f.token_lexed r.all_lexed;
      rise = (
        omega arith,
        omega arith,
        rises_wider (suc at) (at + w) high (at + w + length (drop w (b ∷ bs))) ps (omega arith) (omega arith) r.rise,
      );
    }

from_read : (fuel at : ℕ) (s : List ℕ) → Read at (at + length s) (tokens_from fuel at s)
from_read zero at s = record { all_lexed = refl; rise = tt }
from_read (suc fuel) at s = go (drop (blank false s) s) refl (λ at r. from_read fuel at r)
  where
    go : (r : List ℕ) → drop (blank false s) s ≡ r → ((at : ℕ) (r : List ℕ) → Read at (at + length r) (tokens_from fuel at r))
        → Read at (at + length s) (after_gap fuel (at + blank false s) r)
    go [] e rec = record { all_lexed = refl; rise = tt }
    go (b ∷ bs) e rec =
        let n : suc (length bs) ≡ length s - blank false s = sym (ap length e) ∙ length-drop (blank false s) s in
        let r =
        one_read (at + blank false s) (at + length s) b bs
        (tokens_from fuel (at + blank false s + (token_at b bs).width) (drop (token_at b bs).width (b ∷ bs)))
        (omega arith) (rec (at + blank false s + (token_at b bs).width) (drop (token_at b bs).width (b ∷ bs)))
        in
        record { all_lexed = r.all_lexed; rise = rises_wider at (at + blank false s) (at + length s) (at + length s) (after_gap fuel (at + blank false s) (b ∷ bs)) (omega arith) (omega arith) r.rise }

pub text_lexed : (text : List ℕ) → all lexed (plain_tokens (tokens_of text)) ≡ true
unfolding tokens_of
text_lexed text = (from_read (length text) 0 text).all_lexed

-- the places of a text's tokens rise strictly, and all are below its length
pub places_rise : (text : List ℕ) → Rises 0 (length text) (tokens_of text)
unfolding tokens_of
places_rise text = rises_wider 0 0 (length text) (0 + length text) (tokens_of text) (omega arith) (omega arith) (from_read (length text) 0 text).rise
