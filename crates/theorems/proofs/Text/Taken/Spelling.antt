-- Tokens can be spelled: a space and the token, again and again, symbols always in bars, is a text that has just these tokens, where
-- names hold only bytes that may stand between bars and words are reserved (02, E1). Assumes nothing.
use mathlib.Core.Path.{◌≡◌, refl, sym, ap, ◌∙◌}
use Prim.Native.Nat.{ℕ, zero, suc, ◌+◌, ◌≤◌}
use native.Mathlib.Omega.{arith}
use mathlib.Core.Bool.{Bool, true, false, not, ◌&&◌, ◌||◌, false≢true}
use mathlib.Core.List.{List, [], ◌∷◌, ◌++◌, append_assoc}
use mathlib.Core.Logic.{inl, inr}
use mathlib.Core.Option.{Option, none, some}
use lib.ListN.{length, drop, length-append}
use lib.Seq.{drop-append_seam, drop-append-add}
use lib.Dec.{eqb, leb}
use borrow.Author.Tests.{eqb-true, not-true, leb-true, lt-ltb}
use Rattle.definitions.specs.Lists.{any, all}
use Rattle.definitions.specs.Text.Ascii.{ascii, same_bytes}
use Rattle.definitions.specs.Text.Tokens.{Token, opening, closing, nought, wrong, symbol, word, Placed, is_of, within, white_space, digit, word_byte, bar_byte, RESERVED, blank, run, barred, Lexeme, lexeme, word_token, bar_token, token_at, tokens_from, tokens_of}
use Rattle.theorems.specs.Texts.{is_byte, plain_tokens}
use Rattle.theorems.proofs.Laws.Tests.{and_left, and_right, or_cases}
use Rattle.theorems.proofs.Laws.All.{all_append, all_weaker, any_all}
use Rattle.theorems.proofs.Text.Taken.Runs.{same_bytes_lem}

-- a token that can be spelled
abbrev pub spellable : Token → Bool
spellable opening = true
spellable closing = true
spellable nought = true
spellable wrong = false
spellable (symbol name) = all bar_byte name
spellable (word name) = any (same_bytes name) RESERVED

abbrev pub spell_one : Token → List ℕ
spell_one opening = 40 ∷ []
spell_one closing = 41 ∷ []
spell_one nought = 48 ∷ []
spell_one wrong = []
spell_one (symbol name) = 124 ∷ name ++ (124 ∷ [])
spell_one (word name) = name

abbrev pub spell : List Token → List ℕ
spell [] = []
spell (t ∷ ts) = 32 ∷ spell_one t ++ spell ts

-- a bar is no byte between bars
no_bar : (b : ℕ) → bar_byte b ≡ true → eqb b 124 ≡ false
no_bar b e = go (eqb b 124) refl
  where
    go : (c : Bool) → eqb b 124 ≡ c → c ≡ false
    go true p = absurd (false≢true (sym (ap bar_byte (eqb-true b 124 p)) ∙ e))
    go false p = refl

-- a name between bars is found again
barred_back : (name rest : List ℕ) → all bar_byte name ≡ true → barred (name ++ (124 ∷ rest)) ≡ some name
barred_back [] rest e = refl
barred_back (b ∷ bs) rest e =
    ap (λ (c : Bool). closes c (bar_byte b) (barred (bs ++ (124 ∷ rest)))) (no_bar b (and_left (bar_byte b) (all bar_byte bs) e))
    ∙ ap (λ (c : Bool). closes false c (barred (bs ++ (124 ∷ rest)))) (and_left (bar_byte b) (all bar_byte bs) e)
    ∙ ap (closes false true) (barred_back bs rest (and_right (bar_byte b) (all bar_byte bs) e))
  where
    closes : Bool → Bool → Option (List ℕ) → Option (List ℕ)
    closes c d o =
        elim c [
          | true ↦ some []
          | false ↦ elim d [ true ↦ elim o [ none ↦ none | some name ↦ some (b ∷ name) ] | false ↦ none ]
        ]

-- a run of word bytes stops where a spelled token begins, or at the end
run_stops : (ts : List Token) → run (spell ts) ≡ []
run_stops [] = refl
run_stops (t ∷ ts) = refl

run_back : (name : List ℕ) (ts : List Token) → all word_byte name ≡ true → run (name ++ spell ts) ≡ name
run_back [] ts e = run_stops ts
run_back (b ∷ bs) ts e =
    ap (λ (c : Bool). goes c (run (bs ++ spell ts))) (and_left (word_byte b) (all word_byte bs) e)
    ∙ ap (λ (r : List ℕ). b ∷ r) (run_back bs ts (and_right (word_byte b) (all word_byte bs) e))
  where
    goes : Bool → List ℕ → List ℕ
    goes c r = elim c [ true ↦ b ∷ r | false ↦ [] ]

-- what a reserved word is like
abbrev word_like : List ℕ → Bool
word_like [] = false
word_like (b ∷ bs) = all word_byte (b ∷ bs) && not (digit b) && not (white_space b) && not (eqb b 59)

record Like (b : ℕ) (bs : List ℕ) : Type 0 where
  bytes : all word_byte (b ∷ bs) ≡ true
  no_digit : digit b ≡ false
  no_space : white_space b ≡ false
  no_comment : eqb b 59 ≡ false

reserved_like : (b : ℕ) (bs : List ℕ) → any (same_bytes (b ∷ bs)) RESERVED ≡ true → Like b bs
reserved_like b bs e =
    let X = all word_byte (b ∷ bs) in
    let Y = X && not (digit b) in
    let Z = Y && not (white_space b) in
    let z = any_all word_like (same_bytes (b ∷ bs)) (b ∷ bs) (same_bytes_lem (b ∷ bs)) RESERVED e refl in
    let y = and_left Z (not (eqb b 59)) z in
    let x = and_left Y (not (white_space b)) y in
    record {
      bytes = and_left X (not (digit b)) x;
      no_digit = not-true (digit b) (and_right X (not (digit b)) x);
      no_space = not-true (white_space b) (and_right Y (not (white_space b)) y);
      no_comment = not-true (eqb b 59) (and_right Z (not (eqb b 59)) z);
    }

-- one token after a space, and what is read after it
one_token : (fuel at b : ℕ) (bs : List ℕ) (l : Lexeme) → blank false (b ∷ bs) ≡ 0 → token_at b bs ≡ l
    → plain_tokens (tokens_from (suc fuel) at (32 ∷ b ∷ bs)) ≡ l.token ∷ plain_tokens (tokens_from fuel (at + 1 + l.width) (drop l.width (b ∷ bs)))
one_token fuel at b bs l e f = ap (λ (n : ℕ). plain_tokens (after_gap (suc n))) e ∙ ap after_one f
  where
    after_gap : ℕ → List Placed
    after_gap gap =
        elim (drop gap (32 ∷ b ∷ bs)) [
          | [] ↦ []
          | c ∷ cs ↦
              record { token = (token_at c cs).token; place = at + gap }
              ∷ tokens_from fuel (at + gap + (token_at c cs).width) (drop (token_at c cs).width (c ∷ cs))
        ]

    after_one : Lexeme → List Token
    after_one l = l.token ∷ plain_tokens (tokens_from fuel (at + 1 + l.width) (drop l.width (b ∷ bs)))

-- no space or comment stands where a word begins
no_blank : (b : ℕ) (bs : List ℕ) → white_space b ≡ false → eqb b 59 ≡ false → blank false (b ∷ bs) ≡ 0
no_blank b bs e f = ap (λ (c : Bool). gap c (eqb b 59)) e ∙ ap (gap false) f
  where
    gap : Bool → Bool → ℕ
    gap c d =
        elim c [
          | true ↦ suc (blank false bs)
          | false ↦ elim d [ true ↦ suc (blank true bs) | false ↦ 0 ]
        ]

-- the parts of a spelled token: it takes all its bytes, and is read as itself
module _ (ts : List Token) where
  nought_back : token_at 48 (spell ts) ≡ lexeme nought 1
  nought_back = ap (λ (r : List ℕ). lexeme (word_token 48 (48 ∷ r)) (length (48 ∷ r))) (run_stops ts)

  symbol_back : (name : List ℕ) → all bar_byte name ≡ true → token_at 124 (name ++ (124 ∷ spell ts)) ≡ lexeme (symbol name) (2 + length name)
  symbol_back name e = ap bar_token (barred_back name (spell ts) e)

  word_back : (b : ℕ) (bs : List ℕ) → digit b ≡ false → all word_byte (b ∷ bs) ≡ true → any (same_bytes (b ∷ bs)) RESERVED ≡ true
      → token_at b (bs ++ spell ts) ≡ lexeme (word (b ∷ bs)) (length (b ∷ bs))
  word_back b bs d All-words r =
      ap starts (and_left (word_byte b) (all word_byte bs) All-words)
      ∙ ap (λ (name : List ℕ). lexeme (word_token b name) (length name)) (run_back (b ∷ bs) ts All-words)
      ∙ ap (λ (c : Bool). lexeme (plain c (any (same_bytes (b ∷ bs)) RESERVED)) (length (b ∷ bs))) d
      ∙ ap (λ (c : Bool). lexeme (plain false c) (length (b ∷ bs))) r
    where
      starts : Bool → Lexeme
      starts c =
          elim c [
            | true ↦ let name = run (b ∷ bs ++ spell ts) in lexeme (word_token b name) (length name)
            | false ↦
                elim (eqb b 124) [
                  | true ↦ bar_token (barred (bs ++ spell ts))
                  | false ↦
                      elim (eqb b 40) [
                        | true ↦ lexeme opening 1
                        | false ↦ elim (eqb b 41) [ true ↦ lexeme closing 1 | false ↦ lexeme wrong 1 ]
                      ]
                ]
          ]

      plain : Bool → Bool → Token
      plain c d =
          elim c [
            | true ↦ elim (same_bytes (b ∷ bs) (48 ∷ [])) [ true ↦ nought | false ↦ wrong ]
            | false ↦ elim d [ true ↦ word (b ∷ bs) | false ↦ symbol (b ∷ bs) ]
          ]

-- spelled tokens are read back
spell_from : (ts : List Token) (fuel at : ℕ) → length (spell ts) ≤ fuel → all spellable ts ≡ true → plain_tokens (tokens_from fuel at (spell ts)) ≡ ts
spell_from [] zero at h e = refl
spell_from [] (suc fuel) at h e = refl
spell_from (t ∷ ts) zero at h e = absurd (omega arith)
spell_from (opening ∷ ts) (suc fuel) at h e = ap (λ (us : List Token). opening ∷ us) (spell_from ts fuel (at + 1 + 1) (omega arith) e)
spell_from (closing ∷ ts) (suc fuel) at h e = ap (λ (us : List Token). closing ∷ us) (spell_from ts fuel (at + 1 + 1) (omega arith) e)
spell_from (nought ∷ ts) (suc fuel) at h e =
    one_token fuel at 48 (spell ts) (lexeme nought 1) refl (nought_back ts)
    ∙ ap (λ (us : List Token). nought ∷ us) (spell_from ts fuel (at + 1 + 1) (omega arith) e)
spell_from (wrong ∷ ts) (suc fuel) at h e = absurd (false≢true e)
spell_from (symbol name ∷ ts) (suc fuel) at h e =
    ap (λ (s : List ℕ). plain_tokens (tokens_from (suc fuel) at (32 ∷ 124 ∷ s))) (append_assoc name (124 ∷ []) (spell ts))
    ∙ one_token fuel at 124 (name ++ (124 ∷ spell ts)) (lexeme (symbol name) (2 + length name)) refl (symbol_back ts name (and_left (all bar_byte name) (all spellable ts) e))
    ∙ ap (λ (s : List ℕ). symbol name ∷ plain_tokens (tokens_from fuel (at + 1 + (2 + length name)) s)) left_over
    ∙ ap (λ (us : List Token). symbol name ∷ us)
    (spell_from ts fuel (at + 1 + (2 + length name)) short (and_right (all bar_byte name) (all spellable ts) e))
  where
    left_over : drop (2 + length name) (124 ∷ name ++ (124 ∷ spell ts)) ≡ spell ts
    left_over =
        let n : 2 + length name ≡ length (124 ∷ name) + 1 = omega arith in
        ap (λ (k : ℕ). drop k (124 ∷ name ++ (124 ∷ spell ts))) n ∙ drop-append-add (124 ∷ name) (124 ∷ spell ts) 1

    short : length (spell ts) ≤ fuel
    short = omega (arith, length-append (124 ∷ name ++ (124 ∷ [])) (spell ts), length-append name (124 ∷ []))
spell_from (word [] ∷ ts) (suc fuel) at h e = absurd (false≢true e)
spell_from (word (b ∷ bs) ∷ ts) (suc fuel) at h e =
    let r = and_left (any (same_bytes (b ∷ bs)) RESERVED) (all spellable ts) e in
    let like = reserved_like b bs r in
    one_token fuel at b (bs ++ spell ts) (lexeme (word (b ∷ bs)) (length (b ∷ bs)))
    (no_blank b (bs ++ spell ts) like.no_space like.no_comment)
    (word_back ts b bs like.no_digit like.bytes r)
    ∙ ap (λ (s : List ℕ). word (b ∷ bs) ∷ plain_tokens (tokens_from fuel (at + 1 + length (b ∷ bs)) s)) (drop-append_seam (b ∷ bs) (spell ts))
    ∙ ap (λ (us : List Token). word (b ∷ bs) ∷ us)
    (spell_from ts fuel (at + 1 + length (b ∷ bs)) (omega (arith, length-append (b ∷ bs) (spell ts))) (and_right (any (same_bytes (b ∷ bs)) RESERVED) (all spellable ts) e))

-- a text of these tokens
pub spells : (ts : List Token) → all spellable ts ≡ true → plain_tokens (tokens_of (spell ts)) ≡ ts
unfolding tokens_of
spells ts e = spell_from ts (length (spell ts)) 0 (omega arith) e

-- which is a list of bytes
bar_byte_lem : (b : ℕ) → bar_byte b ≡ true → is_byte b ≡ true
bar_byte_lem b e =
    elim (or_cases (white_space b || within 32 126 b && not (is_of (ascii "|\\") b)) (within 128 255 b) e) [
      | inl f ↦
          elim (or_cases (white_space b) (within 32 126 b && not (is_of (ascii "|\\") b)) f) [
            | inl g ↦ any_all is_byte (eqb b) b (eqb-true b) (32 ∷ 9 ∷ 10 ∷ 13 ∷ []) g refl
            | inr g ↦
                let h = leb-true b 126 (and_right (leb 32 b) (leb b 126) (and_left (within 32 126 b) (not (is_of (ascii "|\\") b)) g)) in
                lt-ltb b 256 (omega arith)
          ]
      | inr f ↦ (let h = leb-true b 255 (and_right (leb 128 b) (leb b 255) f) in lt-ltb b 256 (omega arith))
    ]

one_bytes : (t : Token) → spellable t ≡ true → all is_byte (spell_one t) ≡ true
one_bytes opening e = refl
one_bytes closing e = refl
one_bytes nought e = refl
one_bytes wrong e = refl
one_bytes (symbol name) e = all_append is_byte name (124 ∷ []) (all_weaker bar_byte is_byte bar_byte_lem name e) refl
one_bytes (word name) e = any_all (all is_byte) (same_bytes name) name (same_bytes_lem name) RESERVED e refl

pub spell_bytes : (ts : List Token) → all spellable ts ≡ true → all is_byte (spell ts) ≡ true
spell_bytes [] e = refl
spell_bytes (t ∷ ts) e =
    all_append is_byte (spell_one t) (spell ts) (one_bytes t (and_left (spellable t) (all spellable ts) e))
    (spell_bytes ts (and_right (spellable t) (all spellable ts) e))
