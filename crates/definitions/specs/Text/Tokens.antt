-- From the bytes of a text to its tokens (02, E1; SMT-LIB 2.6, section 3.1). The lines L1 to L10 are those of the reading's
-- table of tokens. Assumes nothing.
use Rattle.std.specs.Prelude.{ℕ, zero, suc, ◌+◌, List, [], ◌∷◌, map, Bool, true, false, not, ◌&&◌, ◌||◌, length, drop, eqb, leb}
use Rattle.std.proofs.Math.Option.{Option, none, some}
use Rattle.definitions.specs.Lists.{any}
use Rattle.definitions.specs.Text.Ascii.{ascii, same_bytes}

-- a token of the subset; and what starts no token of it. A symbol and a reserved word have their bytes, bars left out (L8, L9)
pub data Token : Type 0 where
  opening closing nought wrong : Token
  symbol word : List ℕ → Token

-- a token, and the place of its first byte
pub record Placed : Type 0 where
  pub token : Token
  pub place : ℕ

-- a byte is one of a few
abbrev pub is_of : List ℕ → ℕ → Bool
is_of few b = any (eqb b) few

abbrev pub within : ℕ → ℕ → ℕ → Bool
within low high b = leb low b && leb b high

-- L1: white space is bytes 32, 9, 10, 13 only
abbrev pub white_space : ℕ → Bool
white_space b = is_of (32 ∷ 9 ∷ 10 ∷ 13 ∷ []) b

abbrev pub line_break : ℕ → Bool
line_break b = is_of (10 ∷ 13 ∷ []) b

abbrev pub digit : ℕ → Bool
digit b = within 48 57 b

-- L3: letters, digits and these
abbrev pub word_byte : ℕ → Bool
word_byte b = within 97 122 b || within 65 90 b || digit b || is_of (ascii "~!@$%^&*_-+=<>.?/") b

-- L5: between bars
abbrev pub bar_byte : ℕ → Bool
bar_byte b = white_space b || within 32 126 b && not (is_of (ascii "|\\") b) || within 128 255 b

-- L10: reserved, never symbols
abbrev pub RESERVED : List (List ℕ)
RESERVED =
    map ascii
    ("!" ∷ "_" ∷ "as" ∷ "BINARY" ∷ "DECIMAL" ∷ "exists" ∷ "HEXADECIMAL" ∷ "forall" ∷ "let" ∷ "match" ∷ "NUMERAL" ∷ "par" ∷ "STRING"
    ∷ "assert" ∷ "check-sat" ∷ "check-sat-assuming" ∷ "declare-const" ∷ "declare-datatype" ∷ "declare-datatypes" ∷ "declare-fun"
    ∷ "declare-sort" ∷ "define-fun" ∷ "define-fun-rec" ∷ "define-funs-rec" ∷ "define-sort" ∷ "echo" ∷ "exit" ∷ "get-assertions"
    ∷ "get-assignment" ∷ "get-info" ∷ "get-model" ∷ "get-option" ∷ "get-proof" ∷ "get-unsat-assumptions" ∷ "get-unsat-core"
    ∷ "get-value" ∷ "pop" ∷ "push" ∷ "reset" ∷ "reset-assertions" ∷ "set-info" ∷ "set-logic" ∷ "set-option" ∷ [])

-- how many bytes of white space and comments stand first. L2: a comment, when we are in one, runs to a line break or to the end
abbrev pub blank : Bool → List ℕ → ℕ
blank comment [] = 0
blank true (b ∷ bs) = suc (blank (not (line_break b)) bs)
blank false (b ∷ bs) =
    elim (white_space b) [
      | true ↦ suc (blank false bs)
      | false ↦ elim (eqb b 59) [ true ↦ suc (blank true bs) | false ↦ 0 ]
    ]

-- L3: the longest run of such bytes
abbrev pub run : List ℕ → List ℕ
run [] = []
run (b ∷ bs) = elim (word_byte b) [ true ↦ b ∷ run bs | false ↦ [] ]

-- L5, L6: what stands up to the closing bar, if it is closed and holds no other byte
abbrev pub barred : List ℕ → Option (List ℕ)
barred [] = none
barred (b ∷ bs) =
    elim (eqb b 124) [
      | true ↦ some []
      | false ↦ elim (bar_byte b) [ true ↦ elim (barred bs) [ none ↦ none | some name ↦ some (b ∷ name) ] | false ↦ none ]
    ]

-- a token, and how many bytes it takes
pub record Lexeme : Type 0 where
  pub token : Token
  pub width : ℕ

abbrev pub lexeme : Token → ℕ → Lexeme
lexeme t width = record { token = t; width = width }

-- L4: a word that begins with a digit is a token only if it is exactly 0. L10: a reserved word is no symbol
abbrev pub word_token : ℕ → List ℕ → Token
word_token first name =
    elim (digit first) [
      | true ↦ elim (same_bytes name (48 ∷ [])) [ true ↦ nought | false ↦ wrong ]
      | false ↦ elim (any (same_bytes name) RESERVED) [ true ↦ word name | false ↦ symbol name ]
    ]

-- L6: refused at the opening bar
abbrev pub bar_token : Option (List ℕ) → Lexeme
bar_token none = lexeme wrong 1
bar_token (some name) = lexeme (symbol name) (2 + length name)

-- the token at a byte that is no white space and starts no comment. L7: any other byte starts no token
abbrev pub token_at : ℕ → List ℕ → Lexeme
token_at b bs =
    elim (word_byte b) [
      | true ↦ let name = run (b ∷ bs) in lexeme (word_token b name) (length name)
      | false ↦
          elim (eqb b 124) [
            | true ↦ bar_token (barred bs)
            | false ↦
                elim (eqb b 40) [
                  | true ↦ lexeme opening 1
                  | false ↦ elim (eqb b 41) [ true ↦ lexeme closing 1 | false ↦ lexeme wrong 1 ]
                ]
          ]
    ]

-- the tokens from a place on. Each takes a byte or more, so the count of bytes is fuel enough. What follows a wrong one is read
-- by nobody
abbrev pub tokens_from : ℕ → ℕ → List ℕ → List Placed
tokens_from zero at s = []
tokens_from (suc fuel) at s =
    let gap = blank false s in
    elim (drop gap s) [
      | [] ↦ []
      | b ∷ bs ↦
          let l = token_at b bs in
          record { token = l.token; place = at + gap } ∷ tokens_from fuel (at + gap + l.width) (drop l.width (b ∷ bs))
    ]

unfoldable pub tokens_of : List ℕ → List Placed
tokens_of s = tokens_from (length s) 0 s

-- two tokens are the same: the kind, and the name
abbrev pub kind_of : Token → ℕ
kind_of opening = 0
kind_of closing = 1
kind_of nought = 2
kind_of wrong = 3
kind_of (symbol name) = 4
kind_of (word name) = 5

abbrev pub name_of : Token → List ℕ
name_of opening = []
name_of closing = []
name_of nought = []
name_of wrong = []
name_of (symbol name) = name
name_of (word name) = name

abbrev pub same_token : Token → Token → Bool
same_token x y = eqb (kind_of x) (kind_of y) && same_bytes (name_of x) (name_of y)
