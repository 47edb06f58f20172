-- The words in which the theorems of jobs in solver text are stated (02, E1): what each answer of the reader says of the text. That
-- it gives exactly these answers is proved (Text/Taken/Exactly). Assumes nothing.
use Rattle.std.specs.Prelude.{◌≡◌, ℕ, suc, ◌+◌, ◌≤◌, ◌<◌, Bool, true, List, [], ◌∷◌, ◌++◌, map, length, take, ltb}
use Rattle.definitions.specs.Lists.{snoc, all}
use Rattle.definitions.specs.Problem.Check.{refuse}
use Rattle.definitions.specs.Logic.{Interpretation}
use Rattle.definitions.specs.Operations.Answers.{Answer, refused, given}
use Rattle.definitions.specs.Text.Tokens.{Token, opening, closing, nought, wrong, symbol, word, Placed, tokens_of}
use Rattle.definitions.specs.Text.Grammar.{Script, script_right, written, Subset}
use Rattle.definitions.specs.Text.Meaning.{asserts_true}

-- sat: some interpretation makes every assert true
abbrev pub Sat : Script → Type 0
Sat s = (I : Interpretation) × (asserts_true I s ≡ true)

-- the tokens of a text, or of a part of it, without their places
abbrev pub plain_tokens : List Placed → List Token
plain_tokens ps = map (λ p. p.token) ps

abbrev pub text_tokens : List ℕ → List Token
text_tokens text = plain_tokens (tokens_of text)

-- places rise strictly, from a lowest one on and below a highest
abbrev pub Rises : ℕ → ℕ → List Placed → Type 0
Rises low high [] = Unit {0}
Rises low high (p ∷ ps) = (low ≤ p.place) × (p.place < high) × Rises (suc p.place) high ps

-- a byte
abbrev pub is_byte : ℕ → Bool
is_byte b = ltb b 256

-- some text of the subset, depth aside, goes on so: a list of bytes whose tokens write a right script and begin with these
pub record GoesOn (ts : List Token) : Type 0 where
  pub text : List ℕ
  pub bytes : all is_byte text ≡ true
  pub rest : List Token
  pub begins : text_tokens text ≡ ts ++ rest
  pub whole : Subset (text_tokens text)

-- how many brackets open, and how many close, among tokens
abbrev pub opens_one : Token → ℕ
opens_one opening = 1
opens_one closing = 0
opens_one nought = 0
opens_one wrong = 0
opens_one (symbol name) = 0
opens_one (word name) = 0

abbrev pub closes_one : Token → ℕ
closes_one opening = 0
closes_one closing = 1
closes_one nought = 0
closes_one wrong = 0
closes_one (symbol name) = 0
closes_one (word name) = 0

abbrev pub opens : List Token → ℕ
opens [] = 0
opens (t ∷ ts) = opens_one t + opens ts

abbrev pub closes : List Token → ℕ
closes [] = 0
closes (t ∷ ts) = closes_one t + closes ts

-- at most 65 brackets are open, at every point: an assert's own and 64 of its term ("a term's outer one being level 1")
abbrev pub Shallow : List Token → Type 0
Shallow ts = (j : ℕ) → opens (take j ts) ≤ closes (take j ts) + 65

-- read: the tokens write this script, which is right, and nowhere deeper than level 64
pub record ReadAs (text : List ℕ) (s : Script) : Type 0 where
  pub right : script_right s ≡ true
  pub writes : written s ≡ text_tokens text
  pub shallow : Shallow (text_tokens text)

-- 14 inside the text: "the first token with which no text of the subset, depth aside, can go on". Up to the token before, one can,
-- and no bracket there opens level 65
pub record StopsAt (text : List ℕ) (place : ℕ) : Type 0 where
  pub before : List Placed
  pub at : Placed
  pub after : List Placed
  pub split : tokens_of text ≡ before ++ (at ∷ after)
  pub here : at.place ≡ place
  pub shallow : Shallow (plain_tokens before)
  pub viable : GoesOn (plain_tokens before)
  pub stuck : GoesOn (snoc (plain_tokens before) at.token) → ⊥

-- 14 at the end: a text of the subset begins with all of its tokens, and it is none
pub record EndsEarly (text : List ℕ) : Type 0 where
  pub shallow : Shallow (text_tokens text)
  pub viable : GoesOn (text_tokens text)
  pub short : Subset (text_tokens text) → ⊥

-- 15: "the bracket opening level 65". Before this token at most 65 brackets are open, at every point; with it, 66; and a text of the
-- subset can go on with it, "14 if equal"
pub record DeepAt (text : List ℕ) (place : ℕ) : Type 0 where
  pub before : List Placed
  pub at : Placed
  pub after : List Placed
  pub split : tokens_of text ≡ before ++ (at ∷ after)
  pub here : at.place ≡ place
  pub shallow : Shallow (plain_tokens before)
  pub viable : GoesOn (snoc (plain_tokens before) at.token)
  pub deep : 66 + closes (snoc (plain_tokens before) at.token) ≤ opens (snoc (plain_tokens before) at.token)

-- what an answer of the reader says of the text
pub data Told (text : List ℕ) : Answer Script → Type 0 where
  read : (s : Script) → ReadAs text s → Told text (given s)
  stops : (place : ℕ) → StopsAt text place → Told text (refused (refuse 14 place))
  ends : EndsEarly text → Told text (refused (refuse 14 (length text)))
  deep : (place : ℕ) → DeepAt text place → Told text (refused (refuse 15 place))
