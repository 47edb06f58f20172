-- The four answers of the reader, each exactly where it should stand (02, E1): a text is read, refused by 14 at a token, refused by 14
-- at its end, or refused by 15; one of these it is, and each if and only if the text is such. Assumes nothing.
use mathlib.Core.Path.{◌≡◌, sym, ap, ◌∙◌, subst}
use Prim.Native.Nat.{ℕ, suc, ◌<◌}
use native.Mathlib.Omega.{arith}
use mathlib.Core.List.{List, [], ◌∷◌, ◌++◌}
use mathlib.Core.Logic.{◌⊎◌, inl, inr, ◌↔◌}
use lib.ListN.{length}
use Rattle.definitions.specs.Problem.Check.{Refused, refuse}
use Rattle.definitions.specs.Operations.Answers.{Answer, refused, given}
use Rattle.definitions.specs.Text.Tokens.{opening, Placed, tokens_of}
use Rattle.definitions.specs.Text.Grammar.{Script}
use Rattle.definitions.specs.Text.Reader.{script_read}
use Rattle.theorems.specs.Texts.{plain_tokens, Rises, ReadAs, StopsAt, EndsEarly, DeepAt, Told, read, stops, ends, deep}
use Rattle.theorems.proofs.Laws.Tests.{clash}
use Rattle.theorems.proofs.Text.Taken.Lexed.{places_rise}
use Rattle.theorems.proofs.Text.Taken.Depth.{opens_deep}
use Rattle.theorems.proofs.Text.Taken.Told.{told}
use Rattle.theorems.proofs.Text.Taken.Answered.{read_so, stops_so, ends_so, deeps_so}

-- a token of a text stands in it
rises_at : (low high : ℕ) (before : List Placed) (at : Placed) (after : List Placed) → Rises low high (before ++ (at ∷ after)) → at.place < high
rises_at low high [] at after r = r.1
rises_at low high (p ∷ ps) at after r = rises_at (suc p.place) high ps at after r.2

pub place_inside : (text : List ℕ) (before : List Placed) (at : Placed) (after : List Placed) → tokens_of text ≡ before ++ (at ∷ after) → at.place < length text
place_inside text before at after e = rises_at 0 (length text) before at after (subst (Rises 0 (length text)) e (places_rise text))

-- a refusal tells its number and its place
refused_same : {A : Type 0} (r q : Refused) → ◌≡◌ {A = Answer A} (refused r) (refused q) → (r.number ≡ q.number) × (r.place ≡ q.place)
refused_same r q e =
    let same : r ≡ q = cc in
    (ap (λ (x : Refused). x.number) same, ap (λ (x : Refused). x.place) same)

module _ (text : List ℕ) where
  -- what an answer tells
  tells_read : {a : Answer Script} (s : Script) → Told text a → a ≡ given s → ReadAs text s
  tells_read s (read r x) e = let same : r ≡ s = cc in subst (ReadAs text) same x
  tells_read s (stops place x) e = clash (cc)
  tells_read s (ends x) e = clash (cc)
  tells_read s (deep place x) e = clash (cc)

  tells_fourteen : {a : Answer Script} (place : ℕ) → Told text a → a ≡ refused (refuse 14 place) → StopsAt text place ⊎ ((place ≡ length text) × EndsEarly text)
  tells_fourteen place (read r x) e = clash (cc)
  tells_fourteen place (stops k x) e = inl (subst (StopsAt text) (refused_same (refuse 14 k) (refuse 14 place) e).1 x)
  tells_fourteen place (ends x) e = inr (sym (refused_same (refuse 14 (length text)) (refuse 14 place) e).1, x)
  tells_fourteen place (deep k x) e = let z = (refused_same (refuse 15 k) (refuse 14 place) e).0 in absurd (omega arith)

  tells_fifteen : {a : Answer Script} (place : ℕ) → Told text a → a ≡ refused (refuse 15 place) → DeepAt text place
  tells_fifteen place (read r x) e = clash (cc)
  tells_fifteen place (stops k x) e = let z = (refused_same (refuse 14 k) (refuse 15 place) e).0 in absurd (omega arith)
  tells_fifteen place (ends x) e = let z = (refused_same (refuse 14 (length text)) (refuse 15 place) e).0 in absurd (omega arith)
  tells_fifteen place (deep k x) e = subst (DeepAt text) (refused_same (refuse 15 k) (refuse 15 place) e).1 x

  -- READ: exactly where the tokens write the script, it is right, and no bracket opens level 65
  pub read_means : (s : Script) → (script_read text ≡ given s) ↔ ReadAs text s
  read_means s = (tells_read s (told text), read_so text s)

  -- 14: exactly at the first token with which no text of the subset, depth aside, can go on; at the end, the length
  pub fourteen_means : (place : ℕ) → (script_read text ≡ refused (refuse 14 place)) ↔ (StopsAt text place ⊎ ((place ≡ length text) × EndsEarly text))
  fourteen_means place = (tells_fourteen place (told text), back)
    where
      back : StopsAt text place ⊎ ((place ≡ length text) × EndsEarly text) → script_read text ≡ refused (refuse 14 place)
      back (inl r) = stops_so text place r
      back (inr r) = ends_so text r.1 ∙ ap (λ (k : ℕ). refused (refuse 14 k)) (sym r.0)

  -- the two cases of 14 by the place: a token stands inside the text
  stops_inside : (place : ℕ) → StopsAt text place → place < length text
  stops_inside place r = subst (λ (k : ℕ). k < length text) r.here (place_inside text r.before r.at r.after r.split)

  pub inside_means : (place : ℕ) → ((script_read text ≡ refused (refuse 14 place)) × (place < length text)) ↔ StopsAt text place
  inside_means place = (λ e. go e.1 ((fourteen_means place).0 e.0), λ r. (stops_so text place r, stops_inside place r))
    where
      go : place < length text → StopsAt text place ⊎ ((place ≡ length text) × EndsEarly text) → StopsAt text place
      go l (inl r) = r
      go l (inr r) = let z = r.0 in absurd (omega arith)

  pub end_means : (script_read text ≡ refused (refuse 14 (length text))) ↔ EndsEarly text
  end_means = (λ e. go ((fourteen_means (length text)).0 e), ends_so text)
    where
      go : StopsAt text (length text) ⊎ ((length text ≡ length text) × EndsEarly text) → EndsEarly text
      go (inl r) = let z = stops_inside (length text) r in absurd (omega arith)
      go (inr r) = r.1

  -- 15: exactly at the bracket that opens level 65
  pub fifteen_means : (place : ℕ) → (script_read text ≡ refused (refuse 15 place)) ↔ DeepAt text place
  fifteen_means place = (tells_fifteen place (told text), deeps_so text place)

  -- and that token is an opening bracket
  pub deep_bracket : (place : ℕ) (r : DeepAt text place) → r.at.token ≡ opening
  deep_bracket place r = opens_deep (plain_tokens r.before) r.at.token r.shallow r.deep
