-- Read refuses exactly where it should, in the order tried, and takes every other text (02, E1). Assumes nothing.
use mathlib.Core.Path.{◌≡◌, refl, ap, ◌∙◌, subst}
use Prim.Native.Nat.{ℕ, ◌≤◌, ◌<◌}
use native.Mathlib.Omega.{arith}
use mathlib.Core.Bool.{Bool, true, false, ◌||◌}
use mathlib.Core.List.{List, [], ◌∷◌}
use mathlib.Core.Logic.{◌⊎◌, inl, inr, ◌↔◌}
use mathlib.Core.Option.{Option, none, some}
use lib.ListN.{length}
use lib.Dec.{ltb}
use borrow.Author.Tests.{ltb-true, ltb-false, lt-ltb, le-ltb}
use Rattle.std.specs.Prelude.{Result, Ok, Err}
use Rattle.definitions.specs.Lists.{first_of}
use Rattle.definitions.specs.Problem.Check.{functions_in, predicates_in, Refused, refuse, refuse_if}
use Rattle.definitions.specs.Operations.Answers.{Answer, refused, given, unless}
use Rattle.definitions.specs.Operations.Readings.{refusal_read, reading_read}
use Rattle.definitions.specs.Text.Grammar.{Script}
use Rattle.definitions.specs.Text.Reader.{script_read}
use Rattle.definitions.specs.Text.Nodes.{nodes_of_script, bytes_of_script, limits_of_script, problem_of_script, within_limits, if_room, taken, length_read, read_answer}
use Rattle.definitions.specs.declared.Refusal.{Refusal}
use Rattle.definitions.specs.declared.Refusal.TheVariants.{
  TooShort,
  NotEqp,
  BadVersion,
  BadCounts,
  BadLength,
  BadSymbol,
  BadNode,
  ManyFunctions,
  ManyPredicates,
  ShortWork,
  ShortWitness,
  BigProduct,
  WrongToken,
  TooDeep,
  WrongRoot,
  ShortProblem,
}
use Rattle.theorems.specs.Conditions.{place}
use Rattle.theorems.specs.Texts.{ReadAs, StopsAt, EndsEarly, Told, read, stops, ends, deep}
use Rattle.theorems.specs.ReadConditions.{FewNodes, FewFunctions, FewPredicates, TakesText, RefusesText}
use Rattle.theorems.proofs.Laws.Tests.{clash}
use Rattle.theorems.proofs.Unique.{refusal_apart}
use Rattle.theorems.proofs.Text.Taken.Told.{told}
use Rattle.theorems.proofs.Text.Taken.Exactly.{place_inside, read_means, fourteen_means, fifteen_means}
use Rattle.theorems.proofs.Text.Meant.Bytes.{script_length}

-- what the limits say of a problem
data Limited (s : Script) : Option Refused → Type 0 where
  many_counts : (32 < length (bytes_of_script s)) ⊎ (256 < length (nodes_of_script s)) → Limited s (some (refuse 4 0))
  many_functions : FewNodes s → 24 < functions_in (nodes_of_script s) → Limited s (some (refuse 9 0))
  many_predicates : FewNodes s → FewFunctions s → 16 < predicates_in (nodes_of_script s) → Limited s (some (refuse 10 0))
  none_many : FewNodes s → FewFunctions s → FewPredicates s → Limited s none

limited : (s : Script) → Limited s (limits_of_script s)
unfolding limits_of_script
limited s =
    go (ltb 32 (length (bytes_of_script s))) (ltb 256 (length (nodes_of_script s))) (ltb 24 (functions_in (nodes_of_script s))) (ltb 16 (predicates_in (nodes_of_script s))) refl refl
    refl refl
  where
    go : (a b c d : Bool) → ltb 32 (length (bytes_of_script s)) ≡ a → ltb 256 (length (nodes_of_script s)) ≡ b → ltb 24 (functions_in (nodes_of_script s)) ≡ c
        → ltb 16 (predicates_in (nodes_of_script s)) ≡ d → Limited s (first_of (refuse_if (a || b) 4 ∷ refuse_if c 9 ∷ refuse_if d 10 ∷ []))
    go true b c d p q r e = many_counts (inl (ltb-true 32 (length (bytes_of_script s)) p))
    go false true c d p q r e = many_counts (inr (ltb-true 256 (length (nodes_of_script s)) q))
    go false false true d p q r e =
        many_functions (ltb-false 32 (length (bytes_of_script s)) p, ltb-false 256 (length (nodes_of_script s)) q) (ltb-true 24 (functions_in (nodes_of_script s)) r)
    go false false false true p q r e =
        many_predicates (ltb-false 32 (length (bytes_of_script s)) p, ltb-false 256 (length (nodes_of_script s)) q) (ltb-false 24 (functions_in (nodes_of_script s)) r)
        (ltb-true 16 (predicates_in (nodes_of_script s)) e)
    go false false false false p q r e =
        none_many (ltb-false 32 (length (bytes_of_script s)) p, ltb-false 256 (length (nodes_of_script s)) q) (ltb-false 24 (functions_in (nodes_of_script s)) r)
        (ltb-false 16 (predicates_in (nodes_of_script s)) e)

-- each condition to its refusal
module _ {s : Script} where
  limited_none : {o : Option Refused} → Limited s o → FewNodes s → FewFunctions s → FewPredicates s → o ≡ none
  limited_none (many_counts (inl x)) n f p = let l = n.0 in absurd (omega arith)
  limited_none (many_counts (inr x)) n f p = let l = n.1 in absurd (omega arith)
  limited_none (many_functions m x) n f p = absurd (omega arith)
  limited_none (many_predicates m g x) n f p = absurd (omega arith)
  limited_none (none_many m g q) n f p = refl

  limited_four : {o : Option Refused} → Limited s o → (32 < length (bytes_of_script s)) ⊎ (256 < length (nodes_of_script s)) → o ≡ some (refuse 4 0)
  limited_four (many_counts x) y = refl
  limited_four (many_functions n x) (inl h) = let l = n.0 in absurd (omega arith)
  limited_four (many_functions n x) (inr h) = let l = n.1 in absurd (omega arith)
  limited_four (many_predicates n f x) (inl h) = let l = n.0 in absurd (omega arith)
  limited_four (many_predicates n f x) (inr h) = let l = n.1 in absurd (omega arith)
  limited_four (none_many n f p) (inl h) = let l = n.0 in absurd (omega arith)
  limited_four (none_many n f p) (inr h) = let l = n.1 in absurd (omega arith)

  limited_nine : {o : Option Refused} → Limited s o → FewNodes s → 24 < functions_in (nodes_of_script s) → o ≡ some (refuse 9 0)
  limited_nine (many_counts (inl x)) n h = let l = n.0 in absurd (omega arith)
  limited_nine (many_counts (inr x)) n h = let l = n.1 in absurd (omega arith)
  limited_nine (many_functions m x) n h = refl
  limited_nine (many_predicates m f x) n h = absurd (omega arith)
  limited_nine (none_many m f p) n h = absurd (omega arith)

  limited_ten : {o : Option Refused} → Limited s o → FewNodes s → FewFunctions s → 16 < predicates_in (nodes_of_script s) → o ≡ some (refuse 10 0)
  limited_ten (many_counts (inl x)) n f h = let l = n.0 in absurd (omega arith)
  limited_ten (many_counts (inr x)) n f h = let l = n.1 in absurd (omega arith)
  limited_ten (many_functions m x) n f h = absurd (omega arith)
  limited_ten (many_predicates m g x) n f h = refl
  limited_ten (none_many m g p) n f h = absurd (omega arith)

-- what an answer of read says, as a script or a refusal
data Says (text : List ℕ) (room : ℕ) : Answer Script → Type 0 where
  takes : (s : Script) → TakesText text room s → Says text room (given s)
  refuses : (x : Refusal) → RefusesText text room x → Says text room (refused (refusal_read x))

module _ (text : List ℕ) (room : ℕ) where
  says : Says text room (taken text room)
  unfolding taken
  says = roomy (ltb room 2088) refl
    where
      result : 2088 ≤ room → (s : Script) → ReadAs text s → {o : Option Refused} → Limited s o → Says text room (unless o s)
      result h s r (many_counts x) = refuses BadCounts (h, (s, (r, x)))
      result h s r (many_functions n x) = refuses ManyFunctions (h, (s, (r, (n, x))))
      result h s r (many_predicates n f x) = refuses ManyPredicates (h, (s, (r, (n, f, x))))
      result h s r (none_many n f p) = takes s (record { room_long = h; reads = r; few_nodes = n; few_functions = f; few_predicates = p })

      tells : 2088 ≤ room → {a : Answer Script} → Told text a → Says text room (within_limits a)
      tells h (read s x) = result h s x (limited s)
      tells h (stops place x) = refuses (WrongToken place) (h, inl x)
      tells h (ends x) = refuses (WrongToken (length text)) (h, inr (refl, x))
      tells h (deep place x) = refuses (TooDeep place) (h, x)

      roomy : (b : Bool) → ltb room 2088 ≡ b → Says text room (if_room (refuse_if b 23) (within_limits (script_read text)))
      roomy true e = refuses ShortProblem (ltb-true room 2088 e)
      roomy false e = tells (ltb-false room 2088 e) (told text)

  -- each case to its answer
  within_room : (a : Answer Script) → 2088 ≤ room → script_read text ≡ a → taken text room ≡ within_limits a
  unfolding taken
  within_room a h e =
      ap (λ (b : Bool). if_room (refuse_if b 23) (within_limits (script_read text))) (le-ltb room 2088 h) ∙ ap within_limits e

  by_limits : (s : Script) (o : Option Refused) → 2088 ≤ room → ReadAs text s → limits_of_script s ≡ o → taken text room ≡ unless o s
  by_limits s o h r e = within_room (given s) h ((read_means text s).1 r) ∙ ap (λ (o : Option Refused). unless o s) e

  pub takes_limits : (s : Script) → TakesText text room s → limits_of_script s ≡ none
  takes_limits s t = limited_none (limited s) t.few_nodes t.few_functions t.few_predicates

  takes_so : (s : Script) → TakesText text room s → taken text room ≡ given s
  takes_so s t = by_limits s none t.room_long t.reads (takes_limits s t)

  refuses_so : (x : Refusal) → RefusesText text room x → taken text room ≡ refused (refusal_read x)
  unfolding taken
  refuses_so ShortProblem r =
      ap (λ (b : Bool). if_room (refuse_if b 23) (within_limits (script_read text))) (lt-ltb room 2088 r)
  refuses_so (WrongToken k) r = within_room (refused (refuse 14 k)) r.0 ((fourteen_means text k).1 r.1)
  refuses_so (TooDeep k) r = within_room (refused (refuse 15 k)) r.0 ((fifteen_means text k).1 r.1)
  refuses_so BadCounts r = let s = r.1.0 in by_limits s (some (refuse 4 0)) r.0 r.1.1.0 (limited_four (limited s) r.1.1.1)
  refuses_so ManyFunctions r =
      let s = r.1.0 in by_limits s (some (refuse 9 0)) r.0 r.1.1.0 (limited_nine (limited s) r.1.1.1.0 r.1.1.1.1)
  refuses_so ManyPredicates r =
      let s = r.1.0 in
      by_limits s (some (refuse 10 0)) r.0 r.1.1.0 (limited_ten (limited s) r.1.1.1.0 r.1.1.1.1 r.1.1.1.2)
  refuses_so TooShort r = absurd r
  refuses_so NotEqp r = absurd r
  refuses_so BadVersion r = absurd r
  refuses_so BadLength r = absurd r
  refuses_so (BadSymbol k) r = absurd r
  refuses_so (BadNode k) r = absurd r
  refuses_so WrongRoot r = absurd r
  refuses_so ShortWork r = absurd r
  refuses_so ShortWitness r = absurd r
  refuses_so BigProduct r = absurd r

  -- so a text is taken as a script, or refused by a refusal, exactly where this is so
  pub takes_exactly : (s : Script) → (taken text room ≡ given s) ↔ TakesText text room s
  takes_exactly s = (go says, takes_so s)
    where
      go : {a : Answer Script} → Says text room a → a ≡ given s → TakesText text room s
      go (takes r t) e = let same : r ≡ s = cc in subst (TakesText text room) same t
      go (refuses x r) e = clash (cc)

  pub refuses_exactly : (x : Refusal) → (taken text room ≡ refused (refusal_read x)) ↔ RefusesText text room x
  refuses_exactly x = (go says, refuses_so x)
    where
      go : {a : Answer Script} → Says text room a → a ≡ refused (refusal_read x) → RefusesText text room x
      go (takes r t) e = clash (cc)
      go (refuses y r) e = let same : refusal_read y ≡ refusal_read x = cc in subst (RefusesText text room) (refusal_apart y x same) r

  -- some answer is read's, whatever the text
  pub reads : (q : Result ℕ Refusal) × (reading_read q ≡ read_answer text room)
  unfolding read_answer
  reads = go says
    where
      go : {a : Answer Script} → Says text room a → (q : Result ℕ Refusal) × (reading_read q ≡ length_read a)
      go (takes s t) = (Ok (length (problem_of_script s)), refl)
      go (refuses x r) = (Err x, refl)

  -- the place of a refusal is one of the text's, or its end
  pub place_within : (x : Refusal) → RefusesText text room x → place x ≤ length text
  place_within ShortProblem r = omega arith
  place_within (WrongToken k) r = by r.1
    where
      by : StopsAt text k ⊎ ((k ≡ length text) × EndsEarly text) → k ≤ length text
      by (inl s) = let h = place_inside text s.before s.at s.after s.split in let e = s.here in omega arith
      by (inr s) = let e = s.0 in omega arith
  place_within (TooDeep k) r =
      let s = r.1 in
      let h = place_inside text s.before s.at s.after s.split in
      let e = s.here in
      omega arith
  place_within BadCounts r = omega arith
  place_within ManyFunctions r = omega arith
  place_within ManyPredicates r = omega arith
  place_within TooShort r = absurd r
  place_within NotEqp r = absurd r
  place_within BadVersion r = absurd r
  place_within BadLength r = absurd r
  place_within (BadSymbol k) r = absurd r
  place_within (BadNode k) r = absurd r
  place_within WrongRoot r = absurd r
  place_within ShortWork r = absurd r
  place_within ShortWitness r = absurd r
  place_within BigProduct r = absurd r

  -- and a problem is short
  pub problem_short : (s : Script) → TakesText text room s → length (problem_of_script s) ≤ 2088
  problem_short s t =
      let e = script_length s in
      let a = t.few_nodes.0 in
      let b = t.few_nodes.1 in
      omega arith
