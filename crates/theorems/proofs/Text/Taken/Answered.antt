-- Each case of a text gets its answer of the reader: a script where it is of the subset and nowhere too deep, 14 at the token or the
-- end where no text of the subset can go on, 15 at the bracket that opens level 65 (02, E1). Assumes nothing.
use mathlib.Core.Path.{◌≡◌, refl, sym, ap, ◌∙◌, subst}
use Prim.Native.Nat.{ℕ, ◌+◌, ◌≤◌, ◌<◌}
use native.Mathlib.Omega.{arith}
use mathlib.Core.Bool.{Bool, true, false}
use mathlib.Core.List.{List, [], ◌∷◌, ◌++◌, append_assoc, append-nil}
use mathlib.Core.Logic.{◌⊎◌, inl, inr}
use mathlib.Core.Option.{Option, none, some}
use lib.ListN.{length}
use lib.Dec.{ltb}
use borrow.Author.Tests.{lt-ltb, le-ltb}
use Rattle.definitions.specs.Lists.{snoc}
use Rattle.definitions.specs.Problem.Check.{refuse}
use Rattle.definitions.specs.Operations.Answers.{Answer, refused, given}
use Rattle.definitions.specs.Text.Tokens.{Token, Placed, tokens_of}
use Rattle.definitions.specs.Text.Grammar.{Script}
use Rattle.definitions.specs.Text.Reader.{State, start, step, level_of, is_finished, script_of, read_from, script_read}
use Rattle.theorems.specs.Texts.{plain_tokens, text_tokens, GoesOn, opens, closes, Shallow, ReadAs, StopsAt, EndsEarly, DeepAt}
use Rattle.theorems.proofs.Laws.Tests.{split, some_same, none≢some}
use Rattle.theorems.proofs.Text.Taken.Runs.{runs, runs_step, runs_append, runs_prefix}
use Rattle.theorems.proofs.Text.Taken.Kept.Sound.{read_subset}
use Rattle.theorems.proofs.Text.Taken.Written.Scripts.{ending, run_script}
use Rattle.theorems.proofs.Text.Taken.GoesOn.{taken_goes_on, goes_on_taken, not_taken}
use Rattle.theorems.proofs.Text.Taken.Depth.{few_open, many_open, shallow_part}
use Rattle.theorems.proofs.Text.Taken.Told.{plain_append, part_lexed}

-- tokens that are taken and nowhere too deep are read through
read_through : (last : ℕ) (ds ps : List Placed) (pre : List Token) (x y : State) → runs start pre ≡ some x → runs x (plain_tokens ds) ≡ some y
    → Shallow (pre ++ plain_tokens ds) → read_from x last (ds ++ ps) ≡ read_from y last ps
read_through last [] ps pre x y e r s = ap (λ (z : State). read_from z last ps) (some_same x y r)
read_through last (d ∷ ds) ps pre x y e r s = go (step x d.token) refl r (λ z. read_through last ds ps (snoc pre d.token) z y)
  where
    go : (o : Option State) → step x d.token ≡ o → ◌≡◌ {A = Option State} (elim o [ none ↦ none | some z ↦ runs z (plain_tokens ds) ]) (some y)
        → ((z : State) → runs start (snoc pre d.token) ≡ some z → runs z (plain_tokens ds) ≡ some y → Shallow (snoc pre d.token ++ plain_tokens ds)
        → read_from z last (ds ++ ps) ≡ read_from y last ps)
        → ◌≡◌ {A = Answer Script}
        (elim o [
          | none ↦ refused (refuse 14 d.place)
          | some z ↦ elim (ltb 64 (level_of z.stage)) [ true ↦ refused (refuse 15 d.place) | false ↦ read_from z last (ds ++ ps) ]
        ])
        (read_from y last ps)
    go none q r' rec = absurd (none≢some r')
    go (some z) q r' rec = ap level not_deep ∙ rec z on r' more
      where
        on : runs start (snoc pre d.token) ≡ some z
        on = runs_append start x pre (d.token ∷ []) e ∙ runs_step x z d.token [] q

        more : Shallow (snoc pre d.token ++ plain_tokens ds)
        more = subst Shallow (sym (append_assoc pre (d.token ∷ []) (plain_tokens ds))) s

        level : Bool → Answer Script
        level b = elim b [ true ↦ refused (refuse 15 d.place) | false ↦ read_from z last (ds ++ ps) ]

        not_deep : ltb 64 (level_of z.stage) ≡ false
        not_deep = by (split 64 (level_of z.stage))
          where
            by : (64 < level_of z.stage) ⊎ (level_of z.stage ≤ 64) → ltb 64 (level_of z.stage) ≡ false
            by (inl l) =
                let many = many_open (snoc pre d.token) z on l in
                let few = shallow_part (snoc pre d.token) (plain_tokens ds) more in
                absurd (omega arith)
            by (inr l) = le-ltb 64 (level_of z.stage) l

module _ (text : List ℕ) where
  -- up to a place where no more than a few brackets were open, what is read is what is read from there
  read_on_lem : (before ps : List Placed) (y : State) → tokens_of text ≡ before ++ ps → runs start (plain_tokens before) ≡ some y → Shallow (plain_tokens before)
      → script_read text ≡ read_from y (length text) ps
  unfolding script_read
  read_on_lem before ps y s e f = ap (read_from start (length text)) s ∙ read_through (length text) before ps [] start y refl e f

  read_all : (y : State) → runs start (text_tokens text) ≡ some y → Shallow (text_tokens text) → script_read text ≡ read_from y (length text) []
  read_all y e f = read_on_lem (tokens_of text) [] y (sym (append-nil (tokens_of text))) e f

  -- the four cases, each to its answer
  pub read_so : (s : Script) → ReadAs text s → script_read text ≡ given s
  read_so s r = read_all (ending s) (ap (runs start) (sym r.writes) ∙ run_script s r.right) r.shallow

  pub ends_so : EndsEarly text → script_read text ≡ refused (refuse 14 (length text))
  ends_so r =
      let t = goes_on_taken (text_tokens text) r.viable in
      read_all t.0 t.1 r.shallow ∙ go t.0 t.1 (is_finished t.0.stage) refl
    where
      go : (y : State) → runs start (text_tokens text) ≡ some y → (b : Bool) → is_finished y.stage ≡ b
          → ◌≡◌ {A = Answer Script} (elim b [ true ↦ given (script_of y) | false ↦ refused (refuse 14 (length text)) ]) (refused (refuse 14 (length text)))
      go y e true q = absurd (r.short (read_subset (text_tokens text) y e q))
      go y e false q = refl

  module _ (before : List Placed) (at : Placed) (after : List Placed) (s : tokens_of text ≡ before ++ (at ∷ after)) (y : State) (e : runs start (plain_tokens before) ≡ some y) where
    -- one more token
    on : (x : State) → step y at.token ≡ some x → runs start (snoc (plain_tokens before) at.token) ≡ some x
    on x q = runs_append start y (plain_tokens before) (at.token ∷ []) e ∙ runs_step y x at.token [] q

    snoc_on : GoesOn (plain_tokens (snoc before at)) → GoesOn (snoc (plain_tokens before) at.token)
    snoc_on g = subst GoesOn (plain_append before (at ∷ [])) g

    stuck_so : (GoesOn (snoc (plain_tokens before) at.token) → ⊥) → read_from y (length text) (at ∷ after) ≡ refused (refuse 14 at.place)
    stuck_so stuck = go (step y at.token) refl
      where
        go : (o : Option State) → step y at.token ≡ o
            → ◌≡◌ {A = Answer Script}
            (elim o [
              | none ↦ refused (refuse 14 at.place)
              | some x ↦ elim (ltb 64 (level_of x.stage)) [ true ↦ refused (refuse 15 at.place) | false ↦ read_from x (length text) after ]
            ])
            (refused (refuse 14 at.place))
        go none q = refl
        go (some x) q =
            absurd
            (stuck
            (snoc_on
            (taken_goes_on (plain_tokens (snoc before at)) x (ap (runs start) (plain_append before (at ∷ [])) ∙ on x q)
            (part_lexed text (snoc before at) after (s ∙ sym (append_assoc before (at ∷ []) after))))))

    deep_so : GoesOn (snoc (plain_tokens before) at.token)
        → 66 + closes (snoc (plain_tokens before) at.token) ≤ opens (snoc (plain_tokens before) at.token)
        → read_from y (length text) (at ∷ after) ≡ refused (refuse 15 at.place)
    deep_so g h = go (step y at.token) refl
      where
        level : (x : State) → Bool → Answer Script
        level x b = elim b [ true ↦ refused (refuse 15 at.place) | false ↦ read_from x (length text) after ]

        too_deep : (x : State) → step y at.token ≡ some x → (64 < level_of x.stage) ⊎ (level_of x.stage ≤ 64) → ltb 64 (level_of x.stage) ≡ true
        too_deep x q (inl l) = lt-ltb 64 (level_of x.stage) l
        too_deep x q (inr l) = let f = few_open (snoc (plain_tokens before) at.token) x (on x q) l in absurd (omega arith)

        go : (o : Option State) → step y at.token ≡ o
            → ◌≡◌ {A = Answer Script}
            (elim o [
              | none ↦ refused (refuse 14 at.place)
              | some x ↦ elim (ltb 64 (level_of x.stage)) [ true ↦ refused (refuse 15 at.place) | false ↦ read_from x (length text) after ]
            ])
            (refused (refuse 15 at.place))
        go none q = absurd (not_taken (plain_tokens before) y at.token e q g)
        go (some x) q = ap (level x) (too_deep x q (split 64 (level_of x.stage)))

  pub stops_so : (place : ℕ) → StopsAt text place → script_read text ≡ refused (refuse 14 place)
  stops_so place r =
      let t = goes_on_taken (plain_tokens r.before) r.viable in
      read_on_lem r.before (r.at ∷ r.after) t.0 r.split t.1 r.shallow
      ∙ stuck_so r.before r.at r.after r.split t.0 t.1 r.stuck
      ∙ ap (λ (k : ℕ). refused (refuse 14 k)) r.here

  pub deeps_so : (place : ℕ) → DeepAt text place → script_read text ≡ refused (refuse 15 place)
  deeps_so place r =
      let u = goes_on_taken (snoc (plain_tokens r.before) r.at.token) r.viable in
      let t = runs_prefix start u.0 (plain_tokens r.before) (r.at.token ∷ []) u.1 in
      read_on_lem r.before (r.at ∷ r.after) t.0 r.split t.1 r.shallow
      ∙ deep_so r.before r.at r.after r.split t.0 t.1 r.viable r.deep
      ∙ ap (λ (k : ℕ). refused (refuse 15 k)) r.here
