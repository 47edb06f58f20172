-- What every answer of the reader says of the text: it is of the subset and nowhere too deep, or 14 stands at the first token with which
-- no text of the subset can go on or at the end, or 15 at the bracket that opens level 65 (02, E1). Assumes nothing.
use mathlib.Core.Path.{◌≡◌, refl, sym, ap, ◌∙◌, subst}
use Prim.Native.Nat.{ℕ}
use mathlib.Core.Bool.{Bool, true, false, true≢false}
use mathlib.Core.List.{List, [], ◌∷◌, ◌++◌, append_assoc, append-nil, map-append}
use mathlib.Core.Option.{Option, none, some}
use lib.ListN.{length}
use lib.Dec.{ltb}
use borrow.Author.Tests.{ltb-true, ltb-false}
use Rattle.definitions.specs.Lists.{snoc, all}
use Rattle.definitions.specs.Problem.Check.{refuse}
use Rattle.definitions.specs.Operations.Answers.{refused, given}
use Rattle.definitions.specs.Text.Tokens.{Placed, tokens_of}
use Rattle.definitions.specs.Text.Reader.{State, start, step, level_of, is_finished, script_of, read_from, script_read}
use Rattle.theorems.specs.Texts.{plain_tokens, text_tokens, GoesOn, Shallow, Told, read, stops, ends, deep}
use Rattle.theorems.proofs.Laws.All.{all_left}
use Rattle.theorems.proofs.Text.Taken.Runs.{runs, runs_step, runs_append}
use Rattle.theorems.proofs.Text.Taken.Lexed.{lexed, text_lexed}
use Rattle.theorems.proofs.Text.Taken.Kept.Sound.{read_out}
use Rattle.theorems.proofs.Text.Taken.GoesOn.{taken_goes_on, not_taken, whole_finished}
use Rattle.theorems.proofs.Text.Taken.Depth.{few_open, many_open, shallow_start, shallow_snoc}

-- the tokens of a part of a text
pub plain_append : (ps qs : List Placed) → plain_tokens (ps ++ qs) ≡ plain_tokens ps ++ plain_tokens qs
plain_append ps qs = map-append (λ (p : Placed). p.token) ps qs

pub part_lexed : (text : List ℕ) (ps qs : List Placed) → tokens_of text ≡ ps ++ qs → all lexed (plain_tokens ps) ≡ true
part_lexed text ps qs e =
    all_left lexed (plain_tokens ps) (plain_tokens qs)
    (ap (all lexed) (sym (ap plain_tokens e ∙ plain_append ps qs)) ∙ text_lexed text)

module _ (text : List ℕ) where
  -- from a state on, after some tokens of the text
  told_from : (ps : List Placed) (st : State) (done : List Placed) → tokens_of text ≡ done ++ ps → runs start (plain_tokens done) ≡ some st
      → Shallow (plain_tokens done) → Told text (read_from st (length text) ps)
  told_from [] st done s e f = go (is_finished st.stage) refl
    where
      same : plain_tokens done ≡ text_tokens text
      same = ap plain_tokens (sym (s ∙ append-nil done))

      go : (b : Bool) → is_finished st.stage ≡ b → Told text (elim b [ true ↦ given (script_of st) | false ↦ refused (refuse 14 (length text)) ])
      go true q =
          let o = read_out (plain_tokens done) st e q in
          read (script_of st) (record { right = o.0; writes = o.1 ∙ same; shallow = subst Shallow same f })
      go false q =
          ends
          (record {
            shallow = subst Shallow same f;
            viable = subst GoesOn same (taken_goes_on (plain_tokens done) st e (part_lexed text done [] s));
            short = λ w. true≢false (sym (whole_finished (text_tokens text) st (ap (runs start) (sym same) ∙ e) w) ∙ q);
          })
  told_from (p ∷ ps) st done s e f = go (step st p.token) refl (λ x. told_from ps x (snoc done p))
    where
      one_more_lem : tokens_of text ≡ snoc done p ++ ps
      one_more_lem = s ∙ sym (append_assoc done (p ∷ []) ps)

      plain_snoc : plain_tokens (snoc done p) ≡ snoc (plain_tokens done) p.token
      plain_snoc = plain_append done (p ∷ [])

      go : (o : Option State) → step st p.token ≡ o
          → ((x : State) → tokens_of text ≡ snoc done p ++ ps → runs start (plain_tokens (snoc done p)) ≡ some x → Shallow (plain_tokens (snoc done p))
          → Told text (read_from x (length text) ps))
          → Told text
          (elim o [
            | none ↦ refused (refuse 14 p.place)
            | some x ↦ elim (ltb 64 (level_of x.stage)) [ true ↦ refused (refuse 15 p.place) | false ↦ read_from x (length text) ps ]
          ])
      go none q rec =
          stops p.place
          (record {
            before = done;
            at = p;
            after = ps;
            split = s;
            here = refl;
            shallow = f;
            viable = taken_goes_on (plain_tokens done) st e (part_lexed text done (p ∷ ps) s);
            stuck = not_taken (plain_tokens done) st p.token e q;
          })
      go (some x) q rec = level (ltb 64 (level_of x.stage)) refl
        where
          on : runs start (plain_tokens (snoc done p)) ≡ some x
          on = ap (runs start) plain_snoc ∙ runs_append start st (plain_tokens done) (p.token ∷ []) e ∙ runs_step st x p.token [] q

          on_plain : runs start (snoc (plain_tokens done) p.token) ≡ some x
          on_plain = ap (runs start) (sym plain_snoc) ∙ on

          level : (b : Bool) → ltb 64 (level_of x.stage) ≡ b
              → Told text (elim b [ true ↦ refused (refuse 15 p.place) | false ↦ read_from x (length text) ps ])
          level true l =
              deep p.place
              (record {
                before = done;
                at = p;
                after = ps;
                split = s;
                here = refl;
                shallow = f;
                viable = subst GoesOn plain_snoc (taken_goes_on (plain_tokens (snoc done p)) x on (part_lexed text (snoc done p) ps one_more_lem));
                deep = many_open (snoc (plain_tokens done) p.token) x on_plain (ltb-true 64 (level_of x.stage) l);
              })
          level false l =
              rec x one_more_lem on
              (subst Shallow (sym plain_snoc)
              (shallow_snoc (plain_tokens done) p.token f
              (few_open (snoc (plain_tokens done) p.token) x on_plain (ltb-false 64 (level_of x.stage) l))))

  pub told : Told text (script_read text)
  unfolding script_read
  told = told_from (tokens_of text) start [] refl refl shallow_start
