-- The tokens of commands, up to the terms: each that is taken keeps what a state says of the tokens that led to it (02, E1).
-- Assumes nothing.
use mathlib.Core.Path.{◌≡◌, refl, sym, ap, ◌∙◌, subst}
use Prim.Native.Nat.{ℕ, zero, suc}
use native.Mathlib.Omega.{arith}
use mathlib.Core.Bool.{Bool, true, false, ◌&&◌}
use mathlib.Core.List.{List, [], ◌∷◌, ◌++◌, append_assoc}
use mathlib.Core.Option.{Option, none, some}
use lib.ListN.{replicate}
use lib.Dec.{leb, ltb}
use borrow.Author.Tests.{ltb-true, le-leb}
use Rattle.definitions.specs.Lists.{snoc}
use Rattle.definitions.specs.Problem.Ops.{Sort, term, formula}
use Rattle.theorems.proofs.Laws.Tests.{and_left, and_right, and_intro, some_same, none≢some}
use Rattle.definitions.specs.Text.Ascii.{ascii}
use Rattle.definitions.specs.Text.Tokens.{Token, opening, closing, nought, wrong, symbol, word, same_token}
use Rattle.definitions.specs.Text.Grammar.{Symbol, end, Command, declare, symbols_in, one_formula, new_function, new_sort, sort_written}
use Rattle.definitions.specs.Text.Reader.{Stage, exact, naming, commanding, declaring, finished, taking, giving, inside, State, goes, unless_not, symbol_name, named, new_named, gave, step_at}
use Rattle.theorems.proofs.Text.Taken.Runs.{same_token_lem}
use Rattle.theorems.proofs.Text.Taken.Kept.Invariant.{right_snoc, base, base_snoc, DECLARE, ASSERT, Inv}

abbrev pub InvS : State → List Token → Type 0
InvS st ts = Inv st.sort_name st.commands st.stage ts

pub arrive : (x y : State) (ts : List Token) → InvS x ts → ◌≡◌ {A = Option State} (some x) (some y) → InvS y ts
arrive x y ts i e = subst (λ (s : State). InvS s ts) (some_same x y e) i

pub passed : (b : Bool) (x y : State) (ts : List Token) → (b ≡ true → InvS x ts) → unless_not b x ≡ some y → InvS y ts
passed true x y ts f e = arrive x y ts (f refl) e
passed false x y ts f e = absurd (none≢some e)

-- one more token after what is read before a command
pub onto : (front xs ts : List Token) (t : Token) → ts ≡ front ++ xs → snoc ts t ≡ front ++ snoc xs t
onto front xs ts t e = ap (λ (l : List Token). snoc l t) e ∙ append_assoc front xs (t ∷ [])

symbol_name_lem : (t : Token) (name : List ℕ) → symbol_name t ≡ some name → t ≡ symbol name
symbol_name_lem opening name e = absurd (none≢some e)
symbol_name_lem closing name e = absurd (none≢some e)
symbol_name_lem nought name e = absurd (none≢some e)
symbol_name_lem wrong name e = absurd (none≢some e)
symbol_name_lem (symbol n) name e = ap symbol (some_same n name e)
symbol_name_lem (word n) name e = absurd (none≢some e)

replicate_snoc : (k : ℕ) (x : Token) → snoc (replicate k x) x ≡ x ∷ replicate k x
replicate_snoc zero x = refl
replicate_snoc (suc k) x = ap {B = List Token} (λ l. x ∷ l) (replicate_snoc k x)

module _ (st y : State) (t : Token) (ts : List Token) where
  abbrev sn : List ℕ
  sn = st.sort_name

  abbrev cs : List Command
  cs = st.commands

  abbrev sig : List Symbol
  sig = symbols_in cs

  pub keep_exact : (x : Token) (then : Stage) → Inv sn cs (exact x then) ts → step_at st (exact x then) t ≡ some y → InvS y (snoc ts t)
  keep_exact x then i e =
      passed (same_token x t) (goes st then) y (snoc ts t) (λ p. subst (λ (u : Token). Inv sn cs then (snoc ts u)) (same_token_lem x t p) i) e

  pub keep_naming : Inv sn cs naming ts → step_at st naming t ≡ some y → InvS y (snoc ts t)
  keep_naming i e = go (symbol_name t) refl e
    where
      go : (o : Option (List ℕ)) → symbol_name t ≡ o → named st o ≡ some y → InvS y (snoc ts t)
      go none p e' = absurd (none≢some e')
      go (some name) p e' =
          passed (new_sort name) _ y (snoc ts t) (λ q. ((q, rw i.0 refl), rw (i.1, symbol_name_lem t name p, i.0) refl)) e'

  pub keep_commanding : Inv sn cs commanding ts → step_at st commanding t ≡ some y → InvS y (snoc ts t)
  keep_commanding i e = go (same_token t DECLARE) (same_token t ASSERT) (same_token t (word (ascii "check-sat"))) refl refl refl e
    where
      at : (u : Token) → same_token t u ≡ true → snoc ts t ≡ base sn cs ++ (opening ∷ u ∷ [])
      at u p = onto (base sn cs) (opening ∷ []) ts t i.1 ∙ ap (λ (v : Token). base sn cs ++ (opening ∷ v ∷ [])) (same_token_lem t u p)

      go : (a b c : Bool) → same_token t DECLARE ≡ a → same_token t ASSERT ≡ b → same_token t (word (ascii "check-sat")) ≡ c
          → ◌≡◌ {A = Option State}
          (elim a [
            | true ↦ some (goes st declaring)
            | false ↦ elim b [ true ↦ some (goes st (inside one_formula end [])) | false ↦ unless_not c (goes st (exact closing finished)) ]
          ])
          (some y)
          → InvS y (snoc ts t)
      go true b c p q r e' = arrive (goes st declaring) y (snoc ts t) (i.0, at DECLARE p) e'
      go false true c p q r e' = arrive (goes st (inside one_formula end [])) y (snoc ts t) (i.0, (refl, refl), at ASSERT q) e'
      go false false c p q r e' =
          passed c (goes st (exact closing finished)) y (snoc ts t)
          (λ z. (i.0, onto (base sn cs) (opening ∷ word (ascii "check-sat") ∷ []) (snoc ts t) closing (at (word (ascii "check-sat")) (r ∙ z)))) e'

  pub keep_declaring : Inv sn cs declaring ts → step_at st declaring t ≡ some y → InvS y (snoc ts t)
  keep_declaring i e = go (symbol_name t) refl e
    where
      go : (o : Option (List ℕ)) → symbol_name t ≡ o → new_named st o ≡ some y → InvS y (snoc ts t)
      go none p e' = absurd (none≢some e')
      go (some name) p e' =
          passed (new_function sig name) _ y (snoc ts t)
          (λ q. (
            i.0,
            q,
            omega arith,
            onto (base sn cs) (opening ∷ DECLARE ∷ symbol name ∷ []) (snoc ts t) opening
                (onto (base sn cs) (opening ∷ DECLARE ∷ []) ts t i.1
                ∙ ap (λ (v : Token). base sn cs ++ (opening ∷ DECLARE ∷ v ∷ [])) (symbol_name_lem t name p)),
          ))
          e'

  -- a function's name, and so many arguments
  abbrev begun_with : List ℕ → ℕ → List Token
  begun_with name k = opening ∷ DECLARE ∷ symbol name ∷ opening ∷ replicate k (symbol sn)

  pub keep_taking : (name : List ℕ) (k : ℕ) → Inv sn cs (taking name k) ts → step_at st (taking name k) t ≡ some y → InvS y (snoc ts t)
  keep_taking name k i e = go (same_token t closing) refl e
    where
      go : (b : Bool) → same_token t closing ≡ b
          → ◌≡◌ {A = Option State}
          (elim b [
            | true ↦ some (goes st (giving name k))
            | false ↦ unless_not (ltb k 3 && same_token t (symbol sn)) (goes st (taking name (suc k)))
          ])
          (some y)
          → InvS y (snoc ts t)
      go true p e' =
          arrive (goes st (giving name k)) y (snoc ts t)
          (i.0, i.1, i.2, onto (base sn cs) (begun_with name k) ts t i.3 ∙ ap (λ (u : Token). base sn cs ++ snoc (begun_with name k) u) (same_token_lem t closing p)) e'
      go false p e' =
          passed (ltb k 3 && same_token t (symbol sn)) (goes st (taking name (suc k))) y (snoc ts t)
          (λ q.
          let l = ltb-true k 3 (and_left (ltb k 3) (same_token t (symbol sn)) q) in (
            i.0,
            i.1,
            l,
            onto (base sn cs) (begun_with name k) ts t i.3
                ∙ ap (λ (u : Token). base sn cs ++ snoc (begun_with name k) u) (same_token_lem t (symbol sn) (and_right (ltb k 3) (same_token t (symbol sn)) q))
                ∙ ap (λ (us : List Token). base sn cs ++ (opening ∷ DECLARE ∷ symbol name ∷ opening ∷ us)) (replicate_snoc k (symbol sn)),
          ))
          e'

  pub keep_giving : (name : List ℕ) (k : ℕ) → Inv sn cs (giving name k) ts → step_at st (giving name k) t ≡ some y → InvS y (snoc ts t)
  keep_giving name k i e = go (same_token t (sort_written sn term)) refl e
    where
      given : (s : Sort) → same_token t (sort_written sn s) ≡ true → InvS (gave st name k s) (snoc ts t)
      given s p =
          let c = declare (record { name = name; arity = k; result = s }) in
          let X : List Token = begun_with name k in
          let u : Token = sort_written sn s in (
            (i.0.0, right_snoc cs c i.0.1 (and_intro (new_function sig name) (leb k 3) i.1 (le-leb k 3 i.2))),
            ap (λ (l : List Token). snoc l opening)
                (ap (λ (l : List Token). snoc l closing)
                (onto (base sn cs) (snoc X closing) ts t i.3 ∙ ap (λ (v : Token). base sn cs ++ snoc (snoc X closing) v) (same_token_lem t u p))
                ∙ append_assoc (base sn cs) (snoc (snoc X closing) u) (closing ∷ [])
                ∙ ap (λ (l : List Token). base sn cs ++ l) (ap (λ (l : List Token). snoc l closing) (append_assoc X (closing ∷ []) (u ∷ [])) ∙ append_assoc X (closing ∷ u ∷ []) (closing ∷ []))
                ∙ sym (base_snoc sn cs c)),
          )

      go : (b : Bool) → same_token t (sort_written sn term) ≡ b
          → ◌≡◌ {A = Option State}
          (elim b [
            | true ↦ some (gave st name k term)
            | false ↦ unless_not (same_token t (sort_written sn formula)) (gave st name k formula)
          ])
          (some y)
          → InvS y (snoc ts t)
      go true p e' = arrive (gave st name k term) y (snoc ts t) (given term p) e'
      go false p e' = passed (same_token t (sort_written sn formula)) (gave st name k formula) y (snoc ts t) (given formula) e'
