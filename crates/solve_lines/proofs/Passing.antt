-- The names of a text, token by token: the words declare-fun passed are counted. Assumes nothing.
use mathlib.Core.Path.{◌≡◌, refl, sym, ap, ◌∙◌, subst}
use Prim.Native.Nat.{ℕ, ◌+◌, ◌≤◌, ◌<◌}
use native.Mathlib.Omega.{arith}
use mathlib.Core.Bool.{Bool, true, false}
use mathlib.Core.List.{List, [], ◌∷◌, ◌++◌}
use lib.ListN.{length, get_or, take, drop, length-drop, get_or-eq_default}
use lib.Seq.{get_or-drop, drop-drop}
use Rattle.definitions.specs.Text.Tokens.{Placed, wrong, tokens_of, same_token}
use Rattle.definitions.specs.Solve.{names_in, name_at}
use Rattle.theorems.proofs.Text.Taken.Kept.Invariant.{DECLARE}
use Rattle.terms.specs.Lexing.{lexeme_read, tokens_at, led, LexemeWithin, Lexed}
use Rattle.terms.specs.Reading.{is_token}
use Rattle.terms.specs.declared.tokens.Lexeme.{Lexeme}
use Rattle.terms.specs.declared.tokens.Token.{Token}
use Rattle.terms.proofs.DeclarationLaws.{same_swap}
use Rattle.terms.proofs.OtherLexemes.{some_token}
use Rattle.terms.proofs.Streams.{no_tokens}
use Rattle.solve_lines.specs.Read.{first_at}

abbrev nobody : List ℕ → Placed
nobody text = record { token = wrong; place = length text }

no_token_left : (text : List ℕ) → tokens_at text (length text) ≡ []
unfolding tokens_at
no_token_left text = no_tokens (length text) (length text) (drop (length text) text) (omega (arith, length-drop (length text) text))

-- a declaration's name, and the names after it
first_of : (ps : List Placed) (d : Placed) → get_or (take 1 ps ++ names_in ps) 0 d ≡ get_or ps 0 d
first_of [] d = refl
first_of (p ∷ ps) d = refl

rest_of : (ps : List Placed) → drop 1 (take 1 ps ++ names_in ps) ≡ names_in ps
rest_of [] = refl
rest_of (p ∷ ps) = refl

module _ (p : Placed) (ps : List Placed) where
  names_by : {b : Bool} → same_token p.token DECLARE ≡ b → names_in (p ∷ ps) ≡ elim b [ true ↦ take 1 ps ++ names_in ps | false ↦ names_in ps ]
  names_by e = ap found e
    where
      found : Bool → List Placed
      found b = elim b [ true ↦ take 1 ps ++ names_in ps | false ↦ names_in ps ]

-- the names from a number on are those of the tokens from an offset on
pub record Passed (text : List ℕ) (k at number : ℕ) : Type 0 where
  pub inside : at ≤ length text
  pub few : number ≤ k
  pub left : names_in (tokens_at text at) ≡ drop number (names_in (tokens_of text))

pub passed_none : (text : List ℕ) (k : ℕ) → Passed text k 0 0
unfolding tokens_at tokens_of
passed_none text k = record { inside = omega arith; few = omega arith; left = refl }

module _ (text : List ℕ) (k at number : ℕ) (s : Passed text k at number) (t : Token) (l : Lexed text at t) where
  abbrev names : List Placed
  names = names_in (tokens_of text)

  abbrev ps : List Placed
  ps = tokens_at text t.next

  pub passed_end : t.lexeme ≡ Lexeme.End → (first_at text t.place ≡ name_at text k) × (t.place ≤ length text)
  unfolding name_at
  passed_end e =
      let p : t.place ≡ length text = subst (LexemeWithin text at t) e l.fits in
      let gone : [] ≡ drop number names =
      ap names_in (sym (l.tokens_are ∙ ap (led text t.place t.next) (ap lexeme_read e))) ∙ s.left in
      let few = s.few in (
        ap (λ (xs : List Placed). get_or xs 0 (nobody text)) (ap (tokens_at text) p ∙ no_token_left text)
            ∙ sym (get_or-eq_default names (nobody text) {n = k} (omega (arith, length-drop number names, ap length gone))),
        omega arith,
      )

  module _ (o : t.lexeme ≡ Lexeme.End → ⊥) where
    abbrev here : Placed
    here = record { token = (some_token t.lexeme o).0; place = t.place }

    left_by : {b : Bool} → is_token DECLARE (lexeme_read t.lexeme) ≡ b
        → elim b [ true ↦ take 1 ps ++ names_in ps | false ↦ names_in ps ] ≡ drop number names
    left_by {b} e =
        let there = some_token t.lexeme o in
        let same : same_token there.0 DECLARE ≡ b = same_swap there.0 DECLARE ∙ ap (is_token DECLARE) (sym there.1) ∙ e in
        sym (names_by here ps same)
        ∙ ap names_in (sym (l.tokens_are ∙ ap (led text t.place t.next) there.1))
        ∙ s.left

    module _ (e : is_token DECLARE (lexeme_read t.lexeme) ≡ true) where
      pub passed_here : number ≡ k → first_at text t.next ≡ name_at text k
      unfolding name_at
      passed_here h =
          let z : number + 0 ≡ k = omega arith in
          sym (first_of ps (nobody text))
          ∙ ap (λ (xs : List Placed). get_or xs 0 (nobody text)) (left_by e)
          ∙ get_or-drop number names 0 (nobody text)
          ∙ ap (λ (n : ℕ). get_or names n (nobody text)) z

      pub passed_one : (number ≡ k → ⊥) → Passed text k t.next (number + 1)
      passed_one h =
          let f = s.few in
          let less : number < k = omega (arith, h) in
          record {
            inside = l.inside;
            few = omega arith;
            left = sym (rest_of ps) ∙ ap (drop 1) (left_by e) ∙ drop-drop 1 number names;
          }
