-- The steps of the definition's pass through a symbol's rank: one more argument, the end of the arguments, the result (02, E1).
-- Assumes nothing.
use mathlib.Core.Path.{◌≡◌, refl, sym, ap, ◌∙◌, subst}
use Prim.Native.Nat.{ℕ, suc, ◌+◌, ◌≤◌, ◌<◌}
use native.Mathlib.Numerals.{add-one}
use native.Mathlib.Omega.{arith}
use mathlib.Core.Bool.{Bool, true, false, ◌&&◌}
use mathlib.Core.List.{List}
use mathlib.Core.Logic.{◌⊎◌, inl, inr}
use mathlib.Core.Option.{Option, none, some}
use lib.Dec.{ltb}
use borrow.Author.Tests.{lt-ltb, le-ltb}
use Rattle.std.specs.Prelude.{Ok, Err, Some}
use Rattle.definitions.specs.Problem.Ops.{Sort, term, formula}
use Rattle.definitions.specs.Text.Tokens.{closing, symbol, same_token}
use Rattle.definitions.specs.Text.Tokens as tokens
use Rattle.definitions.specs.Text.Grammar.{Command, BOOL}
use Rattle.definitions.specs.Text.Nodes.{byte_of}
use Rattle.definitions.specs.Text.Reader.{State, gave, unless_not, step}
use Rattle.theorems.proofs.Text.Taken.Runs.{token_same}
use Rattle.terms.specs.Lexing.{lexeme_read, Lexed}
use Rattle.terms.specs.Reading.{Reached, WrongAt, is_token, Exactly}
use Rattle.terms.specs.Ranks.{SortIs, in_taking, in_giving}
use Rattle.problem.specs.Wanted.{sort_read}
use Rattle.problem.specs.declared.ops.Sort as code
use Rattle.terms.specs.declared.exact.WrongToken.{WrongToken}
use Rattle.terms.specs.declared.tokens.Token.{Token}
use Rattle.terms.proofs.ReachLaws.{stepped, moves, wrong_here}
use Rattle.terms.proofs.TermSteps.{same_swapped}

module _ (text sn : List ℕ) (cs : List Command) (name : List ℕ) (k at : ℕ) (t : Token) (l : Lexed text at t) where
  module _ (r : Reached text (in_taking sn cs name k) at) where
    taken_by : {b c : Bool} (x : tokens.Token) → same_token x closing ≡ b → (ltb k 3 && same_token x (symbol sn)) ≡ c
        → step (in_taking sn cs name k) x ≡ elim b as (λ _. Option State) [ true ↦ some (in_giving sn cs name k) | false ↦ unless_not c (in_taking sn cs name (suc k)) ]
    unfolding step
    taken_by {b} x e f =
        ap (λ (z : Bool).
        elim z as (λ _. Option State) [
          | true ↦ some (in_giving sn cs name k)
          | false ↦ unless_not (ltb k 3 && same_token x (symbol sn)) (in_taking sn cs name (suc k))
        ]) e
        ∙ ap (λ (z : Bool). elim b as (λ _. Option State) [ true ↦ some (in_giving sn cs name k) | false ↦ unless_not z (in_taking sn cs name (suc k)) ]) f

    pub arity_closes : lexeme_read t.lexeme ≡ some closing → Reached text (in_giving sn cs name k) t.next
    arity_closes e = moves text (in_taking sn cs name k) at r t l closing (in_giving sn cs name k) e (taken_by closing refl refl) (omega arith)

    pub sort_taken : lexeme_read t.lexeme ≡ some (symbol sn) → k < 3 → Reached text (in_taking sn cs name (k + 1)) t.next
    sort_taken e h =
        subst (λ (n : ℕ). Reached text (in_taking sn cs name n) t.next) (sym (add-one k))
        (moves text (in_taking sn cs name k) at r t l (symbol sn) (in_taking sn cs name (suc k)) e
        (taken_by (symbol sn) refl (ap (λ (z : Bool). z && same_token (symbol sn) (symbol sn)) (lt-ltb k 3 h) ∙ token_same (symbol sn))) (omega arith))

    pub arity_wrong : is_token closing (lexeme_read t.lexeme) ≡ false → (is_token (symbol sn) (lexeme_read t.lexeme) ≡ false) ⊎ (3 ≤ k)
        → WrongAt text t.place
    arity_wrong e f = wrong_here text (in_taking sn cs name k) at r t l (go (lexeme_read t.lexeme) e f) refl
      where
        none_taken : (x : tokens.Token) → (same_token (symbol sn) x ≡ false) ⊎ (3 ≤ k) → (ltb k 3 && same_token x (symbol sn)) ≡ false
        none_taken x (inl p) = ap (λ (z : Bool). ltb k 3 && z) (same_swapped x (symbol sn) ∙ p) ∙ never (ltb k 3)
          where
            never : (b : Bool) → (b && false) ≡ false
            never true = refl
            never false = refl
        none_taken x (inr p) = ap (λ (z : Bool). z && same_token x (symbol sn)) (le-ltb k 3 p)

        go : (o : Option tokens.Token) → is_token closing o ≡ false → (is_token (symbol sn) o ≡ false) ⊎ (3 ≤ k) → stepped (in_taking sn cs name k) o ≡ none
        go none p q = refl
        go (some x) p q = taken_by x (same_swapped x closing ∙ p) (none_taken x q)

  module _ (r : Reached text (in_giving sn cs name k) at) where
    abbrev given : Sort → State
    given s = gave (in_giving sn cs name k) name k s

    given_by : {b c : Bool} (x : tokens.Token) → same_token x (symbol sn) ≡ b → same_token x (symbol BOOL) ≡ c
        → step (in_giving sn cs name k) x ≡ elim b as (λ _. Option State) [ true ↦ some (given term) | false ↦ unless_not c (given formula) ]
    unfolding step
    given_by {b} x e f =
        ap (λ (z : Bool). elim z as (λ _. Option State) [ true ↦ some (given term) | false ↦ unless_not (same_token x (symbol BOOL)) (given formula) ]) e
        ∙ ap (λ (z : Bool). elim b as (λ _. Option State) [ true ↦ some (given term) | false ↦ unless_not z (given formula) ]) f

    sort_given : lexeme_read t.lexeme ≡ some (symbol sn) → Reached text (given term) t.next
    sort_given e = moves text (in_giving sn cs name k) at r t l (symbol sn) (given term) e (given_by (symbol sn) (token_same (symbol sn)) refl) (omega arith)

    bool_given : lexeme_read t.lexeme ≡ some (symbol BOOL) → is_token (symbol sn) (lexeme_read t.lexeme) ≡ false
        → Reached text (given formula) t.next
    bool_given e f =
        moves text (in_giving sn cs name k) at r t l (symbol BOOL) (given formula) e
        (given_by (symbol BOOL) (same_swapped (symbol BOOL) (symbol sn) ∙ sym (ap (is_token (symbol sn)) e) ∙ f) (token_same (symbol BOOL))) (omega arith)

    pub given_sort : (s : code.Sort) → SortIs t.lexeme sn (Some s) → Reached text (given (sort_read s)) t.next
    given_sort code.Sort.Term e = sort_given e
    given_sort code.Sort.Formula e = bool_given e.0 e.1

    pub result_wrong : is_token (symbol sn) (lexeme_read t.lexeme) ≡ false → is_token (symbol BOOL) (lexeme_read t.lexeme) ≡ false
        → WrongAt text t.place
    result_wrong e f = wrong_here text (in_giving sn cs name k) at r t l (go (lexeme_read t.lexeme) e f) refl
      where
        go : (o : Option tokens.Token) → is_token (symbol sn) o ≡ false → is_token (symbol BOOL) o ≡ false → stepped (in_giving sn cs name k) o ≡ none
        go none p q = refl
        go (some x) p q = given_by x (same_swapped x (symbol sn) ∙ p) (same_swapped x (symbol BOOL) ∙ q)

-- after three arguments only the closing bracket will do
module _ (text sn : List ℕ) (cs : List Command) (name : List ℕ) (k at : ℕ) (three : k ≡ 3) (r : Reached text (in_taking sn cs name k) at) where
  at_three : Reached text (in_taking sn cs name 3) at
  at_three = subst (λ (n : ℕ). Reached text (in_taking sn cs name n) at) three r

  pub last_closes : {next : ℕ} → Exactly text at closing (Ok next) → Reached text (in_giving sn cs name 3) next
  last_closes (t, l, e, n) = subst (Reached text (in_giving sn cs name 3)) n (arity_closes text sn cs name 3 at t l at_three e)

  pub last_wrong : {w : WrongToken} → Exactly text at closing (Err w) → WrongAt text w.0
  last_wrong (t, l, e, p) = subst (WrongAt text) p (arity_wrong text sn cs name 3 at t l at_three e (inr (omega arith)))

pub byte_small : (k : ℕ) (s : Sort) (byte : ℕ) → k ≤ 3 → byte ≡ byte_of k s → byte < 20
byte_small k term byte h e = omega arith
byte_small k formula byte h e = omega arith
