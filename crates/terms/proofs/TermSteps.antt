-- The steps of the definition's pass through a term: a bare head, a bracket, a head after it, the end of its list; and what is wrong
-- at each (02, E1). Assumes nothing.
use mathlib.Core.Path.{◌≡◌, refl, ap, ap₂, ◌∙◌}
use Prim.Native.Nat.{ℕ, ◌≤◌, ◌<◌}
use native.Mathlib.Omega.{arith}
use mathlib.Core.Bool.{Bool, true, false, ◌&&◌}
use mathlib.Core.List.{List, [], ◌∷◌}
use mathlib.Core.Option.{Option, none, some}
use lib.ListN.{length}
use Rattle.definitions.specs.Problem.Ops.{Sort}
use Rattle.definitions.specs.Problem.Check.{refuse}
use Rattle.definitions.specs.Operations.Answers.{refused}
use Rattle.definitions.specs.Lists.{snoc}
use Rattle.definitions.specs.Text.Ascii.{same_bytes}
use Rattle.definitions.specs.Text.Tokens.{opening, closing, kind_of, name_of, same_token}
use Rattle.definitions.specs.Text.Tokens as tokens
use Rattle.definitions.specs.Text.Grammar.{Symbol, Head, Terms, end, Command, assert, symbols_in, Wanted, wanted_by, next, left, ready}
use Rattle.definitions.specs.Text.Heads.{bare, bracketed}
use Rattle.definitions.specs.Text.Reader.{Opened, State, heading, added, put, closed, begun, step, script_read}
use Rattle.terms.specs.Lexing.{lexeme_read, Lexed}
use Rattle.terms.specs.Reading.{Reached, WrongAt, is_token}
use Rattle.theorems.proofs.Laws.Tests.{eqb_swap}
use Rattle.terms.specs.Symbols.{at_command}
use Rattle.terms.specs.Following.{NoHead}
use Rattle.terms.specs.Terms.{in_list}
use Rattle.terms.specs.declared.tokens.Token.{Token}
use Rattle.terms.proofs.ReachLaws.{stepped, moves, stuck, deep, wrong_here}

-- a bracket has opened a term of a sort
abbrev pub at_head : List ℕ → List Command → Sort → Wanted → Terms → List Opened → State
at_head sn cs s w row outer = record { sort_name = sn; commands = cs; stage = heading s w row outer }

-- tokens compare the same both ways round
pub same_swapped : (x y : tokens.Token) → same_token x y ≡ same_token y x
same_swapped x y = ap₂ {C = Bool} (λ a b. a && b) (eqb_swap (kind_of x) (kind_of y)) (bytes_swapped (name_of x) (name_of y))
  where
    bytes_swapped : (xs ys : List ℕ) → same_bytes xs ys ≡ same_bytes ys xs
    bytes_swapped [] [] = refl
    bytes_swapped [] (y ∷ ys) = refl
    bytes_swapped (x ∷ xs) [] = refl
    bytes_swapped (x ∷ xs) (y ∷ ys) = ap₂ {C = Bool} (λ a b. a && b) (eqb_swap x y) (bytes_swapped xs ys)

module _ (text sn : List ℕ) (cs : List Command) (w : Wanted) (row : Terms) (outer : List Opened) (at : ℕ)
    (r : Reached text (in_list sn cs w row outer) at) (t : Token) (l : Lexed text at t) where
  abbrev st : State
  st = in_list sn cs w row outer

  abbrev sig : List Symbol
  sig = symbols_in cs

  -- a token that closes nothing begins a term
  begins : (x : tokens.Token) → same_token x closing ≡ false → step st x ≡ begun st w row outer x (next w)
  unfolding step
  begins x e = ap (λ (b : Bool). elim b [ true ↦ closed st w row outer | false ↦ begun st w row outer x (next w) ]) e

  module _ (s : Sort) (n : next w ≡ some s) where
    begun_by : {b : Bool} (x : tokens.Token) → same_token x closing ≡ false → same_token x opening ≡ b
        → step st x
        ≡ elim b [
          | true ↦ some (at_head sn cs s w row outer)
          | false ↦ elim (bare sig s x) [ none ↦ none | some h ↦ some (in_list sn cs (left w) (put row h end) outer) ]
        ]
    begun_by x e f =
        begins x e
        ∙ ap (begun st w row outer x) n
        ∙ ap (λ (b : Bool).
        elim b [
          | true ↦ some (at_head sn cs s w row outer)
          | false ↦ elim (bare sig s x) [ none ↦ none | some h ↦ some (in_list sn cs (left w) (put row h end) outer) ]
        ]) f

    -- a bracket
    pub bracket_opens : lexeme_read t.lexeme ≡ some opening → length outer < 64 → Reached text (at_head sn cs s w row outer) t.next
    bracket_opens e h = moves text st at r t l opening (at_head sn cs s w row outer) e (begun_by opening refl refl) (omega arith)

    pub bracket_deep : lexeme_read t.lexeme ≡ some opening → 64 ≤ length outer → script_read text ≡ refused (refuse 15 t.place)
    bracket_deep e h = deep text st at r t l opening (at_head sn cs s w row outer) e (begun_by opening refl refl) (omega arith)

    -- a head that stands bare; any other token
    pub bare_taken : (x : tokens.Token) (h : Head) → lexeme_read t.lexeme ≡ some x → same_token x closing ≡ false → same_token x opening ≡ false
        → bare sig s x ≡ some h → length outer ≤ 64 → Reached text (in_list sn cs (left w) (put row h end) outer) t.next
    bare_taken x h e p q b k =
        moves text st at r t l x (in_list sn cs (left w) (put row h end) outer) e
        (begun_by x p q ∙ ap (λ (o : Option Head). elim o [ none ↦ none | some g ↦ some (in_list sn cs (left w) (put row g end) outer) ]) b) k

    pub bare_wrong : (x : tokens.Token) → lexeme_read t.lexeme ≡ some x → same_token x closing ≡ false → same_token x opening ≡ false
        → bare sig s x ≡ none → WrongAt text t.place
    bare_wrong x e p q b =
        stuck text st at r t l x e
        (begun_by x p q ∙ ap (λ (o : Option Head). elim o as (λ _. Option State) [ none ↦ none | some g ↦ some (in_list sn cs (left w) (put row g end) outer) ]) b)

  -- nothing more is wanted
  pub none_wanted_lem : next w ≡ none → is_token closing (lexeme_read t.lexeme) ≡ false → WrongAt text t.place
  none_wanted_lem n e = wrong_here text st at r t l (go (lexeme_read t.lexeme) e) refl
    where
      go : (o : Option tokens.Token) → is_token closing o ≡ false → stepped st o ≡ none
      go none q = refl
      go (some x) q = begins x (same_swapped x closing ∙ q) ∙ ap (begun st w row outer x) n

  -- the list is closed
  closes_by : {b : Bool} → ready w ≡ b
      → step st closing
      ≡ elim b as (λ _. Option State) [
        | true ↦ elim outer [ [] ↦ some (added st (assert row)) | o ∷ os ↦ some (in_list sn cs (left o.wanted) (put o.before o.head row) os) ]
        | false ↦ none
      ]
  unfolding step
  closes_by e =
      ap (λ (b : Bool).
      elim b as (λ _. Option State) [
        | true ↦ elim outer [ [] ↦ some (added st (assert row)) | o ∷ os ↦ some (in_list sn cs (left o.wanted) (put o.before o.head row) os) ]
        | false ↦ none
      ]) e

  pub closed_early : lexeme_read t.lexeme ≡ some closing → ready w ≡ false → WrongAt text t.place
  closed_early e f = stuck text st at r t l closing e (closes_by f)

-- the end of a term's list, and of an assert's
pub list_closes : (text sn : List ℕ) (cs : List Command) (w : Wanted) (row : Terms) (o : Opened) (os : List Opened) (at : ℕ)
    → Reached text (in_list sn cs w row (o ∷ os)) at → (t : Token) → Lexed text at t → lexeme_read t.lexeme ≡ some closing → ready w ≡ true
    → length os ≤ 64 → Reached text (in_list sn cs (left o.wanted) (put o.before o.head row) os) t.next
list_closes text sn cs w row o os at r t l e f k =
    moves text (in_list sn cs w row (o ∷ os)) at r t l closing _ e (closes_by text sn cs w row (o ∷ os) at r t l f) k

pub assert_closes : (text sn : List ℕ) (cs : List Command) (w : Wanted) (row : Terms) (at : ℕ)
    → Reached text (in_list sn cs w row []) at → (t : Token) → Lexed text at t → lexeme_read t.lexeme ≡ some closing → ready w ≡ true
    → Reached text (at_command sn (snoc cs (assert row))) t.next
assert_closes text sn cs w row at r t l e f =
    moves text (in_list sn cs w row []) at r t l closing _ e (closes_by text sn cs w row [] at r t l f) (omega arith)

-- the head after a bracket
module _ (text sn : List ℕ) (cs : List Command) (s : Sort) (w : Wanted) (row : Terms) (outer : List Opened) (at : ℕ)
    (r : Reached text (at_head sn cs s w row outer) at) (t : Token) (l : Lexed text at t) where
  abbrev opened : Head → Opened
  opened h = record { head = h; wanted = w; before = row }

  headed_by : {o : Option Head} (x : tokens.Token) → bracketed (symbols_in cs) s x ≡ o
      → step (at_head sn cs s w row outer) x ≡ elim o as (λ _. Option State) [ none ↦ none | some h ↦ some (in_list sn cs (wanted_by (symbols_in cs) h) end (opened h ∷ outer)) ]
  unfolding step
  headed_by x e =
      ap (λ (o : Option Head). elim o as (λ _. Option State) [ none ↦ none | some h ↦ some (in_list sn cs (wanted_by (symbols_in cs) h) end (opened h ∷ outer)) ]) e

  pub head_taken : (x : tokens.Token) (h : Head) → lexeme_read t.lexeme ≡ some x → bracketed (symbols_in cs) s x ≡ some h → length outer < 64
      → Reached text (in_list sn cs (wanted_by (symbols_in cs) h) end (opened h ∷ outer)) t.next
  head_taken x h e b k = moves text (at_head sn cs s w row outer) at r t l x _ e (headed_by x b) (omega arith)

  pub head_wrong : NoHead (symbols_in cs) s (lexeme_read t.lexeme) → WrongAt text t.place
  head_wrong f = wrong_here text (at_head sn cs s w row outer) at r t l (go (lexeme_read t.lexeme) f) refl
    where
      go : (o : Option tokens.Token) → NoHead (symbols_in cs) s o → stepped (at_head sn cs s w row outer) o ≡ none
      go none q = refl
      go (some x) q = headed_by x q
