-- What a head wants after some arguments, by how many are seen, where three stand for any more. Assumes nothing.
use mathlib.Core.Path.{◌≡◌, refl, sym, ap, ap₂, ◌∙◌}
use Prim.Native.Nat.{ℕ, zero, suc, min, ◌+◌, ◌≤◌, ◌<◌}
use native.Mathlib.Omega.{arith}
use mathlib.Core.Bool.{Bool, true, false}
use mathlib.Core.List.{List, [], ◌∷◌}
use mathlib.Core.Logic.{◌⊎◌, inl, inr}
use mathlib.Core.Option.{Option, none, some}
use lib.ListN.{length, drop, replicate, length-replicate, get_or-replicate, drop_of_length-le}
use lib.Seq.{drop-cons, drop-drop}
use lib.Dec.{leb}
use borrow.Author.Tests.{le-leb, lt-leb}
use Rattle.std.specs.Prelude.{None, Some}
use Rattle.std.specs.Prelude as code
use Rattle.definitions.specs.Problem.Ops.{Sort, term, formula}
use Rattle.definitions.specs.Text.Grammar.{Symbol, wanted_by, exactly, two_or_more, next, next_of, left, no_sort}
use Rattle.definitions.specs.Text.Grammar as grammar
use Rattle.theorems.proofs.Laws.Tests.{split}
use Rattle.problem.specs.Wanted.{sort_read, wanted_read}
use Rattle.terms.specs.Heads.{head_read, ArityIs, left_after, least_of, wanted_below, Readies, Wants}
use Rattle.terms.specs.declared.heads.Head.{Head}
use Rattle.problem.specs.declared.ops.Sort as sorts

-- what is left after n arguments
must_after : (n : ℕ) (w : grammar.Wanted) → (left_after n w).must ≡ drop n w.must
must_after zero w = refl
must_after (suc n) w = must_after n (left w) ∙ drop-drop n 1 w.must ∙ ap (λ (k : ℕ). drop k w.must) (let e : 1 + n ≡ suc n = omega arith in e)

more_after : (n : ℕ) (w : grammar.Wanted) → (left_after n w).more ≡ w.more
more_after zero w = refl
more_after (suc n) w = more_after n (left w)

next_after : (n : ℕ) (w : grammar.Wanted) → next (left_after n w) ≡ next_of (drop n w.must) w.more
next_after n w = ap₂ {C = Option Sort} next_of (must_after n w) (more_after n w)

none_left : (ss : List Sort) (n : ℕ) → no_sort (drop n ss) ≡ leb (length ss) n
none_left ss n =
    elim (split n (length ss)) [
      | inl h ↦ ap no_sort (drop-cons ss n term h) ∙ sym (lt-leb (length ss) n h)
      | inr h ↦ ap no_sort (drop_of_length-le ss {i = n} h) ∙ sym (le-leb (length ss) n h)
    ]

-- three stand for any more
up_to_three : (m n : ℕ) → m ≤ 3 → leb m (min n 3) ≡ leb m n
up_to_three m n h =
    elim (split n 3) [
      | inl l ↦ ap (leb m) (let e : min n 3 ≡ n = omega arith in e)
      | inr l ↦ le-leb m (min n 3) (omega arith) ∙ sym (le-leb m n (omega arith))
    ]

least_is : (sig : List Symbol) (h : Head) → ArityIs sig h → (length (wanted_by sig (head_read h)).must ≡ least_of h) × (least_of h ≤ 3)
least_is sig (Head.Applied number f arity) a = (length-replicate _ _ ∙ sym a.0, a.1)
least_is sig (Head.Choice f) a = (refl, omega arith)
least_is sig Head.Equals a = (refl, omega arith)
least_is sig Head.Not a = (refl, omega arith)
least_is sig Head.And a = (refl, omega arith)
least_is sig Head.Or a = (refl, omega arith)
least_is sig Head.Implies a = (refl, omega arith)
least_is sig Head.True a = (refl, omega arith)
least_is sig Head.False a = (refl, omega arith)

pub ready_by : (h : Head) (seen : ℕ) → Readies h seen (leb (least_of h) seen)
ready_by h seen sig a n e =
    let least = least_is sig h a in
    let w = wanted_by sig (head_read h) in
    ap (leb (least_of h)) e
    ∙ up_to_three (least_of h) n least.1
    ∙ sym (ap no_sort (must_after n w) ∙ none_left w.must n ∙ ap (λ (m : ℕ). leb m n) least.0)

-- so many of one sort are wanted
below_by : (s : Sort) {b : Bool} (seen arity : ℕ) → leb arity seen ≡ b → wanted_below s seen arity ≡ elim b [ true ↦ none | false ↦ some s ]
below_by s seen arity e = ap (λ (b : Bool). elim b as (λ _. Option Sort) [ true ↦ none | false ↦ some s ]) e

pub below_none : (s : Sort) (seen arity : ℕ) → arity ≤ seen → none ≡ wanted_below s seen arity
below_none s seen arity h = sym (below_by s seen arity (le-leb arity seen h))

pub below_some : (s : Sort) (seen arity : ℕ) → seen < arity → some s ≡ wanted_below s seen arity
below_some s seen arity h = sym (below_by s seen arity (lt-leb arity seen h))

all_alike : (s : Sort) (m n : ℕ) → next_of (drop n (replicate m s)) none ≡ wanted_below s n m
all_alike s m n =
    elim (split n m) [
      | inl h ↦
          ap (λ (ss : List Sort). next_of ss none) (drop-cons (replicate m s) n term (omega (arith, length-replicate m s)))
          ∙ ap {B = Option Sort} some (get_or-replicate m n s term h)
          ∙ below_some s n m h
      | inr h ↦
          ap (λ (ss : List Sort). next_of ss none) (drop_of_length-le (replicate m s) {i = n} (omega (arith, length-replicate m s)))
          ∙ below_none s n m h
    ]

-- one or more after the first
after_first : (s : Sort) (m n : ℕ) → wanted_below s n m ≡ wanted_below s (suc n) (suc m)
after_first s m n =
    elim (split n m) [
      | inl h ↦ sym (below_some s n m h) ∙ below_some s (suc n) (suc m) (omega arith)
      | inr h ↦ sym (below_none s n m h) ∙ below_none s (suc n) (suc m) (omega arith)
    ]

two_more : (s : Sort) (n : ℕ) → next_of (drop n (s ∷ s ∷ [])) (some s) ≡ some s
two_more s zero = refl
two_more s (suc zero) = refl
two_more s (suc (suc n)) = ap (λ (ss : List Sort). next_of ss (some s)) (drop_of_length-le (s ∷ s ∷ []) {i = suc (suc n)} (omega arith))

no_more : (n : ℕ) → next_of (drop n []) none ≡ none
no_more n = ap (λ (ss : List Sort). next_of ss none) (drop_of_length-le [] {i = n} (omega arith))

-- so many are wanted, and this many are seen
module _ (s : Sort) (m seen n : ℕ) (h : m ≤ 3) (e : seen ≡ min n 3) where
  counted : wanted_below s seen m ≡ wanted_below s n m
  counted = below_by s seen m (ap (leb m) e ∙ up_to_three m n h)

  pub alike_next : wanted_below s seen m ≡ next (left_after n (exactly (replicate m s)))
  alike_next = counted ∙ sym (next_after n (exactly (replicate m s)) ∙ all_alike s m n)

-- by the head
module _ (seen : ℕ) (r : code.Option sorts.Sort) where
  pub wants_applied : (number : ℕ) (f : sorts.Sort) (arity : ℕ) → wanted_read r ≡ wanted_below term seen arity → Wants (Head.Applied number f arity) seen r
  wants_applied number f arity p sig a n e =
      p ∙ alike_next term arity seen n a.1 e ∙ ap (λ (m : ℕ). next (left_after n (exactly (replicate m term)))) a.0

  pub wants_not : wanted_read r ≡ wanted_below formula seen 1 → Wants Head.Not seen r
  wants_not p sig a n e = p ∙ alike_next formula 1 seen n (omega arith) e

  pub wants_choice : (f : sorts.Sort) → (seen ≡ 0 → ⊥) → wanted_read r ≡ wanted_below (sort_read f) seen 3 → Wants (Head.Choice f) seen r
  wants_choice f z p sig a zero e = absurd (z e)
  wants_choice f z p sig a (suc n) e =
      p
      ∙ counted (sort_read f) 3 seen (suc n) (omega arith) e
      ∙ sym (after_first (sort_read f) 2 n)
      ∙ sym (next_after (suc n) (exactly (formula ∷ sort_read f ∷ sort_read f ∷ [])) ∙ all_alike (sort_read f) 2 n)

module _ (seen : ℕ) where
  pub wants_equals : Wants Head.Equals seen (Some sorts.Sort.Term)
  wants_equals sig a n e = sym (next_after n (two_or_more term) ∙ two_more term n)

  many : (n : ℕ) → some formula ≡ next (left_after n (two_or_more formula))
  many n = sym (next_after n (two_or_more formula) ∙ two_more formula n)

  pub wants_formulas : {h : Head} → (h ≡ Head.And) ⊎ ((h ≡ Head.Or) ⊎ (h ≡ Head.Implies)) → Wants h seen (Some sorts.Sort.Formula)
  wants_formulas (inl i) = rw i (λ sig a n e. many n)
  wants_formulas (inr (inl i)) = rw i (λ sig a n e. many n)
  wants_formulas (inr (inr i)) = rw i (λ sig a n e. many n)

  nothing : (n : ℕ) → none ≡ next (left_after n (exactly []))
  nothing n = sym (next_after n (exactly []) ∙ no_more n)

  pub wants_nothing : {h : Head} → (h ≡ Head.True) ⊎ (h ≡ Head.False) → Wants h seen None
  wants_nothing (inl i) = rw i (λ sig a n e. nothing n)
  wants_nothing (inr i) = rw i (λ sig a n e. nothing n)
