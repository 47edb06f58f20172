-- Which head a token names where a term of a sort is wanted (02, E1: "terms from declared symbols, ite, = (on the sort only), not,
-- and, or, =>, true, false"). Assumes nothing.
use Rattle.std.specs.Prelude.{ℕ, suc, List, [], ◌∷◌, Bool, true, false, not, ◌&&◌, eqb}
use Rattle.std.proofs.Math.Option.{Option, none, some}
use Rattle.definitions.specs.Lists.{any, all}
use Rattle.definitions.specs.Problem.Ops.{Sort, term, formula, same_sort}
use Rattle.definitions.specs.Text.Tokens.{Token, same_token}
use Rattle.definitions.specs.Text.Grammar.{Symbol, Head, declared, ite, equals, negation, conjunction, disjunction, implication, verum, falsum, wanted_by, sort_of_head, ready, head_right, head_token}

-- the first of a list that passes a test
abbrev pub first_with : {A : Type 0} → (A → Bool) → List A → Option A
first_with f [] = none
first_with f (x ∷ xs) = elim (f x) [ true ↦ some x | false ↦ first_with f xs ]

-- all heads that there are
abbrev pub declared_from : ℕ → List Symbol → List Head
declared_from k [] = []
declared_from k (y ∷ ys) = declared y.result k ∷ declared_from (suc k) ys

abbrev pub heads : List Symbol → List Head
heads sig =
    ite term ∷ ite formula ∷ equals ∷ negation ∷ conjunction ∷ disjunction ∷ implication ∷ verum ∷ falsum ∷ declared_from 0 sig

-- "While no constant of the sort is declared, no term of the sort exists": a term of a sort can be written
abbrev pub constant : Symbol → Bool
constant y = eqb y.arity 0 && same_sort y.result term

abbrev pub inhabited : List Symbol → Sort → Bool
inhabited sig term = any constant sig
inhabited sig formula = true

-- the head that a token names, for a term of this sort: a bare one takes no argument; one after a bracket takes arguments, and
-- "every head that must have one is refused at once" where a term that it must have cannot be written
abbrev pub names : List Symbol → Sort → Token → Head → Bool
names sig s t h = head_right sig h && same_token t (head_token sig h) && same_sort (sort_of_head h) s

abbrev pub bare : List Symbol → Sort → Token → Option Head
bare sig s t = first_with (λ h. names sig s t h && ready (wanted_by sig h)) (heads sig)

abbrev pub bracketed : List Symbol → Sort → Token → Option Head
bracketed sig s t =
    first_with (λ h. names sig s t h && not (ready (wanted_by sig h)) && all (inhabited sig) (wanted_by sig h).must) (heads sig)
