-- What a script says under an interpretation, which gives each symbol, by its number in the order of declaration, a function or
-- a predicate (01, 'The logic'; 02, E1: "asks whether the asserts joined by "and" and then negated are valid"). Terms are read as
-- the standard's Core theory reads them; no node is spoken of. Assumes nothing.
use Rattle.std.specs.Prelude.{ℕ, ◌≡◌, List, [], ◌∷◌, map, Bool, true, false, not, ◌&&◌, ◌||◌, cond, eqb}
use Rattle.definitions.specs.Lists.{any, all}
use Rattle.definitions.specs.Problem.Ops.{term, formula}
use Rattle.definitions.specs.Logic.{Interpretation, Value, number, truth, number_of, truth_of, number_at, truth_at}
use Rattle.definitions.specs.Text.Grammar.{Head, declared, ite, equals, negation, conjunction, disjunction, implication, verum, falsum, Terms, end, call, Script, asserts_in}

-- = of two or more: each equals the one after it
abbrev pub chained : List ℕ → Bool
chained [] = true
chained (x ∷ []) = true
chained (x ∷ y ∷ zs) = eqb x y && chained (y ∷ zs)

-- => groups to the right: all but the last imply the last
abbrev pub implied : List Bool → Bool
implied [] = true
implied (b ∷ []) = b
implied (a ∷ b ∷ bs) = not a || implied (b ∷ bs)

-- the value of a term of this head, from the values of its arguments
abbrev pub head_value : Interpretation → Head → List Value → Value
head_value I (declared term k) vs = number (I.function k (map number_of vs))
head_value I (declared formula k) vs = truth (I.predicate k (map number_of vs))
head_value I (ite term) vs = number (cond (truth_at vs 0) (number_at vs 1) (number_at vs 2))
head_value I (ite formula) vs = truth (cond (truth_at vs 0) (truth_at vs 1) (truth_at vs 2))
head_value I equals vs = truth (chained (map number_of vs))
head_value I negation vs = truth (not (truth_at vs 0))
head_value I conjunction vs = truth (all truth_of vs)
head_value I disjunction vs = truth (any truth_of vs)
head_value I implication vs = truth (implied (map truth_of vs))
head_value I verum vs = truth true
head_value I falsum vs = truth false

-- the values of a row of terms
abbrev pub values_of : Interpretation → Terms → List Value
values_of I end = []
values_of I (call h args rest) = head_value I h (values_of I args) ∷ values_of I rest

-- an asserted term is true
abbrev pub term_true : Interpretation → Terms → Bool
term_true I t = truth_at (values_of I t) 0

-- every assert is true; "No assert counts as true"
unfoldable pub asserts_true : Interpretation → Script → Bool
asserts_true I s = all (term_true I) (asserts_in s.commands)

-- unsat: no interpretation makes every assert true
unfoldable pub Unsat : Script → Type 0
Unsat s = (I : Interpretation) → asserts_true I s ≡ false
