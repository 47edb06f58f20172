-- Which head a name gives, by two searches: among Core's names and among the declared symbols (02, E1). That these are the heads of
-- the definition is a law (proofs/HeadLaws). Assumes nothing.
use Rattle.std.specs.Prelude.{ℕ, Bool, true, false, not, ◌&&◌, List, eqb}
use Rattle.std.proofs.Math.Option.{Option, none, some}
use Rattle.definitions.specs.Lists.{first_failing}
use Rattle.definitions.specs.Problem.Ops.{Sort, term, formula, same_sort}
use Rattle.definitions.specs.Text.Ascii.{same_bytes}
use Rattle.definitions.specs.Text.Grammar.{Symbol, Head, declared, ite, equals, negation, conjunction, disjunction, implication, verum, falsum, symbol_at, CORE}
use Rattle.definitions.specs.Text.Heads.{inhabited}

-- which of Core's names a name is
abbrev pub core_of : List ℕ → Option ℕ
core_of name = first_failing (λ row. not (same_bytes name row)) 0 CORE

-- the first declared symbol of a name
abbrev pub resolve : List Symbol → List ℕ → Option ℕ
resolve sig name = first_failing (λ y. not (same_bytes name y.name)) 0 sig

abbrev pub is_some : Option ℕ → Bool
is_some none = false
is_some (some k) = true

-- what is found among the first n, or else the one that comes next
abbrev pub or_next : Option ℕ → Bool → ℕ → Option ℕ
or_next (some k) next n = some k
or_next none true n = some n
or_next none false n = none

abbrev pub only_if : Bool → Head → Option Head
only_if true h = some h
only_if false h = none

-- a head if the number is this one, else what stands last
abbrev pub numbered : ℕ → ℕ → Option Head → Option Head → Option Head
numbered k n h other = elim (eqb k n) [ true ↦ h | false ↦ other ]

-- the head that Core's k-th name gives where a term of a sort is wanted: bare, and after a bracket
abbrev pub bare_core : Sort → ℕ → Option Head
bare_core term k = none
bare_core formula k = numbered k 0 (some verum) (numbered k 1 (some falsum) none)

abbrev pub bracketed_core : List Symbol → Sort → ℕ → Option Head
bracketed_core sig term k = numbered k 9 (only_if (inhabited sig term) (ite term)) none
bracketed_core sig formula k =
    numbered k 2 (some negation)
    (numbered k 3 (some implication)
    (numbered k 4 (some conjunction)
    (numbered k 5 (some disjunction) (numbered k 7 (only_if (inhabited sig term) equals) (numbered k 9 (some (ite formula)) none)))))

-- a declared symbol that gives a term of the sort: bare, and after a bracket
abbrev pub stands_bare : Sort → Symbol → Bool
stands_bare s y = same_sort y.result s && eqb y.arity 0

abbrev pub stands_head : List Symbol → Sort → Symbol → Bool
stands_head sig s y = same_sort y.result s && not (eqb y.arity 0) && inhabited sig term

abbrev pub declared_by : List Symbol → (Symbol → Bool) → Sort → Option ℕ → Option Head
declared_by sig stands s none = none
declared_by sig stands s (some k) = only_if (stands (symbol_at sig k)) (declared s k)

-- the head that a name gives, by its number among Core's names, and if it has none by that among the declared symbols
abbrev pub bare_by : List Symbol → Sort → Option ℕ → Option ℕ → Option Head
bare_by sig s (some k) d = bare_core s k
bare_by sig s none d = declared_by sig (stands_bare s) s d

abbrev pub bracketed_by : List Symbol → Sort → Option ℕ → Option ℕ → Option Head
bracketed_by sig s (some k) d = bracketed_core sig s k
bracketed_by sig s none d = declared_by sig (stands_head sig s) s d
