-- The heads that the code finds, and the arguments that they want (02, E1). Assumes nothing.
use Rattle.std.specs.Prelude.{◌≡◌, ℕ, zero, suc, min, ◌≤◌, Bool, true, false, List, leb, Option, None, Some}
use Rattle.std.proofs.Math.Option.{none, some}
use Rattle.std.proofs.Math.Option as maths
use Rattle.definitions.specs.Problem.Ops as ops
use Rattle.definitions.specs.Problem.Ops.{same_sort}
use Rattle.definitions.specs.Text.Tokens as tokens
use Rattle.definitions.specs.Text.Grammar.{
  Symbol,
  symbol_at,
  symbols_in,
  Command,
  wanted_by,
  next,
  left,
  ready,
  declared,
  ite,
  equals,
  negation,
  conjunction,
  disjunction,
  implication,
  verum,
  falsum,
}
use Rattle.definitions.specs.Text.Grammar as grammar
use Rattle.definitions.specs.Text.Heads.{inhabited, bare, bracketed}
use Rattle.definitions.specs.Text.Nodes.{byte_of}
use Rattle.terms.specs.Named.{resolve, bare_core, bracketed_core, stands_bare, stands_head, declared_by}
use Rattle.problem.specs.Wanted.{sort_read, wanted_read}
use Rattle.terms.specs.Symbols.{Symbols, KnownIs, Few}
use Rattle.terms.specs.declared.declared.Declared.{Declared}
use Rattle.terms.specs.declared.declared.Shelved.{Shelved}
use Rattle.terms.specs.declared.declared.Known.{Known}
use Rattle.terms.specs.declared.heads.Head.{Head}
use Rattle.terms.specs.declared.heads.Place.{Place}
use Rattle.problem.specs.declared.ops.Sort.{Sort}

-- the head that a head of the code stands for
abbrev pub head_read : Head → grammar.Head
head_read (Head.Applied number s arity) = declared (sort_read s) number
head_read (Head.Choice s) = ite (sort_read s)
head_read Head.Equals = equals
head_read Head.Not = negation
head_read Head.And = conjunction
head_read Head.Or = disjunction
head_read Head.Implies = implication
head_read Head.True = verum
head_read Head.False = falsum

-- with the arity that is declared
abbrev pub ArityIs : List Symbol → Head → Type 0
ArityIs sig (Head.Applied number s arity) = (arity ≡ (symbol_at sig number).arity) × (arity ≤ 3)
ArityIs sig (Head.Choice s) = Unit {0}
ArityIs sig Head.Equals = Unit {0}
ArityIs sig Head.Not = Unit {0}
ArityIs sig Head.And = Unit {0}
ArityIs sig Head.Or = Unit {0}
ArityIs sig Head.Implies = Unit {0}
ArityIs sig Head.True = Unit {0}
ArityIs sig Head.False = Unit {0}

-- the head of a name, if it gives one
abbrev pub HeadedIs : List Symbol → maths.Option grammar.Head → Option Head → Type 0
HeadedIs sig o (Some h) = (o ≡ some (head_read h)) × ArityIs sig h
HeadedIs sig o None = o ≡ none

-- whatever is read, no head wants more than three arguments by its arity
abbrev pub HeadSmall : Head → Type 0
HeadSmall (Head.Applied number s arity) = arity ≤ 3
HeadSmall (Head.Choice s) = Unit {0}
HeadSmall Head.Equals = Unit {0}
HeadSmall Head.Not = Unit {0}
HeadSmall Head.And = Unit {0}
HeadSmall Head.Or = Unit {0}
HeadSmall Head.Implies = Unit {0}
HeadSmall Head.True = Unit {0}
HeadSmall Head.False = Unit {0}

abbrev pub HeadedSmall : Option Head → Type 0
HeadedSmall (Some h) = HeadSmall h
HeadedSmall None = Unit {0}

-- the head that f names among the symbols of a text that is read so far
pub record Heads (f : List Symbol → maths.Option grammar.Head) (text : List ℕ) (shelf : List Shelved) (d : Declared) (r : Option Head) : Type 0 where
  pub head : (sn : List ℕ) (cs : List Command) → Symbols text sn cs shelf d → HeadedIs (symbols_in cs) (f (symbols_in cs)) r
  pub small : HeadedSmall r

-- the head that a token names at a place
abbrev pub named_at : Place → List Symbol → ops.Sort → tokens.Token → maths.Option grammar.Head
named_at Place.Bare sig s x = bare sig s x
named_at Place.Bracketed sig s x = bracketed sig s x

-- a symbol's arity, if its result is this sort
abbrev pub ArityOf : ℕ → ops.Sort → ops.Sort → Option ℕ → Type 0
ArityOf arity result s (Some n) = (same_sort result s ≡ true) × (n ≡ arity)
ArityOf arity result s None = same_sort result s ≡ false

abbrev pub CountSmall : Option ℕ → Type 0
CountSmall (Some n) = n ≤ 3
CountSmall None = Unit {0}

pub record ArityIn (byte : ℕ) (s : Sort) (r : Option ℕ) : Type 0 where
  pub tells : (arity : ℕ) (result : ops.Sort) → arity ≤ 3 → byte ≡ byte_of arity result → ArityOf arity result (sort_read s) r
  pub small : CountSmall r

-- what Core's k-th name gives at a place, and what a declared symbol gives
abbrev pub core_at : Place → List Symbol → ops.Sort → ℕ → maths.Option grammar.Head
core_at Place.Bare sig s k = bare_core s k
core_at Place.Bracketed sig s k = bracketed_core sig s k

pub record CoreAt (p : Place) (s : Sort) (inhabits : Bool) (k : ℕ) (r : Option Head) : Type 0 where
  pub head : (sig : List Symbol) → inhabits ≡ inhabited sig ops.term → HeadedIs sig (core_at p sig (sort_read s) k) r
  pub small : HeadedSmall r

abbrev pub stands_at : Place → List Symbol → ops.Sort → Symbol → Bool
stands_at Place.Bare sig s y = stands_bare s y
stands_at Place.Bracketed sig s y = stands_head sig s y

pub record KnownAt (p : Place) (known : Option Known) (s : Sort) (inhabits : Bool) (r : Option Head) : Type 0 where
  pub head : (sig : List Symbol) (name : List ℕ) → Few sig → KnownIs sig name known → inhabits ≡ inhabited sig ops.term
      → HeadedIs sig (declared_by sig (stands_at p sig (sort_read s)) (sort_read s) (resolve sig name)) r
  pub small : HeadedSmall r

-- what is wanted after so many arguments
abbrev pub left_after : ℕ → grammar.Wanted → grammar.Wanted
left_after zero w = w
left_after (suc n) w = left_after n (left w)

-- how many must come
abbrev pub least_of : Head → ℕ
least_of (Head.Applied number s arity) = arity
least_of (Head.Choice s) = 3
least_of Head.Equals = 2
least_of Head.Not = 1
least_of Head.And = 2
least_of Head.Or = 2
least_of Head.Implies = 2
least_of Head.True = 0
least_of Head.False = 0

abbrev pub wanted_below : ops.Sort → ℕ → ℕ → maths.Option ops.Sort
wanted_below s seen arity = elim (leb arity seen) [ true ↦ none | false ↦ some s ]

-- arguments are counted up to three
abbrev pub Readies : Head → ℕ → Bool → Type 0
Readies h seen r =
    (sig : List Symbol) → ArityIs sig h → (n : ℕ) → seen ≡ min n 3 → r ≡ ready (left_after n (wanted_by sig (head_read h)))

abbrev pub Wants : Head → ℕ → Option Sort → Type 0
Wants h seen r =
    (sig : List Symbol) → ArityIs sig h → (n : ℕ) → seen ≡ min n 3 → wanted_read r ≡ next (left_after n (wanted_by sig (head_read h)))
