-- The subset of SMT-LIB that is read, depth aside: scripts as trees, which of them are right, and the tokens that write each
-- one (02, E1: "set-logic first, then one declare-sort of arity 0, then declare-fun .. and assert in any mix, check-sat last").
-- No reader is spoken of here: a text is of the subset if its tokens write a right script. Assumes nothing.
use Rattle.std.specs.Prelude.{ℕ, ◌≡◌, List, [], ◌∷◌, ◌++◌, map, Bool, true, false, not, ◌&&◌, length, get_or, drop, replicate, eqb, leb, ltb}
use Rattle.std.proofs.Math.Option.{Option, none, some}
use Rattle.definitions.specs.Lists.{any, snoc}
use Rattle.definitions.specs.Problem.Ops.{Sort, term, formula, same_sort}
use Rattle.definitions.specs.Text.Ascii.{ascii, same_bytes}
use Rattle.definitions.specs.Text.Tokens.{Token, opening, closing, nought, symbol, word}

-- a declared symbol: its name, how many arguments of the sort it takes, and its result, the sort (term) or Bool (formula)
pub record Symbol : Type 0 where
  pub name : List ℕ
  pub arity : ℕ
  pub result : Sort

-- what heads a term: a declared symbol by its result and its number in the order of declaration; ite by the sort that it
-- chooses in; =, not, and, or, =>, true, false
pub data Head : Type 0 where
  declared : Sort → ℕ → Head
  ite : Sort → Head
  equals negation conjunction disjunction implication verum falsum : Head

-- a row of terms: the first one's head, its arguments, and the terms after it. One term is a row of one
pub data Terms : Type 0 where
  end : Terms
  call : Head → Terms → Terms → Terms

pub data Command : Type 0 where
  declare : Symbol → Command
  assert : Terms → Command

pub record Script : Type 0 where
  pub sort_name : List ℕ
  pub commands : List Command

-- the symbols that commands declare, in order; what they assert, in order
abbrev pub symbols_in : List Command → List Symbol
symbols_in [] = []
symbols_in (declare y ∷ cs) = y ∷ symbols_in cs
symbols_in (assert t ∷ cs) = symbols_in cs

abbrev pub asserts_in : List Command → List Terms
asserts_in [] = []
asserts_in (declare y ∷ cs) = asserts_in cs
asserts_in (assert t ∷ cs) = t ∷ asserts_in cs

abbrev pub no_symbol : Symbol
no_symbol = record { name = []; arity = 0; result = formula }

abbrev pub symbol_at : List Symbol → ℕ → Symbol
symbol_at sig k = get_or sig k no_symbol

-- the arguments that are wanted: these must come, and then any number of this sort may
pub record Wanted : Type 0 where
  pub must : List Sort
  pub more : Option Sort

abbrev pub exactly : List Sort → Wanted
exactly ss = record { must = ss; more = none }

-- "argument counts as in the standard": and, or, =>, = take two or more
abbrev pub two_or_more : Sort → Wanted
two_or_more s = record { must = s ∷ s ∷ []; more = some s }

-- the arguments that a head takes: "= (on the sort only)"
abbrev pub wanted_by : List Symbol → Head → Wanted
wanted_by sig (declared s k) = exactly (replicate (symbol_at sig k).arity term)
wanted_by sig (ite s) = exactly (formula ∷ s ∷ s ∷ [])
wanted_by sig equals = two_or_more term
wanted_by sig negation = exactly (formula ∷ [])
wanted_by sig conjunction = two_or_more formula
wanted_by sig disjunction = two_or_more formula
wanted_by sig implication = two_or_more formula
wanted_by sig verum = exactly []
wanted_by sig falsum = exactly []

-- the sort of a term with this head
abbrev pub sort_of_head : Head → Sort
sort_of_head (declared s k) = s
sort_of_head (ite s) = s
sort_of_head equals = formula
sort_of_head negation = formula
sort_of_head conjunction = formula
sort_of_head disjunction = formula
sort_of_head implication = formula
sort_of_head verum = formula
sort_of_head falsum = formula

-- the sort wanted next, the arguments wanted after it, and whether none is left that must come
abbrev pub next_of : List Sort → Option Sort → Option Sort
next_of [] more = more
next_of (s ∷ ss) more = some s

abbrev pub next : Wanted → Option Sort
next w = next_of w.must w.more

abbrev pub left : Wanted → Wanted
left w = record { must = drop 1 w.must; more = w.more }

abbrev pub no_sort : List Sort → Bool
no_sort [] = true
no_sort (s ∷ ss) = false

abbrev pub ready : Wanted → Bool
ready w = no_sort w.must

abbrev pub is_wanted : Option Sort → Sort → Bool
is_wanted none s = false
is_wanted (some w) s = same_sort w s

-- a declared symbol is one of those declared so far, with its own result
abbrev pub head_right : List Symbol → Head → Bool
head_right sig (declared s k) = ltb k (length sig) && same_sort (symbol_at sig k).result s
head_right sig (ite s) = true
head_right sig equals = true
head_right sig negation = true
head_right sig conjunction = true
head_right sig disjunction = true
head_right sig implication = true
head_right sig verum = true
head_right sig falsum = true

-- a row of terms is right where such arguments are wanted: "terms from declared symbols, ite, = (on the sort only), not, ..":
-- each has the sort wanted and right arguments, none is too many and none is missing
abbrev pub terms_right : List Symbol → Wanted → Terms → Bool
terms_right sig w end = ready w
terms_right sig w (call h args rest) =
    head_right sig h && is_wanted (next w) (sort_of_head h) && terms_right sig (wanted_by sig h) args && terms_right sig (left w) rest

-- an assert has one formula
abbrev pub one_formula : Wanted
one_formula = exactly (formula ∷ [])

-- the names that QF_UF has already: of functions, and of sorts
abbrev pub CORE : List (List ℕ)
CORE = map ascii ("true" ∷ "false" ∷ "not" ∷ "=>" ∷ "and" ∷ "or" ∷ "xor" ∷ "=" ∷ "distinct" ∷ "ite" ∷ [])

abbrev pub BOOL : List ℕ
BOOL = ascii "Bool"

-- the standard keeps names that begin with @ or . for solvers
abbrev pub solvers_own : List ℕ → Bool
solvers_own [] = false
solvers_own (b ∷ bs) = any (eqb b) (ascii "@.")

-- a name that may be declared where these are taken
abbrev pub new_name : List (List ℕ) → List ℕ → Bool
new_name taken name = not (any (same_bytes name) taken) && not (solvers_own name)

abbrev pub names_of : List Symbol → List (List ℕ)
names_of sig = map (λ y. y.name) sig

abbrev pub new_function : List Symbol → List ℕ → Bool
new_function sig name = new_name (CORE ++ names_of sig) name

abbrev pub new_sort : List ℕ → Bool
new_sort name = new_name (BOOL ∷ []) name

-- the declarations after one more command
abbrev pub after : List Symbol → Command → List Symbol
after sig (declare y) = snoc sig y
after sig (assert t) = sig

-- a command is right after these declarations: "at most three arguments of the sort"
abbrev pub command_right : List Symbol → Command → Bool
command_right sig (declare y) = new_function sig y.name && leb y.arity 3
command_right sig (assert t) = terms_right sig one_formula t

abbrev pub commands_right : List Symbol → List Command → Bool
commands_right sig [] = true
commands_right sig (c ∷ cs) = command_right sig c && commands_right (after sig c) cs

unfoldable pub script_right : Script → Bool
script_right s = new_sort s.sort_name && commands_right [] s.commands

-- how a head is written
abbrev pub head_token : List Symbol → Head → Token
head_token sig (declared s k) = symbol (symbol_at sig k).name
head_token sig (ite s) = symbol (ascii "ite")
head_token sig equals = symbol (ascii "=")
head_token sig negation = symbol (ascii "not")
head_token sig conjunction = symbol (ascii "and")
head_token sig disjunction = symbol (ascii "or")
head_token sig implication = symbol (ascii "=>")
head_token sig verum = symbol (ascii "true")
head_token sig falsum = symbol (ascii "false")

-- a term with no arguments stands bare, any other in brackets
abbrev pub term_written : Token → Terms → List Token → List Token
term_written t end args = t ∷ []
term_written t (call h a r) args = opening ∷ t ∷ snoc args closing

abbrev pub terms_written : List Symbol → Terms → List Token
terms_written sig end = []
terms_written sig (call h args rest) = term_written (head_token sig h) args (terms_written sig args) ++ terms_written sig rest

-- the sort, or Bool
abbrev pub sort_written : List ℕ → Sort → Token
sort_written sort_name term = symbol sort_name
sort_written sort_name formula = symbol BOOL

abbrev pub command_written : List ℕ → List Symbol → Command → List Token
command_written sort_name sig (declare y) =
    (opening ∷ word (ascii "declare-fun") ∷ symbol y.name ∷ opening ∷ replicate y.arity (symbol sort_name))
    ++ (closing ∷ sort_written sort_name y.result ∷ closing ∷ [])
command_written sort_name sig (assert t) = opening ∷ word (ascii "assert") ∷ snoc (terms_written sig t) closing

abbrev pub commands_written : List ℕ → List Symbol → List Command → List Token
commands_written sort_name sig [] = []
commands_written sort_name sig (c ∷ cs) = command_written sort_name sig c ++ commands_written sort_name (after sig c) cs

-- (set-logic QF_UF)(declare-sort
abbrev pub HEADER : List Token
HEADER =
    opening ∷ word (ascii "set-logic") ∷ symbol (ascii "QF_UF") ∷ closing ∷ opening ∷ word (ascii "declare-sort") ∷ []

unfoldable pub written : Script → List Token
written s =
    HEADER ++ (symbol s.sort_name ∷ nought ∷ closing ∷ commands_written s.sort_name [] s.commands)
    ++ (opening ∷ word (ascii "check-sat") ∷ closing ∷ [])

-- tokens that write a right script
pub record Subset (ts : List Token) : Type 0 where
  pub script : Script
  pub right : script_right script ≡ true
  pub writes : written script ≡ ts
