-- A list of arguments laid as it is read, one argument after the other: what is kept of it between two arguments, and how it ends.
-- That this lays what the pairs of the definition lay is a law (proofs/ListLaws). Assumes nothing.
use Rattle.std.specs.Prelude.{ℕ, zero, suc, ◌≤◌, ◌≡◌, List, [], ◌∷◌, length}
use Rattle.definitions.specs.Problem.Node.{Node, plain}
use Rattle.definitions.specs.Problem.Ops.{term, formula}
use Rattle.definitions.specs.Text.Grammar.{
  Head,
  declared,
  ite,
  equals,
  negation,
  conjunction,
  disjunction,
  implication,
  verum,
  falsum,
}
use Rattle.definitions.specs.Text.Nodes.{Tree, Laid, laid, ask, lay}

-- the count of arguments; the numbers of the first three and of the last; what and, or and = have joined so far; the negations of
-- the arguments of => but the last, latest first
pub record Row : Type 0 where
  pub seen : ℕ
  pub first : ℕ
  pub second : ℕ
  pub third : ℕ
  pub last : ℕ
  pub joined : ℕ
  pub pending : List ℕ

pub record Kept : Type 0 where
  pub row : Row
  pub table : List Node

abbrev pub kept : Row → List Node → Kept
kept row t = record { row = row; table = t }

abbrev pub no_row : Row
no_row = record { seen = 0; first = 0; second = 0; third = 0; last = 0; joined = 0; pending = [] }

-- a further argument of => comes, so that the one before it is negated
abbrev pub pushed : Row → Laid → Kept
pushed row l =
    kept
    (record {
      seen = row.seen;
      first = row.first;
      second = row.second;
      third = row.third;
      last = row.last;
      joined = row.joined;
      pending = l.number ∷ row.pending;
    })
    l.table

abbrev pub negated : ℕ → Row → List Node → Kept
negated zero row t = kept row t
negated (suc n) row t = pushed row (ask (plain 3 row.last 0 0) t)

abbrev pub prepared : Head → Row → List Node → Kept
prepared (declared s k) row t = kept row t
prepared (ite s) row t = kept row t
prepared equals row t = kept row t
prepared negation row t = kept row t
prepared conjunction row t = kept row t
prepared disjunction row t = kept row t
prepared implication row t = negated row.seen row t
prepared verum row t = kept row t
prepared falsum row t = kept row t

-- the argument of this number takes its place among the first three, and what is joined is this
abbrev pub first_or : ℕ → ℕ → ℕ → ℕ
first_or zero k other = k
first_or (suc n) k other = other

abbrev pub second_or : ℕ → ℕ → ℕ → ℕ
second_or zero k other = other
second_or (suc n) k other = first_or n k other

abbrev pub third_or : ℕ → ℕ → ℕ → ℕ
third_or zero k other = other
third_or (suc n) k other = second_or n k other

abbrev pub counted : Row → ℕ → Laid → Kept
counted row k l =
    kept
    (record {
      seen = suc row.seen;
      first = first_or row.seen k row.first;
      second = second_or row.seen k row.second;
      third = third_or row.seen k row.third;
      last = k;
      joined = l.number;
      pending = row.pending;
    })
    l.table

-- and, or: the first argument, and then what is joined with the next
abbrev pub joined_by : ℕ → ℕ → Row → ℕ → List Node → Laid
joined_by op zero row k t = laid k t
joined_by op (suc n) row k t = ask (plain op row.joined k 0) t

-- =: the first equation, and then what is joined with the next
abbrev pub also_equal : Row → Laid → Laid
also_equal row e = ask (plain 4 row.joined e.number 0) e.table

abbrev pub equated : ℕ → Row → ℕ → List Node → Laid
equated zero row k t = laid k t
equated (suc zero) row k t = ask (plain 2 row.last k 0) t
equated (suc (suc n)) row k t = also_equal row (ask (plain 2 row.last k 0) t)

abbrev pub joins : Head → Row → ℕ → List Node → Laid
joins (declared s i) row k t = laid k t
joins (ite s) row k t = laid k t
joins equals row k t = equated row.seen row k t
joins negation row k t = laid k t
joins conjunction row k t = joined_by 4 row.seen row k t
joins disjunction row k t = joined_by 5 row.seen row k t
joins implication row k t = laid k t
joins verum row k t = laid k t
joins falsum row k t = laid k t

-- one more argument, whose node has this number
abbrev pub added : Head → Row → ℕ → List Node → Kept
added h row k t = counted row k (joins h row k t)

-- the list ends: the negations of => are joined from the last one on
abbrev pub disjoined : List ℕ → Laid → Laid
disjoined [] l = l
disjoined (n ∷ ns) l = disjoined ns (ask (plain 5 n l.number 0) l.table)

abbrev pub fields : ℕ → ℕ → Row → Node
fields op k row = record { op = op; sym = k; a = row.first; b = row.second; c = row.third }

abbrev pub ended : Head → Row → List Node → Laid
ended (declared term k) row t = ask (fields 0 k row) t
ended (declared formula k) row t = ask (fields 6 k row) t
ended (ite term) row t = ask (fields 1 0 row) t
ended (ite formula) row t = ask (fields 9 0 row) t
ended equals row t = laid row.joined t
ended negation row t = ask (plain 3 row.first 0 0) t
ended conjunction row t = laid row.joined t
ended disjunction row t = laid row.joined t
ended implication row t = disjoined row.pending (laid row.last t)
ended verum row t = ask (plain 7 0 0 0) t
ended falsum row t = ask (plain 8 0 0 0) t

-- arguments one after the other
abbrev pub argument : Head → Tree → Kept → Kept
argument h x k =
    let p = prepared h k.row k.table in
    let l = lay x p.table in
    added h p.row l.number l.table

abbrev pub arguments : Head → List Tree → Kept → Kept
arguments h [] k = k
arguments h (x ∷ xs) k = arguments h xs (argument h x k)

abbrev pub list_laid : Head → List Tree → List Node → Laid
list_laid h xs t = let k = arguments h xs (kept no_row t) in ended h k.row k.table

-- the row and the table when one more argument comes
abbrev pub awaiting : Head → List Tree → List Node → Kept
awaiting h xs t = let k = arguments h xs (kept no_row t) in prepared h k.row k.table

-- the counts of arguments that the grammar lets a head have, as far as laying needs them
abbrev pub Counted : Head → List Tree → Type 0
Counted (declared s k) xs = length xs ≤ 3
Counted (ite s) xs = length xs ≤ 3
Counted equals xs = 2 ≤ length xs
Counted negation xs = length xs ≡ 1
Counted conjunction xs = 1 ≤ length xs
Counted disjunction xs = 1 ≤ length xs
Counted implication xs = 1 ≤ length xs
Counted verum xs = xs ≡ []
Counted falsum xs = xs ≡ []
