-- The row of a list as the code keeps it, and what it is to lay one more argument or the list's end. Assumes nothing.
use Rattle.std.specs.Prelude.{◌≡◌, ℕ, zero, suc, min, ◌<◌, true, false, List, [], ◌∷◌, ◌⊎◌, length, get_or, Option}
use Rattle.definitions.specs.Problem.Node as table
use Rattle.problem.specs.declared.ops.Op.{Op}
use Rattle.problem.specs.declared.ops.Sort.{Sort}
use Rattle.terms.specs.Laying.{over, standing, Performs}
use Rattle.terms.specs.Lists.{Row, Kept, ended}
use Rattle.terms.specs.Heads.{head_read}
use Rattle.terms.specs.declared.heads.Head.{Head}

-- the negations that wait, the latest first
abbrev pub waiting_in : List ℕ → ℕ → List ℕ
waiting_in pending zero = []
waiting_in pending (suc n) = get_or pending n 0 ∷ waiting_in pending n

-- a row by its numbers
abbrev pub row_of : ℕ → List ℕ → ℕ → ℕ → List ℕ → Row
row_of seen firsts last joined pending =
    record {
      seen = seen;
      first = get_or firsts 0 0;
      second = get_or firsts 1 0;
      third = get_or firsts 2 0;
      last = last;
      joined = joined;
      pending = pending;
    }

-- the code's row stands for this one: it keeps the count up to three
pub record RowIs (k row : Row) : Type 0 where
  pub seen_is : row.seen ≡ min k.seen 3
  pub first_is : row.first ≡ k.first
  pub second_is : row.second ≡ k.second
  pub third_is : row.third ≡ k.third
  pub last_is : row.last ≡ k.last
  pub joined_is : row.joined ≡ k.joined
  pub pending_is : row.pending ≡ k.pending

-- a table or a list of negations that a problem has no room for
abbrev pub TooLong : Kept → Type 0
TooLong k = (256 < length k.table) ⊎ (256 < length k.row.pending)

-- what is done to a row and to the table: f, where there is room for it; else it is told that there is none
pub record Rows (f : Row → List table.Node → Kept) (row : Row) (t : Option (List table.Node)) (row' : Row) (t' : Option (List table.Node)) : Type 0 where
  pub stays : over t ≡ true → over t' ≡ true
  pub row_done : (k : Row) → RowIs k row → over t ≡ false → over t' ≡ false → RowIs (f k (standing t)).row row'
  pub table_done : (k : Row) → RowIs k row → over t ≡ false → over t' ≡ false → (f k (standing t)).table ≡ standing t'
  pub more : (k : Row) → RowIs k row → over t ≡ false → over t' ≡ true → TooLong (f k (standing t))

-- the number of a declared symbol is a byte
abbrev pub SymbolSmall : Head → Type 0
SymbolSmall (Head.Applied number s arity) = number < 256
SymbolSmall (Head.Choice s) = Unit {0}
SymbolSmall Head.Equals = Unit {0}
SymbolSmall Head.Not = Unit {0}
SymbolSmall Head.And = Unit {0}
SymbolSmall Head.Or = Unit {0}
SymbolSmall Head.Implies = Unit {0}
SymbolSmall Head.True = Unit {0}
SymbolSmall Head.False = Unit {0}

-- the list's end is laid; what stands before `performs` holds whatever was read
pub record Finishes (head : Head) (row : Row) (t : Option (List table.Node)) (number : ℕ) (t' : Option (List table.Node)) : Type 0 where
  pub stays : over t ≡ true → over t' ≡ true
  pub performs : (k : Row) → RowIs k row → SymbolSmall head → Performs (ended (head_read head) k) t number t'

-- of two ops, that of a sort
abbrev pub picked : Sort → Op → Op → Op
picked Sort.Term x y = x
picked Sort.Formula x y = y
