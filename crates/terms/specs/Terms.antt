-- What reading one term does: to the state of the definition's pass, and to the table of nodes (02, E1). Assumes nothing.
use Rattle.std.specs.Prelude.{◌≡◌, ℕ, suc, min, ◌+◌, ◌-◌, ◌≤◌, ◌<◌, Bool, true, false, List, ◌∷◌, ◌++◌, length, Option, Result, Ok, Err}
use Rattle.std.proofs.Math.Option.{none, some}
use Rattle.definitions.specs.Problem.Node as table
use Rattle.definitions.specs.Text.Tokens.{opening, closing}
use Rattle.definitions.specs.Text.Grammar.{Symbol, Terms, end, Command, symbols_in, Wanted, wanted_by, sort_of_head, next, left, head_right, terms_right}
use Rattle.definitions.specs.Text.Grammar as grammar
use Rattle.definitions.specs.Text.Reader.{Opened, State, inside, put, script_read}
use Rattle.definitions.specs.Lists.{snoc}
use Rattle.definitions.specs.Text.Nodes.{Tree, symbol_bytes, head_tree, trees_of, lay}
use Rattle.definitions.specs.Operations.Answers.{refused}
use Rattle.definitions.specs.Operations.Readings.{refusal_read}
use Rattle.definitions.specs.declared.Refusal.{Refusal}
use Rattle.theorems.specs.Origins.{NoTwins}
use Rattle.theorems.proofs.Text.Meant.Shared.{Earlier}
use Rattle.theorems.proofs.Text.Meant.Laying.{Full}
use Rattle.theorems.proofs.Text.Taken.Kept.Invariant.{row_right}
use Rattle.terms.specs.Lexing.{lexeme_read, Lexed}
use Rattle.terms.specs.Reading.{Reached, is_token}
use Rattle.problem.specs.Wanted.{sort_read}
use Rattle.terms.specs.Symbols.{Symbols}
use Rattle.terms.specs.Heads.{head_read, ArityIs, left_after}
use Rattle.terms.specs.Laying.{over, standing, Performs}
use Rattle.terms.specs.Lists.{Row, kept, no_row, arguments, awaiting, Counted}
use Rattle.terms.specs.Rowing.{RowIs}
use Rattle.terms.specs.declared.tokens.Token.{Token}
use Rattle.terms.specs.declared.declared.Declared.{Declared}
use Rattle.terms.specs.declared.declared.Shelved.{Shelved}
use Rattle.terms.specs.declared.heads.Head.{Head}
use Rattle.problem.specs.declared.ops.Sort.{Sort}
use Rattle.terms.specs.declared.terms.Term.{Term}

-- in a list that is wanted and read so far, inside open brackets
abbrev pub in_list : List ℕ → List Command → Wanted → Terms → List Opened → State
in_list sn cs w row outer = record { sort_name = sn; commands = cs; stage = inside w row outer }

-- the table, where it has room: no two nodes are equal, operands come earlier, and the symbols are few enough to be named in a byte
pub record TableGood (sig : List Symbol) (u : Option (List table.Node)) : Type 0 where
  pub twins : over u ≡ false → NoTwins (standing u)
  pub earlier : over u ≡ false → Earlier (symbol_bytes sig) (standing u)
  pub symbols_few : over u ≡ false → length sig ≤ 32

-- a term of a sort is wanted where a token stands that closes nothing
pub record TermWanted (text sn : List ℕ) (cs : List Command) (shelf : List Shelved) (d : Declared) (w : Wanted) (row : Terms) (outer : List Opened) (at : ℕ)
    (t : Token) (s : Sort) (levels : ℕ) (u : Option (List table.Node)) : Type 0 where
  pub symbols : Symbols text sn cs shelf d
  pub reached : Reached text (in_list sn cs w row outer) at
  pub lexed : Lexed text at t
  pub unclosed : is_token closing (lexeme_read t.lexeme) ≡ false
  pub wanted : next w ≡ some (sort_read s)
  pub level : length outer + levels ≡ 64
  pub good : TableGood (symbols_in cs) u

-- a right term of the sort stands there, and is laid
pub record TermRead (text sn : List ℕ) (cs : List Command) (w : Wanted) (row : Terms) (outer : List Opened) (s : Sort) (u : Option (List table.Node))
    (at number : ℕ) (u' : Option (List table.Node)) : Type 0 where
  pub head : grammar.Head
  pub args : Terms
  pub reached : Reached text (in_list sn cs (left w) (put row head args) outer) at
  pub head_right_lem : head_right (symbols_in cs) head ≡ true
  pub sort_is_lem : sort_of_head head ≡ sort_read s
  pub args_right : terms_right (symbols_in cs) (wanted_by (symbols_in cs) head) args ≡ true
  pub performs : Performs (lay (head_tree head (trees_of args))) u number u'

-- the text is refused so
abbrev pub RefusedBy : List ℕ → Refusal → Type 0
RefusedBy text refusal = script_read text ≡ refused (refusal_read refusal)

abbrev pub TermSays : (text sn : List ℕ) → List Command → Wanted → Terms → List Opened → Sort → Option (List table.Node) → Result Term Refusal → Option (List table.Node) → Type 0
TermSays text sn cs w row outer s u (Ok r) u' = TermRead text sn cs w row outer s u r.at r.number u'
TermSays text sn cs w row outer s u (Err refusal) u' = RefusedBy text refusal

-- whatever is read: the offset behind the term is sound
abbrev pub TermSound : List ℕ → ℕ → Result Term Refusal → Type 0
TermSound text from (Ok r) = (from ≤ r.at) × (r.at ≤ length text)
TermSound text from (Err refusal) = Unit {0}

pub record ReadsTerm (text : List ℕ) (shelf : List Shelved) (d : Declared) (t : Token) (s : Sort) (levels : ℕ) (u : Option (List table.Node)) (r : Result Term Refusal) (u' : Option (List table.Node)) : Type 0 where
  pub sound : TermSound text t.next r
  pub says : (sn : List ℕ) (cs : List Command) (w : Wanted) (row : Terms) (outer : List Opened) (at : ℕ)
      → TermWanted text sn cs shelf d w row outer at t s levels u → TermSays text sn cs w row outer s u r u'

-- a list with these first members gets a table that is too long, whatever members follow
abbrev pub TooLongWith : List Symbol → grammar.Head → List table.Node → List Tree → Type 0
TooLongWith sig h t xs = (us : List Tree) → Counted h (xs ++ us) → Full (symbol_bytes sig) (head_tree h (xs ++ us)) → 256 < length (lay (head_tree h (xs ++ us)) t).table

-- the arguments that are read so far are laid behind the table t, unless it had no room before; or it has none now
pub record ListSo (sig : List Symbol) (h : grammar.Head) (t : List table.Node) (full : Bool) (xs : List Tree) (row : Row) (u : Option (List table.Node)) : Type 0 where
  pub stays : full ≡ true → over u ≡ true
  pub row_so : full ≡ false → over u ≡ false → RowIs (arguments h xs (kept no_row t)).row row
  pub table_so : full ≡ false → over u ≡ false → (arguments h xs (kept no_row t)).table ≡ standing u
  pub over_so : full ≡ false → over u ≡ true → TooLongWith sig h t xs

-- a further argument may come
pub record ListReady (sig : List Symbol) (h : grammar.Head) (t : List table.Node) (full : Bool) (xs : List Tree) (row : Row) (u : Option (List table.Node)) : Type 0 where
  pub stays : full ≡ true → over u ≡ true
  pub row_so : full ≡ false → over u ≡ false → RowIs (awaiting h xs t).row row
  pub table_so : full ≡ false → over u ≡ false → (awaiting h xs t).table ≡ standing u
  pub over_so : full ≡ false → over u ≡ true → (x : Tree) → TooLongWith sig h t (snoc xs x)

-- a term with no bracket, at any level
pub record ReadsBare (text : List ℕ) (shelf : List Shelved) (d : Declared) (t : Token) (s : Sort) (u : Option (List table.Node)) (r : Result Term Refusal) (u' : Option (List table.Node)) : Type 0 where
  pub sound : TermSound text t.next r
  pub says : (levels : ℕ) → is_token opening (lexeme_read t.lexeme) ≡ false → (sn : List ℕ) (cs : List Command) (w : Wanted) (row : Terms) (outer : List Opened) (at : ℕ)
      → TermWanted text sn cs shelf d w row outer at t s levels u → TermSays text sn cs w row outer s u r u'

-- a bracket and its head are read, in a list with this outermost bracket
pub record ListBegun (text sn : List ℕ) (cs : List Command) (shelf : List Shelved) (d : Declared) (head : Head) (levels : ℕ) (o : Opened) (outer : List Opened)
    (u : Option (List table.Node)) (at : ℕ) : Type 0 where
  pub symbols : Symbols text sn cs shelf d
  pub arity_is : ArityIs (symbols_in cs) head
  pub head_right_lem : head_right (symbols_in cs) (head_read head) ≡ true
  pub good : TableGood (symbols_in cs) u
  pub level : length outer + levels ≡ 64
  pub left_over : 0 < levels
  pub reached : Reached text (in_list sn cs (wanted_by (symbols_in cs) (head_read head)) end (o ∷ outer)) at

-- some of its arguments are read and laid
pub record InArguments (text sn : List ℕ) (cs : List Command) (head : Head) (o : Opened) (outer : List Opened) (u₀ u : Option (List table.Node)) (row : Row) (at : ℕ)
    : Type 0 where
  pub args : Terms
  pub reached : Reached text (in_list sn cs (left_after (length (trees_of args)) (wanted_by (symbols_in cs) (head_read head))) args (o ∷ outer)) at
  pub right : row_right (symbols_in cs) (wanted_by (symbols_in cs) (head_read head)) args ≡ true
  pub counted : row.seen ≡ min (length (trees_of args)) 3
  pub so : ListSo (symbols_in cs) (head_read head) (standing u₀) (over u₀) (trees_of args) row u

-- the bracket that is open around a list
abbrev pub bracket_of : Head → Wanted → Terms → Opened
bracket_of head w row = record { head = head_read head; wanted = w; before = row }

-- a term is read up to an offset in the list of its arguments
pub record InTerm (text sn : List ℕ) (cs : List Command) (shelf : List Shelved) (d : Declared) (w : Wanted) (before : Terms) (outer : List Opened) (s : Sort) (levels : ℕ)
    (head : Head) (u₀ u : Option (List table.Node)) (row : Row) (at : ℕ) : Type 0 where
  pub start : ℕ
  pub begun : ListBegun text sn cs shelf d head levels (bracket_of head w before) outer u₀ start
  pub sort_so : sort_of_head (head_read head) ≡ sort_read s
  pub inside : InArguments text sn cs head (bracket_of head w before) outer u₀ u row at

-- what the loop over the arguments of the term at a token keeps, where another token follows them
pub record ArgumentsSo (text : List ℕ) (shelf : List Shelved) (d : Declared) (t : Token) (s : Sort) (levels : ℕ) (head : Head) (u₀ u : Option (List table.Node)) (row : Row)
    (following : Token) : Type 0 where
  pub at : ℕ
  pub onward : t.next ≤ at
  pub lexed : Lexed text at following
  pub says : (sn : List ℕ) (cs : List Command) (w : Wanted) (before : Terms) (outer : List Opened) (from : ℕ)
      → TermWanted text sn cs shelf d w before outer from t s levels u₀ → InTerm text sn cs shelf d w before outer s levels head u₀ u row at

-- how much of a text is left from a token on, which counts itself
abbrev pub left_from : List ℕ → Token → ℕ
left_from text t = elim (lexeme_read t.lexeme) [ none ↦ 0 | some x ↦ suc (length text - t.next) ]
