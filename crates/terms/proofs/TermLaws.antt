-- Heads that are found are right, their symbols are named in a byte, and a bare one is laid. Assumes nothing.
use mathlib.Core.Path.{◌≡◌, refl, ◌∙◌}
use Prim.Native.Nat.{ℕ, ◌≤◌}
use native.Mathlib.Omega.{arith}
use mathlib.Core.Bool.{Bool, true, false, not, ◌&&◌, false≢true}
use mathlib.Core.List.{List}
use mathlib.Core.Option.{Option, none, some}
use lib.ListN.{length}
use lib.Dec.{ltb}
use borrow.Author.Tests.{ltb-true}
use Rattle.std.specs.Prelude as Maybe
use Rattle.definitions.specs.Lists.{all}
use Rattle.definitions.specs.Problem.Node.{Node}
use Rattle.definitions.specs.Problem.Ops.{Sort, term, formula, same_sort}
use Rattle.definitions.specs.Text.Tokens.{opening, closing, symbol, same_token}
use Rattle.definitions.specs.Text.Tokens as tokens
use Rattle.definitions.specs.Text.Grammar.{Symbol, Head, Terms, end, Command, symbol_at, symbols_in, Wanted, wanted_by, sort_of_head, next, ready, head_right, head_token, terms_right}
use Rattle.definitions.specs.Text.Heads.{names, bare, bracketed, heads, inhabited}
use Rattle.definitions.specs.Text.Reader.{Opened}
use Rattle.definitions.specs.Text.Nodes.{head_tree, trees_of, lay}
use Rattle.theorems.proofs.Laws.Tests.{and_left, and_right}
use Rattle.theorems.proofs.Text.Meant.Reading.{Small}
use Rattle.theorems.proofs.Text.Taken.Runs.{first_passes}
use Rattle.terms.specs.Lexing.{lexeme_read, Lexed}
use Rattle.terms.specs.Reading.{Reached, WrongAt, NoSymbol, is_token}
use Rattle.problem.specs.Wanted.{sort_read}
use Rattle.terms.specs.Symbols.{Symbols}
use Rattle.terms.specs.Heads.{head_read}
use Rattle.terms.specs.Lists.{Row, no_row}
use Rattle.terms.specs.Laying.{over, standing, Performs}
use Rattle.terms.specs.Rowing.{RowIs, SymbolSmall, Finishes}
use Rattle.terms.specs.Terms.{in_list, TableGood, TermWanted, TermRead, ListSo}
use Rattle.terms.specs.declared.tokens.Token.{Token}
use Rattle.terms.specs.declared.heads.Head as code
use Rattle.terms.specs.declared.declared.Declared.{Declared}
use Rattle.problem.specs.declared.ops.Sort as sorts
use Rattle.terms.specs.declared.declared.Shelved.{Shelved}
use Rattle.terms.proofs.HeadLaws.{bare_none}
use Rattle.terms.proofs.ReachLaws.{ends}
use Rattle.terms.proofs.LexemeLaws.{end_place}
use Rattle.terms.proofs.TermSteps.{same_swapped, bare_taken, bare_wrong}
use Rattle.terms.proofs.TermRights.{ready_small, term_counted, term_full}
use Rattle.terms.proofs.SymbolLaws.{reached_ready}
use Rattle.terms.proofs.ArgumentLaws.{list_begins, list_ends}

same_sort_lem : (s r : Sort) → same_sort s r ≡ true → s ≡ r
same_sort_lem term term e = refl
same_sort_lem term formula e = absurd (false≢true e)
same_sort_lem formula term e = absurd (false≢true e)
same_sort_lem formula formula e = refl

module _ (sig : List Symbol) (s : Sort) (x : tokens.Token) (h : Head) where
  abbrev named : Bool
  named = names sig s x h

  named_right : named ≡ true → (head_right sig h ≡ true) × (sort_of_head h ≡ s)
  named_right e =
      let first = head_right sig h && same_token x (head_token sig h) in
      (and_left (head_right sig h) (same_token x (head_token sig h)) (and_left first (same_sort (sort_of_head h) s) e), same_sort_lem (sort_of_head h) s (and_right first (same_sort (sort_of_head h) s) e))

  -- a bare head is right and wants nothing
  pub bare_right : bare sig s x ≡ some h → (head_right sig h ≡ true) × (sort_of_head h ≡ s) × (terms_right sig (wanted_by sig h) end ≡ true)
  bare_right e =
      let p = first_passes (λ g. names sig s x g && ready (wanted_by sig g)) (heads sig) h e in
      let r = named_right (and_left named (ready (wanted_by sig h)) p) in
      (r.0, r.1, and_right named (ready (wanted_by sig h)) p)

  pub bracketed_right : bracketed sig s x ≡ some h → (head_right sig h ≡ true) × (sort_of_head h ≡ s)
  bracketed_right e =
      let p = first_passes (λ g. names sig s x g && not (ready (wanted_by sig g)) && all (inhabited sig) (wanted_by sig g).must) (heads sig) h e in
      named_right (and_left named (not (ready (wanted_by sig h))) (and_left (named && not (ready (wanted_by sig h))) (all (inhabited sig) (wanted_by sig h).must) p))

-- the number of a symbol that is declared is a byte, where there are few
pub symbol_small : (sig : List Symbol) (h : code.Head) → head_right sig (head_read h) ≡ true → length sig ≤ 32 → SymbolSmall h
symbol_small sig (code.Head.Applied number f arity) e few =
    let l = ltb-true number (length sig) (and_left (ltb number (length sig)) (same_sort (symbol_at sig number).result (sort_read f)) e) in
    omega arith
symbol_small sig (code.Head.Choice f) e few = tt
symbol_small sig code.Head.Equals e few = tt
symbol_small sig code.Head.Not e few = tt
symbol_small sig code.Head.And e few = tt
symbol_small sig code.Head.Or e few = tt
symbol_small sig code.Head.Implies e few = tt
symbol_small sig code.Head.True e few = tt
symbol_small sig code.Head.False e few = tt

-- no symbol, and no bracket: no term begins so
pub nothing_bare : (text sn : List ℕ) (cs : List Command) (w : Wanted) (row : Terms) (outer : List Opened) (at : ℕ) → Reached text (in_list sn cs w row outer) at
    → (t : Token) → Lexed text at t → (s : Sort) → next w ≡ some s → NoSymbol (lexeme_read t.lexeme)
    → is_token closing (lexeme_read t.lexeme) ≡ false → is_token opening (lexeme_read t.lexeme) ≡ false → WrongAt text t.place
nothing_bare text sn cs w row outer at r t l s n f p q = go (lexeme_read t.lexeme) refl f p q
  where
    go : (o : Option tokens.Token) → lexeme_read t.lexeme ≡ o → NoSymbol o → is_token closing o ≡ false → is_token opening o ≡ false → WrongAt text t.place
    go none e f p q = ends text (in_list sn cs w row outer) at r t l (end_place text at t t.lexeme l.fits e) e refl
    go (some x) e f p q =
        bare_wrong text sn cs w row outer at r t l s n x e (same_swapped x closing ∙ p) (same_swapped x opening ∙ q) (bare_none (symbols_in cs) s x f)

-- what is known of the declared symbols of a text that is read so far
pub symbols_right : {text sn : List ℕ} {cs : List Command} {shelf : List Shelved} {d : Declared} → Symbols text sn cs shelf d → Small (symbols_in cs)
symbols_right {text} {sn} {cs} {shelf} {d} symbols = ready_small cs (reached_ready text sn cs d.command symbols.reached).1

-- a list is laid to its end, and its term is right
module _ {sig : List Symbol} (small : Small sig) (head : code.Head) (args : Terms) {v₀ v v' : Maybe.Option (List Node)} (good : TableGood sig v₀)
    {row : Row} {r : ℕ} (right : head_right sig (head_read head) ≡ true) (whole : terms_right sig (wanted_by sig (head_read head)) args ≡ true)
    (so : ListSo sig (head_read head) (standing v₀) (over v₀) (trees_of args) row v)
    (ends : Finishes head row v r v') where
  pub list_whole : Performs (lay (head_tree (head_read head) (trees_of args))) v₀ r v'
  list_whole =
      list_ends sig (head_read head) (standing v₀) (over v₀) good.twins good.earlier (trees_of args) refl refl so
      (term_counted sig small (head_read head) args right whole) (term_full sig small (head_read head) args right whole) ends.stays
      (λ p k is. ends.performs k is (symbol_small sig head right (good.symbols_few p)))

-- a bare term
pub bare_read : {text sn : List ℕ} {cs : List Command} {shelf : List Shelved} {d : Declared} {w : Wanted} {terms : Terms} {outer : List Opened} {at : ℕ} {t : Token} {f : sorts.Sort}
    {levels : ℕ} {v v' : Maybe.Option (List Node)} (name : List ℕ) (head : code.Head) {row : Row} {r : ℕ}
    → TermWanted text sn cs shelf d w terms outer at t f levels v → lexeme_read t.lexeme ≡ some (symbol name)
    → bare (symbols_in cs) (sort_read f) (symbol name) ≡ some (head_read head) → RowIs no_row row → Finishes head row v r v'
    → TermRead text sn cs w terms outer f v t.next r v'
bare_read {text} {sn} {cs} {w = w} {terms} {outer} {at} {t} {f} {levels} {v} name head wanted e b is ends =
    let sig = symbols_in cs in
    let right = bare_right sig (sort_read f) (symbol name) (head_read head) b in
    let deep : length outer ≤ 64 = (let k = wanted.level in omega arith) in
    record {
      head = head_read head;
      args = end;
      reached = bare_taken text sn cs w terms outer at wanted.reached t wanted.lexed (sort_read f) wanted.wanted (symbol name) (head_read head) e refl refl b deep;
      head_right_lem = right.0;
      sort_is_lem = right.1;
      args_right = right.2;
      performs =
          list_whole (symbols_right wanted.symbols) head end wanted.good right.0 right.2
          (list_begins sig (head_read head) (standing v) (over v) v refl refl is) ends;
    }
