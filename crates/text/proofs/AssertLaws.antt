-- An assert that is read: its term is laid behind the table, its number is kept, and the next command may come; or it is too much
-- (02, E1). Assumes nothing.
use mathlib.Core.Path.{◌≡◌, refl, sym, ap, ◌∙◌, subst}
use Prim.Native.Nat.{ℕ, suc, ◌≤◌, ◌<◌}
use native.Mathlib.Omega.{arith}
use mathlib.Core.Bool.{Bool, true, false, true≢false}
use mathlib.Core.List.{List, [], ◌∷◌}
use mathlib.Core.Logic.{◌⊎◌, inl, inr}
use mathlib.Core.Option.{some}
use lib.ListN.{length, length-map}
use Rattle.std.specs.Prelude.{Option, None, Ok, Err}
use Rattle.definitions.specs.Lists.{snoc}
use Rattle.definitions.specs.Problem.Node as table
use Rattle.definitions.specs.Text.Tokens.{closing}
use Rattle.definitions.specs.Text.Grammar.{Command, declare, assert, Terms, Symbol, symbols_in, asserts_in, end, one_formula, left}
use Rattle.definitions.specs.Text.Nodes.{Tree, Laid, laid, head_tree, trees_of, lay, lay_all, symbol_bytes}
use Rattle.definitions.specs.Text.Reader.{put}
use Rattle.theorems.specs.Origins.{NoTwins}
use Rattle.theorems.proofs.Laws.Tests.{split}
use Rattle.theorems.proofs.Text.Meant.Shared.{Earlier}
use Rattle.terms.specs.Lexing.{lexeme_read, Lexed}
use Rattle.terms.specs.Reading.{Reached, WrongAt, is_token, Exactly}
use Rattle.terms.specs.Symbols.{Symbols, Shelves, DeclaredSound, at_command, symbol_byte}
use Rattle.terms.specs.Laying.{over, standing}
use Rattle.terms.specs.Scripts.{roots_of, trees_in, table_after, roots_after, TooMuch}
use Rattle.terms.specs.Terms.{TableGood, TermWanted, TermRead}
use Rattle.terms.specs.declared.declared.Shelved.{Shelved}
use Rattle.terms.specs.declared.exact.WrongToken.{WrongToken}
use Rattle.terms.specs.declared.tokens.Token.{Token}
use Rattle.problem.specs.declared.ops.Sort.{Sort}
use Rattle.terms.proofs.SymbolLaws.{reached_ready}
use Rattle.terms.proofs.TermSteps.{none_wanted_lem, assert_closes}
use Rattle.terms.proofs.ScriptLaws.{
  lay_all_snoc,
  roots_snoc,
  roots_many,
  trees_assert,
  symbols_assert,
  bytes_assert,
  table_good,
  table_earlier,
  much_nodes,
  much_asserts,
  much_on,
}
use Rattle.text.specs.Scripted.{ScriptSo, Scripted, Inside}
use Rattle.text.specs.Asserting.{moved_to, Keeps, in_asserting}
use Rattle.text.specs.declared.scripts.Script.{Script}

asserts_on : (cs : List Command) (row : Terms) → length (asserts_in (snoc cs (assert row))) ≡ suc (length (asserts_in cs))
asserts_on [] row = refl
asserts_on (declare y ∷ cs) row = asserts_on cs row
asserts_on (assert r ∷ cs) row = ap suc (asserts_on cs row)

-- a script whose table is another
abbrev pub with_table : Script → Option (List table.Node) → Script
with_table s u = record { declared = s.declared; symbols = s.symbols; table = u; roots = s.roots }

module _ {text : List ℕ} {shelf : List Shelved} {s : Script} {at : ℕ} (inside : Inside in_asserting text shelf s at) where
  abbrev sn : List ℕ
  sn = s.declared.sort.now

  abbrev cs : List Command
  cs = inside.commands

  abbrev so : ScriptSo text shelf s cs
  so = inside.so

  -- the table is good for the assert's term
  pub table_now : TableGood (symbols_in cs) s.table
  table_now =
      let ready = reached_ready text sn cs s.declared.command so.symbols_so.reached in
      record {
        twins = λ q. subst NoTwins (sym (so.table_so q)) (table_good cs);
        earlier = λ q. subst (Earlier (symbol_bytes (symbols_in cs))) (sym (so.table_so q)) (table_earlier cs ready.1);
        symbols_few = λ q. omega (arith, ap length (so.bytes_so q), length-map (symbols_in cs) symbol_byte, so.few_so q);
      }

  -- a formula is wanted
  pub formula_wanted : (t : Token) → Lexed text at t → is_token closing (lexeme_read t.lexeme) ≡ false
      → TermWanted text sn cs shelf s.declared one_formula end [] at t Sort.Formula 64 s.table
  formula_wanted t lexed e =
      record {
        symbols = so.symbols_so;
        reached = inside.reached;
        lexed = lexed;
        unclosed = e;
        wanted = refl;
        level = refl;
        good = table_now;
      }

  module _ {behind number : ℕ} {u : Option (List table.Node)} (read : TermRead text sn cs one_formula end [] Sort.Formula s.table behind number u)
      (t : Token) (lexed : Lexed text behind t) where
    -- nothing but a closing bracket may follow
    one_term : is_token closing (lexeme_read t.lexeme) ≡ false → WrongAt text t.place
    one_term e = none_wanted_lem text sn cs (left one_formula) (put end read.head read.args) [] behind read.reached t lexed refl e

    module _ (e : lexeme_read t.lexeme ≡ some closing) where
      abbrev more : Command
      more = assert (put end read.head read.args)

      abbrev later : List Command
      later = snoc cs more

      abbrev x : Tree
      x = head_tree read.head (trees_of read.args)

      reached_later : Reached text (at_command sn later) t.next
      reached_later = assert_closes text sn cs (left one_formula) (put end read.head read.args) behind read.reached t lexed e refl

      symbols_later : Symbols text sn later shelf (moved_to s.declared t.next)
      symbols_later =
          let shelved = subst (λ (sig : List Symbol). Shelves sig shelf s.declared) (sym (symbols_assert cs (put end read.head read.args))) so.symbols_so.shelved in
          record {
            sort_is_lem = refl;
            shelved = record { counted = shelved.counted; named = shelved.named; typed = shelved.typed; inhabits = shelved.inhabits };
            reached = reached_later;
          }

      -- where there is room
      had_room : over u ≡ false → over s.table ≡ false
      had_room q = go (over s.table) refl
        where
          go : (b : Bool) → over s.table ≡ b → b ≡ false
          go true p = absurd (true≢false (sym (read.performs.stays p) ∙ q))
          go false p = refl

      laid_so : over s.table ≡ false → over u ≡ false → lay x (table_after cs) ≡ laid number (standing u)
      laid_so p q = ap (lay x) (sym (so.table_so p)) ∙ read.performs.done p q

      table_later : over s.table ≡ false → over u ≡ false → standing u ≡ table_after later
      table_later p q =
          sym (ap (λ (l : Laid). l.table) (laid_so p q))
          ∙ sym (lay_all_snoc (trees_in cs) x [])
          ∙ ap (λ (ts : List Tree). lay_all ts []) (sym (trees_assert cs read.head read.args))

      roots_later : over s.table ≡ false → over u ≡ false → roots_after later ≡ snoc (roots_after cs) number
      roots_later p q =
          ap (λ (ts : List Tree). roots_of ts []) (trees_assert cs read.head read.args)
          ∙ roots_snoc (trees_in cs) x []
          ∙ ap (λ (l : Laid). snoc (roots_after cs) l.number) (laid_so p q)

      -- where there is none
      much_later : over u ≡ true → TooMuch sn later
      much_later q = go (over s.table) refl
        where
          go : (b : Bool) → over s.table ≡ b → TooMuch sn later
          go true p = much_on sn cs (so.over_so p) more
          go false p =
              much_nodes sn later
              (subst (λ (ts : List Tree). 256 < length (lay_all ts [])) (sym (trees_assert cs read.head read.args))
              (subst (λ (v : List table.Node). 256 < length v) (sym (lay_all_snoc (trees_in cs) x []))
              (subst (λ (v : List table.Node). 256 < length (lay x v).table) (so.table_so p) (read.performs.more p q))))

      module _ {s' : Script} (further : s.declared.command < t.next) (keeps : Keeps (with_table s u) number t.next s') where
        -- the two ways of keeping
        abbrev full_script : Script
        full_script = record { declared = moved_to s.declared t.next; symbols = s.symbols; table = None; roots = s'.roots }

        abbrev kept_script : Script
        kept_script = record { declared = moved_to s.declared t.next; symbols = s.symbols; table = u; roots = snoc s.roots number }

        declared_later : DeclaredSound text shelf (moved_to s.declared t.next)
        declared_later =
            let d = inside.sound.declared_sound in
            record { sound = d.sound; command_inside = lexed.inside }

        full_so : 256 ≤ length s.roots → Scripted text shelf full_script
        full_so p =
            record {
              sound = record { declared_sound = declared_later; count_few = (let f = inside.sound.count_few in omega arith) };
              commands = later;
              so =
                  record {
                    symbols_so = symbols_later;
                    few_so = λ q. absurd (true≢false q);
                    bytes_so = λ q. absurd (true≢false q);
                    table_so = λ q. absurd (true≢false q);
                    roots_so = λ q. absurd (true≢false q);
                    over_so = λ q. much (over s.table) refl;
                  };
            }
          where
            much : (b : Bool) → over s.table ≡ b → TooMuch sn later
            much true o = much_on sn cs (so.over_so o) more
            much false o = much_asserts sn later (omega (arith, asserts_on cs (put end read.head read.args), ap length (so.roots_so o), roots_many cs))

        kept_so : Scripted text shelf kept_script
        kept_so =
            record {
              sound = record { declared_sound = declared_later; count_few = (let f = inside.sound.count_few in omega arith) };
              commands = later;
              so =
                  record {
                    symbols_so = symbols_later;
                    few_so = λ q. so.few_so (had_room q);
                    bytes_so = λ q. so.bytes_so (had_room q) ∙ sym (bytes_assert cs (put end read.head read.args));
                    table_so = λ q. table_later (had_room q) q;
                    roots_so = λ q. let o = had_room q in ap (λ (ns : List ℕ). snoc ns number) (so.roots_so o) ∙ sym (roots_later o q);
                    over_so = much_later;
                  };
            }

        assert_went : Scripted text shelf s' × (s.declared.command < s'.declared.command)
        assert_went = go (split (length s.roots) 256)
          where
            being : (z : Script) → s' ≡ z → Scripted text shelf z → s.declared.command < z.declared.command → Scripted text shelf s' × (s.declared.command < s'.declared.command)
            being z e so lt = subst (λ (z : Script). Scripted text shelf z × (s.declared.command < z.declared.command)) (sym e) (so, lt)

            go : (length s.roots < 256) ⊎ (256 ≤ length s.roots) → Scripted text shelf s' × (s.declared.command < s'.declared.command)
            go (inl p) =
                let k = keeps.kept p in
                being kept_script (λ i. record { declared = keeps.declared_is i; symbols = keeps.symbols_same i; table = k.1 i; roots = k.0 i }) kept_so further
            go (inr p) =
                being full_script (λ i. record { declared = keeps.declared_is i; symbols = keeps.symbols_same i; table = keeps.full p i; roots = s'.roots }) (full_so p) further

  module _ {behind number : ℕ} {u : Option (List table.Node)} (read : TermRead text sn cs one_formula end [] Sort.Formula s.table behind number u) where
    -- by what stands behind the term
    pub not_closed : (w : WrongToken) → Exactly text behind closing (Err w) → WrongAt text w.0
    not_closed w (t, l, e, p) = subst (WrongAt text) p (one_term read t l e)

    pub closed_there : (next : ℕ) → Exactly text behind closing (Ok next) → at ≤ behind → {s' : Script} → Keeps (with_table s u) number next s'
        → Scripted text shelf s' × (s.declared.command < s'.declared.command)
    closed_there next (t, l, e, n) h {s'} keeps =
        assert_went read t l e (omega (arith, inside.further, l.later)) (subst (λ (k : ℕ). Keeps (with_table s u) number k s') (sym n) keeps)
