-- The head that a name gives, by the two searches: among Core's names and among the declared symbols. Assumes nothing.
use mathlib.Core.Path.{◌≡◌, sym, ap, ◌∙◌, subst}
use Prim.Native.Nat.{ℕ}
use mathlib.Core.List.{List}
use mathlib.Core.Option.{Option, none, some}
use Rattle.std.specs.Prelude as code
use Rattle.definitions.specs.Problem.Ops as ops
use Rattle.definitions.specs.Text.Tokens.{symbol}
use Rattle.definitions.specs.Text.Grammar.{Symbol, Command, symbols_in}
use Rattle.definitions.specs.Text.Grammar as grammar
use Rattle.terms.specs.Named.{core_of, resolve, declared_by, bare_by, bracketed_by}
use Rattle.terms.specs.Symbols.{Symbols, Finds}
use Rattle.problem.specs.Wanted.{sort_read}
use Rattle.terms.specs.Heads.{HeadedIs, Heads, named_at, core_at, CoreAt, stands_at, KnownAt}
use Rattle.terms.specs.declared.declared.Declared.{Declared}
use Rattle.terms.specs.declared.declared.Shelved.{Shelved}
use Rattle.terms.specs.declared.declared.Known.{Known}
use Rattle.terms.specs.declared.heads.Head.{Head}
use Rattle.terms.specs.declared.heads.Place.{Place}
use Rattle.problem.specs.declared.ops.Sort.{Sort}
use Rattle.terms.proofs.NameLaws.{ready_fresh}
use Rattle.terms.proofs.HeadLaws.{bare_by_lem, bracketed_by_lem}
use Rattle.terms.proofs.SymbolLaws.{reached_ready, symbols_few}

module _ (text : List ℕ) (shelf : List Shelved) (d : Declared) (name : List ℕ) (p : Place) (s : Sort) (r : code.Option Head) where
  module _ (sn : List ℕ) (cs : List Command) (y : Symbols text sn cs shelf d) where
    abbrev sig : List Symbol
    sig = symbols_in cs

    found_is : (p : Place) (s : ops.Sort) (o : Option ℕ) → core_of name ≡ o
        → elim o [ some k ↦ core_at p sig s k | none ↦ declared_by sig (stands_at p sig s) s (resolve sig name) ] ≡ named_at p sig s (symbol name)
    found_is Place.Bare s none e =
        ap (λ (o : Option ℕ). bare_by sig s o (resolve sig name)) (sym e)
        ∙ sym (bare_by_lem sig (ready_fresh cs (reached_ready text sn cs d.command y.reached).1) name s)
    found_is Place.Bare s (some k) e =
        ap (λ (o : Option ℕ). bare_by sig s o (resolve sig name)) (sym e)
        ∙ sym (bare_by_lem sig (ready_fresh cs (reached_ready text sn cs d.command y.reached).1) name s)
    found_is Place.Bracketed s none e =
        ap (λ (o : Option ℕ). bracketed_by sig s o (resolve sig name)) (sym e)
        ∙ sym (bracketed_by_lem sig (ready_fresh cs (reached_ready text sn cs d.command y.reached).1) name s)
    found_is Place.Bracketed s (some k) e =
        ap (λ (o : Option ℕ). bracketed_by sig s o (resolve sig name)) (sym e)
        ∙ sym (bracketed_by_lem sig (ready_fresh cs (reached_ready text sn cs d.command y.reached).1) name s)

  pub heads_core : (k : ℕ) → some k ≡ core_of name → CoreAt p s d.inhabited k r → Heads (λ sig. named_at p sig (sort_read s) (symbol name)) text shelf d r
  heads_core k e c =
      record {
        head = λ sn cs y.
            subst (λ (o : Option grammar.Head). HeadedIs (symbols_in cs) o r) (found_is sn cs y p (sort_read s) (some k) (sym e)) (c.head (symbols_in cs) y.shelved.inhabits);
        small = c.small;
      }

  pub heads_known : (known : code.Option Known) → none ≡ core_of name → Finds text shelf d name known → KnownAt p known s d.inhabited r
      → Heads (λ sig. named_at p sig (sort_read s) (symbol name)) text shelf d r
  heads_known known e f c =
      record {
        head = λ sn cs y.
            subst (λ (o : Option grammar.Head). HeadedIs (symbols_in cs) o r) (found_is sn cs y p (sort_read s) none (sym e))
            (c.head (symbols_in cs) name (symbols_few text sn cs d.command y.reached) (f.known sn cs y) y.shelved.inhabits);
        small = c.small;
      }
