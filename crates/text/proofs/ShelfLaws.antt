-- One more symbol on the shelf, or in the text alone: what is so of the script so far is so with it (02, E1). Assumes nothing.
use mathlib.Core.Path.{◌≡◌, refl, sym, ap, ap₂, ◌∙◌, subst}
use Prim.Native.Nat.{ℕ, ◌+◌, ◌≤◌, ◌<◌}
use native.Mathlib.Omega.{arith}
use mathlib.Core.Bool.{Bool, true, false, true≢false, ◌||◌, and-true, and-false}
use mathlib.Core.List.{List, [], ◌∷◌}
use mathlib.Core.Logic.{◌⊎◌, inl, inr, ⊎_elim}
use lib.ListN.{length, length-append, length-map, get_or-append}
use lib.Seq.{get_or_at}
use lib.Dec.{eqb}
use borrow.Author.Tests.{ne_eqb}
use Rattle.std.specs.Prelude.{None}
use Rattle.definitions.specs.Lists.{snoc}
use Rattle.definitions.specs.Problem.Ops.{Sort, term, formula}
use Rattle.definitions.specs.Text.Grammar.{Symbol, Command, declare, no_symbol, symbol_at, symbols_in}
use Rattle.definitions.specs.Text.Heads.{constant, inhabited}
use Rattle.definitions.specs.Text.Nodes.{Tree, byte_of, lay_all}
use Rattle.theorems.proofs.Laws.Tests.{split}
use Rattle.terms.specs.Symbols as symbols
use Rattle.terms.specs.Symbols.{symbol_byte, place_on, OnShelf, ShelfSound, Symbols, DeclaredSound}
use Rattle.terms.specs.Functions.{in_declaring, FunctionRead}
use Rattle.terms.specs.Laying.{over}
use Rattle.terms.specs.Scripts.{roots_of, TooMuch}
use Rattle.terms.specs.declared.declared.Declared.{Declared}
use Rattle.terms.specs.declared.declared.Shelved.{Shelved}
use Rattle.terms.specs.declared.functions.Function.{Function}
use Rattle.terms.proofs.NameLaws.{inhabited_snoc}
use Rattle.terms.proofs.ScriptLaws.{trees_declare, symbols_declare, bytes_declare, much_symbols, much_on}
use Rattle.text.specs.Scripted.{Scripted, Inside}
use Rattle.text.specs.Shelving.{Placed, declared_more, Shelves}
use Rattle.text.specs.declared.scripts.Script.{Script}

-- a constant by its byte
constant_byte : (n : ℕ) (s : Sort) → eqb (byte_of n s) 0 ≡ constant (record { name = []; arity = n; result = s })
constant_byte n term = sym (and-true (eqb n 0))
constant_byte n formula = ne_eqb (16 + n) 0 (λ e. omega arith) ∙ sym (and-false (eqb n 0))

-- a place in use is one of those before, or the last
record Before (shelf : List Shelved) (count : ℕ) (shelf' : List Shelved) (i : ℕ) : Type 0 where
  on : OnShelf shelf count i
  same : place_on shelf' i ≡ place_on shelf i

record Last (count : ℕ) (f : Function) (shelf' : List Shelved) (i : ℕ) : Type 0 where
  last : i ≡ count
  there : place_on shelf' i ≡ record { name = f.name; byte = f.byte }

module _ (shelf : List Shelved) (count : ℕ) (f : Function) (shelf' : List Shelved) (placed : Placed shelf count f shelf') where
  places : (i : ℕ) → OnShelf shelf' (count + 1) i → Before shelf count shelf' i ⊎ Last count f shelf' i
  places i on = ⊎_elim (λ h. inl (before h)) (λ h. inr (last (omega arith))) (split i count)
    where
      before : i < count → Before shelf count shelf' i
      before h = record { on = (h, omega (arith, placed.long)); same = placed.kept i h }

      last : i ≡ count → Last count f shelf' i
      last p = record { last = p; there = ap (place_on shelf') p ∙ placed.there (omega (arith, placed.long)) }

  -- the shelf is sound
  shelf_more : f.byte < 20 → ShelfSound shelf count → ShelfSound shelf' (count + 1)
  shelf_more small sound i on =
      ⊎_elim
      (λ o. subst (λ (p : Shelved). p.byte < 20) (sym o.same) (sound i o.on))
      (λ o. subst (λ (p : Shelved). p.byte < 20) (sym o.there) small)
      (places i on)

module _ {text : List ℕ} {shelf : List Shelved} {s : Script} {at : ℕ} (inside : Inside in_declaring text shelf s at) {f : Function} (small : f.byte < 20) (within : f.at ≤ length text) (later : at ≤ f.at)
    (read : FunctionRead text s.declared.sort.now inside.commands f.name.now f.byte f.at)
    {shelf' : List Shelved} {s' : Script} (shelves : Shelves shelf s f shelf' s') where
  abbrev count : ℕ
  count = s.declared.count

  abbrev sn : List ℕ
  sn = s.declared.sort.now

  abbrev cs : List Command
  cs = inside.commands

  abbrev y : Symbol
  y = read.declared

  abbrev sig : List Symbol
  sig = symbols_in cs

  abbrev more : List Command
  more = snoc cs (declare y)

  abbrev d : Declared
  d = declared_more s.declared f

  shelved : symbols.Shelves sig shelf s.declared
  shelved = inside.so.symbols_so.shelved

  -- the symbols before, and the last
  symbol_before : (i : ℕ) → i < count → symbol_at (snoc sig y) i ≡ symbol_at sig i
  symbol_before i h = get_or-append sig (y ∷ []) no_symbol i (omega (arith, shelved.counted))

  symbol_last : (i : ℕ) → i ≡ count → symbol_at (snoc sig y) i ≡ y
  symbol_last i p = get_or_at sig y [] no_symbol i (sym shelved.counted ∙ sym p)

  inhabits_more : d.inhabited ≡ inhabited (snoc sig y) term
  inhabits_more =
      ap₂ (λ (a b : Bool). a || b) shelved.inhabits (ap (λ (b : ℕ). eqb b 0) read.byte_is ∙ constant_byte y.arity y.result)
      ∙ sym (inhabited_snoc sig y)

  shelved_more : symbols.Shelves (snoc sig y) shelf' d
  shelved_more =
      record {
        counted = omega (arith, shelved.counted, length-append sig (y ∷ []));
        named = λ i on.
            ⊎_elim
            (λ o. ap (λ (p : Shelved). p.name.now) o.same ∙ shelved.named i o.on ∙ ap (λ (z : Symbol). z.name) (sym (symbol_before i o.on.0)))
            (λ o. ap (λ (p : Shelved). p.name.now) o.there ∙ read.name_is ∙ ap (λ (z : Symbol). z.name) (sym (symbol_last i o.last)))
            (places shelf count f shelf' shelves.placed i on);
        typed = λ i on.
            ⊎_elim
            (λ o. ap (λ (p : Shelved). p.byte) o.same ∙ shelved.typed i o.on ∙ ap symbol_byte (sym (symbol_before i o.on.0)))
            (λ o. ap (λ (p : Shelved). p.byte) o.there ∙ read.byte_is ∙ ap symbol_byte (sym (symbol_last i o.last)))
            (places shelf count f shelf' shelves.placed i on);
        inhabits = inhabits_more;
      }

  symbols_more : Symbols text sn more shelf' d
  symbols_more =
      record {
        sort_is_lem = refl;
        shelved = subst (λ (ys : List Symbol). symbols.Shelves ys shelf' d) (sym (symbols_declare cs y)) shelved_more;
        reached = read.reached;
      }

  declared_sound_more : DeclaredSound text shelf' d
  declared_sound_more =
      let old = inside.sound.declared_sound in
      record { sound = shelf_more shelf count f shelf' shelves.placed small old.sound; command_inside = within }

  -- the two ways of keeping
  abbrev full_script : Script
  full_script = record { declared = d; symbols = s'.symbols; table = None; roots = s.roots }

  abbrev more_script : Script
  more_script = record { declared = d; symbols = snoc s.symbols f.byte; table = s.table; roots = s.roots }

  full_so : 32 ≤ length s.symbols → Scripted text shelf' full_script
  full_so p =
      record {
        sound = record { declared_sound = declared_sound_more; count_few = omega (arith, inside.sound.count_few, inside.further) };
        commands = more;
        so =
            record {
              symbols_so = symbols_more;
              few_so = λ q. absurd (true≢false q);
              bytes_so = λ q. absurd (true≢false q);
              table_so = λ q. absurd (true≢false q);
              roots_so = λ q. absurd (true≢false q);
              over_so = λ q. much (over s.table) refl;
            };
      }
    where
      much : (b : Bool) → over s.table ≡ b → TooMuch sn more
      much true o = much_on sn cs (inside.so.over_so o) (declare y)
      much false o =
          much_symbols sn more
          (omega (
            arith,
            ap length (symbols_declare cs y),
            length-append sig (y ∷ []),
            ap length (inside.so.bytes_so o),
            length-map sig symbol_byte,
          ))

  more_so : length s.symbols < 32 → Scripted text shelf' more_script
  more_so p =
      let old = inside.so in
      record {
        sound = record { declared_sound = declared_sound_more; count_few = omega (arith, inside.sound.count_few, inside.further) };
        commands = more;
        so =
            record {
              symbols_so = symbols_more;
              few_so = λ q. omega (arith, length-append s.symbols (f.byte ∷ []));
              bytes_so = λ q. ap₂ {C = List ℕ} snoc (old.bytes_so q) read.byte_is ∙ sym (bytes_declare cs y);
              table_so = λ q. old.table_so q ∙ ap (λ (ts : List Tree). lay_all ts []) (sym (trees_declare cs y));
              roots_so = λ q. old.roots_so q ∙ ap (λ (ts : List Tree). roots_of ts []) (sym (trees_declare cs y));
              over_so = λ q. much_on sn cs (old.over_so q) (declare y);
            };
      }

  pub one_more_lem : Scripted text shelf' s' × (s.declared.command < s'.declared.command)
  one_more_lem = go (split (length s.symbols) 32)
    where
      being : (z : Script) → s' ≡ z → Scripted text shelf' z → s.declared.command < z.declared.command → Scripted text shelf' s' × (s.declared.command < s'.declared.command)
      being z e so lt = subst (λ (z : Script). Scripted text shelf' z × (s.declared.command < z.declared.command)) (sym e) (so, lt)

      further : s.declared.command < f.at
      further = omega (arith, inside.further)

      go : (length s.symbols < 32) ⊎ (32 ≤ length s.symbols) → Scripted text shelf' s' × (s.declared.command < s'.declared.command)
      go (inl p) =
          let k = shelves.more p in
          being more_script (λ i. record { declared = shelves.declared_is i; symbols = k.0 i; table = k.1 i; roots = shelves.roots_same i }) (more_so p) further
      go (inr p) =
          being full_script (λ i. record { declared = shelves.declared_is i; symbols = s'.symbols; table = shelves.full p i; roots = shelves.roots_same i }) (full_so p) further
