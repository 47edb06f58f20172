-- The symbol of a name, found on the shelf or in the text, is the one that the commands read so far declare. Assumes nothing.
use mathlib.Core.Path.{◌≡◌, refl, sym, ap, ◌∙◌, subst}
use Prim.Native.Nat.{ℕ, zero, suc, ◌+◌, ◌≤◌, ◌<◌}
use native.Mathlib.Numerals.{add-one}
use native.Mathlib.Omega.{arith}
use mathlib.Core.Bool.{Bool, true, false, not, false≢true}
use mathlib.Core.List.{List, [], ◌∷◌, ◌++◌, append_cancel_right}
use mathlib.Core.Option.{Option, none, some}
use lib.ListN.{length, get_or, take, drop, length-take, length-drop}
use lib.Seq.{drop-cons, take_at, get_or-take}
use borrow.Author.Tests.{leb-true}
use lib.Dec.{leb}
use Rattle.definitions.specs.Text.Ascii.{same_bytes}
use Rattle.definitions.specs.Text.Tokens.{opening, tokens_of, same_token}
use Rattle.definitions.specs.Text.Tokens as tokens
use Rattle.definitions.specs.Text.Grammar.{Symbol, Command, declare, assert, symbols_in, no_symbol, symbol_at, solvers_own, new_function, after, command_right, commands_right}
use Rattle.definitions.specs.Text.Reader.{start}
use Rattle.theorems.specs.Texts.{plain_tokens}
use Rattle.theorems.proofs.Laws.Tests.{and_left, and_right}
use Rattle.theorems.proofs.Laws.Scans.{failing_from, fails_here, fails_later, fails_nowhere, failing_first}
use Rattle.theorems.proofs.Text.Taken.Told.{plain_append}
use Rattle.theorems.proofs.Text.Taken.Kept.Invariant.{base, Ready}
use Rattle.theorems.proofs.Text.Taken.Kept.Sound.{keep_run, start_inv}
use Rattle.std.specs.Prelude.{Some, None, is_some}
use Rattle.std.specs.Prelude as code
use Rattle.terms.specs.Lexing.{tokens_at}
use Rattle.terms.specs.Reading.{Reached}
use Rattle.problem.specs.Stages.{found_of}
use Rattle.terms.specs.Named.{core_of, resolve}
use Rattle.terms.specs.Declarations.{declared_here, declared_in, plain_at, first_name, DeclaresNext, ByteIs}
use Rattle.terms.specs.Symbols.{symbol_byte, byte_on, OnShelf, ShelfSound, at_command, Symbols, name_on, FoundOn, KnownIn, KnownIs, KnownSmall, Finds, Few}
use Rattle.terms.specs.declared.declared.Declared.{Declared}
use Rattle.terms.specs.declared.declared.Shelved.{Shelved}
use Rattle.terms.specs.declared.declared.Known.{Known}
use Rattle.terms.proofs.DeclarationLaws.{name_here}
use Rattle.terms.proofs.NameLaws.{new_by}
use Rattle.terms.proofs.DeclaredLaws.{declared_on}

-- a list from n on
module _ (xs : List Symbol) (n : ℕ) (y : Symbol) (ys : List Symbol) (e : drop n xs ≡ y ∷ ys) where
  starts : n < length xs
  starts = omega (arith, length-drop n xs, ap length e)

  split_here : get_or xs n no_symbol ∷ drop (suc n) xs ≡ y ∷ ys
  split_here = sym (drop-cons xs n no_symbol starts) ∙ e

  first_is : get_or xs n no_symbol ≡ y
  first_is = let h = split_here in cc

  rest_is : drop (n + 1) xs ≡ ys
  rest_is = let h = split_here in rw (add-one n) (cc)

-- the tokens before an offset declare the symbols before a number, and none of those has the name
abbrev other : List ℕ → Symbol → Bool
other name y = not (same_bytes name y.name)

pub record Scanning (text sn : List ℕ) (count : ℕ) (name : List ℕ) (at number : ℕ) : Type 0 where
  pub inside : at ≤ length text
  pub few : number ≤ count
  pub left : declared_in sn (plain_at text at) ≡ drop number (declared_in sn (plain_at text 0))
  pub search : failing_from (other name) (take count (declared_in sn (plain_at text 0))) number ≡ resolve (take count (declared_in sn (plain_at text 0))) name

module _ (text sn : List ℕ) (count : ℕ) (name : List ℕ) (at number : ℕ) (s : Scanning text sn count name at number) where
  abbrev all : List Symbol
  all = declared_in sn (plain_at text 0)

  abbrev counted : List Symbol
  counted = take count all

  -- the scan ends with the text, or with the count
  none_left : length counted ≤ number → resolve counted name ≡ none
  none_left h = sym s.search ∙ fails_nowhere (other name) counted number h

  pub scan_ends : declared_in sn (plain_at text at) ≡ [] → resolve counted name ≡ none
  scan_ends e =
      let nothing : [] ≡ drop number all = sym e ∙ s.left in
      none_left (omega (arith, length-take count all, length-drop number all, ap length nothing))

  -- a declaration
  module _ (k : ℕ) (d : DeclaresNext text at (Some k)) (h : number < count) where
    abbrev here : Symbol
    here = declared_here sn (plain_at text k)

    all_on : drop number all ≡ here ∷ declared_in sn (plain_at text k)
    all_on = sym s.left ∙ d.1 sn

    among : number < length counted
    among = omega (arith, length-take count all, starts all number here (declared_in sn (plain_at text k)) all_on)

    symbol_is : symbol_at counted number ≡ here
    symbol_is = get_or-take count all number no_symbol h ∙ first_is all number here (declared_in sn (plain_at text k)) all_on

    told : {b : Bool} → b ≡ same_bytes name (first_name (plain_at text k)) → other name (symbol_at counted number) ≡ not b
    told p =
        ap (other name) symbol_is
        ∙ ap (λ (n : List ℕ). not (same_bytes name n)) (name_here sn (plain_at text k))
        ∙ ap not (sym p)

    pub scan_finds : true ≡ same_bytes name (first_name (plain_at text k)) → (byte : ℕ) → ByteIs sn (plain_at text k) byte
        → KnownIn counted name (Some (record { number = number; byte = byte }))
    scan_finds p byte i = (
      sym s.search ∙ fails_here (other name) counted no_symbol number among (told p),
      i.small,
      subst (λ (y : Symbol). y.arity ≤ 3 → byte ≡ symbol_byte y) (sym symbol_is) i.is,
    )

    pub scan_later : false ≡ same_bytes name (first_name (plain_at text k)) → Scanning text sn count name k (number + 1)
    scan_later p =
        record {
          inside = d.0;
          few = omega arith;
          left = sym (rest_is all number here (declared_in sn (plain_at text k)) all_on);
          search = sym (fails_later (other name) counted no_symbol number among (told p)) ∙ s.search;
        }

-- the places of a shelf that are taken
abbrev nothing_on : Shelved
nothing_on = record { name = record { ref_ptr = (0, 0); now = [] }; byte = 0 }

taken_name : (shelf : List Shelved) (held i : ℕ) → i < held → name_on (take held shelf) i ≡ name_on shelf i
taken_name shelf held i p = ap (λ (x : Shelved). x.name.now) (get_or-take held shelf i nothing_on p)

-- right commands declare symbols of at most three arguments
right_small : (sig : List Symbol) (cs : List Command) → commands_right sig cs ≡ true → Few (symbols_in cs)
right_small sig [] e k = omega arith
right_small sig (declare y ∷ cs) e zero =
    let one = and_left (command_right sig (declare y)) (commands_right (after sig (declare y)) cs) e in
    leb-true y.arity 3 (and_right (new_function sig y.name) (leb y.arity 3) one)
right_small sig (declare y ∷ cs) e (suc k) =
    right_small (after sig (declare y)) cs (and_right (command_right sig (declare y)) (commands_right (after sig (declare y)) cs) e) k
right_small sig (assert t ∷ cs) e k =
    right_small sig cs (and_right (command_right sig (assert t)) (commands_right sig cs) e) k

-- where the commands cs are read
module _ (text sn : List ℕ) (cs : List Command) (at : ℕ) (r : Reached text (at_command sn cs) at) where
  kept : Ready sn cs × (plain_tokens r.before ++ (opening ∷ []) ≡ base sn cs ++ (opening ∷ []))
  kept = keep_run (plain_tokens r.before) start (at_command sn cs) [] start_inv r.ran

  pub reached_ready : Ready sn cs
  reached_ready = kept.0

  pub symbols_few : Few (symbols_in cs)
  symbols_few = right_small [] cs kept.0.1

  tokens_are : plain_at text 0 ≡ base sn cs ++ plain_at text at
  unfolding tokens_at tokens_of
  tokens_are =
      ap plain_tokens r.split
      ∙ plain_append r.before (tokens_at text at)
      ∙ ap (λ (ts : List tokens.Token). ts ++ plain_at text at) (append_cancel_right (plain_tokens r.before) (base sn cs) (opening ∷ []) kept.1)

  -- the first declarations in the text are theirs
  declared_first : (count : ℕ) → length (symbols_in cs) ≡ count → take count (declared_in sn (plain_at text 0)) ≡ symbols_in cs
  declared_first count e =
      ap (λ (ts : List tokens.Token). take count (declared_in sn ts)) tokens_are
      ∙ ap (take count) (declared_on sn kept.0.0 cs (plain_at text at))
      ∙ take_at (symbols_in cs) (declared_in sn (plain_at text at)) count e

known_small : (sig : List Symbol) (name : List ℕ) (r : code.Option Known) → KnownIn sig name r → KnownSmall r
known_small sig name (Some known) k = k.1
known_small sig name None k = tt

-- what is found is the symbol of the name
module _ (text : List ℕ) (shelf : List Shelved) (d : Declared) (sn : List ℕ) (cs : List Command) (s : Symbols text sn cs shelf d) (name : List ℕ) where
  abbrev sig : List Symbol
  sig = symbols_in cs

  text_known : (r : code.Option Known) → KnownIn (take d.count (declared_in d.sort.now (plain_at text 0))) name r → KnownIs sig name r
  text_known r k = small r (subst (λ (ys : List Symbol). KnownIn ys name r) are k)
    where
      are : take d.count (declared_in d.sort.now (plain_at text 0)) ≡ sig
      are =
          ap (λ (n : List ℕ). take d.count (declared_in n (plain_at text 0))) (sym s.sort_is_lem)
          ∙ declared_first text sn cs d.command s.reached d.count (sym s.shelved.counted)

      small : (r : code.Option Known) → KnownIn sig name r → KnownIs sig name r
      small (Some known) (e, _, b) = (e, b (symbols_few text sn cs d.command s.reached known.number))
      small None e = e

  module _ (held : ℕ) (h : held ≤ d.count) (l : held ≤ length shelf) where
    on : (i : ℕ) → i < held → OnShelf shelf d.count i
    on i p = (omega arith, omega arith)

    compared : (i : ℕ) → i < held → {b : Bool} → same_bytes name (name_on (take held shelf) i) ≡ b → other name (symbol_at sig i) ≡ not b
    compared i p e =
        ap (λ (n : List ℕ). not (same_bytes name n)) (sym (taken_name shelf held i p ∙ s.shelved.named i (on i p))) ∙ ap not e

    shelf_known : (i : ℕ) → FoundOn (take held shelf) name (Some i) → KnownIs sig name (Some (record { number = i; byte = byte_on shelf i }))
    shelf_known i f =
        let p : i < held = omega (arith, f.0, length-take held shelf) in (
          (failing_first (other name) sig no_symbol i).1
              (record {
                within = omega (arith, s.shelved.counted);
                wrong = compared i p f.1;
                before = λ j q. compared j (omega arith) (f.2 j q);
              }),
          s.shelved.typed i (on i p),
        )

    shelf_none : d.count ≤ held → FoundOn (take held shelf) name None → resolve sig name ≡ none
    shelf_none p f = go (resolve sig name) refl
      where
        go : (o : Option ℕ) → resolve sig name ≡ o → o ≡ none
        go none e = refl
        go (some k) e =
            let w = (failing_first (other name) sig no_symbol k).0 e in
            let q : k < held = omega (arith, w.within, s.shelved.counted) in
            let r : k < length (take held shelf) = omega (arith, length-take held shelf) in
            absurd (false≢true (sym w.wrong ∙ compared k q (f k r)))

-- whatever is read
module _ (text : List ℕ) (shelf : List Shelved) (d : Declared) (name : List ℕ) where
  pub finds_in_text : (r : code.Option Known) → KnownIn (take d.count (declared_in d.sort.now (plain_at text 0))) name r
      → Finds text shelf d name r
  finds_in_text r k = record { known = λ sn cs s. text_known text shelf d sn cs s name r k; small = known_small _ name r k }

  module _ (held : ℕ) (h : held ≤ d.count) (l : held ≤ length shelf) where
    pub finds_on_shelf : (i : ℕ) → ShelfSound shelf d.count → FoundOn (take held shelf) name (Some i)
        → Finds text shelf d name (Some (record { number = i; byte = byte_on shelf i }))
    finds_on_shelf i sound f =
        record {
          known = λ sn cs s. shelf_known text shelf d sn cs s name held h l i f;
          small = let p : i < held = omega (arith, f.0, length-take held shelf) in sound i (omega arith, omega arith);
        }

    pub finds_nothing : d.count ≤ held → FoundOn (take held shelf) name None → Finds text shelf d name None
    finds_nothing p f = record { known = λ sn cs s. shelf_none text shelf d sn cs s name held h l p f; small = tt }

-- a name is free by three searches
module _ (sig : List Symbol) (name : List ℕ) (core : code.Option ℕ) (e : found_of core ≡ core_of name) where
  module _ (q : false ≡ is_some core) where
    no_core : core_of name ≡ none
    no_core = go core e q
      where
        go : (r : code.Option ℕ) → found_of r ≡ core_of name → false ≡ is_some r → core_of name ≡ none
        go (Some k) e p = absurd (false≢true p)
        go None e p = sym e

    pub declared_taken : (known : code.Option Known) → KnownIs sig name known → true ≡ is_some known → false ≡ new_function sig name
    declared_taken (Some k) i p = sym (new_by sig name ∙ rw (no_core, i.0) refl)
    declared_taken None i p = absurd (false≢true (sym p))

    pub untaken : (known : code.Option Known) → KnownIs sig name known → false ≡ is_some known → not (solvers_own name) ≡ new_function sig name
    untaken (Some k) i p = absurd (false≢true p)
    untaken None i p = sym (new_by sig name ∙ rw (no_core, i) refl)
