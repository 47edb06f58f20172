-- What conditions 1 to 7 say of a table, where none of them holds; and what it is for a problem to be accepted. Assumes nothing.
use mathlib.Core.Path.{◌≡◌, refl, sym, ap}
use Prim.Native.Nat.{ℕ, zero, suc, ◌+◌, ◌*◌, ◌-◌, ◌≤◌}
use native.Mathlib.Omega.{arith}
use mathlib.Core.Bool.{Bool, true, false, not, ◌||◌, true≢false}
use mathlib.Core.List.{List, []}
use mathlib.Core.Option.{Option, none, some}
use lib.ListN.{length}
use lib.Dec.{eqb, ltb}
use borrow.Author.Tests.{ltb-false, le-ltb, eqb-true, eqb-false, eq-eqb, ne_eqb, not-false}
use Rattle.definitions.specs.Lists.{first_failing}
use Rattle.definitions.specs.Bytes.{two_at, EQP}
use Rattle.definitions.specs.Problem.Node.{node, nodes_at}
use Rattle.definitions.specs.Problem.Check.{symbol_count, node_count, symbols_of, nodes_of, stands, symbol_byte_right, first_wrong, is_term, functions_in, predicates_in, refuse_if, refuse_at, layout_conditions}
use Rattle.definitions.specs.Problem.Asked.{limit_conditions, limit_refusal}
use Rattle.theorems.proofs.Laws.Tests.{none≢some}
use Rattle.theorems.proofs.Laws.First.{AllNone, all_none}

pub if_none : (b : Bool) (k : ℕ) → refuse_if b k ≡ none → b ≡ false
if_none true k e = absurd (none≢some (sym e))
if_none false k e = refl

pub at_none : (o : Option ℕ) (k : ℕ) → refuse_at o k ≡ none → o ≡ none
at_none none k e = refl
at_none (some p) k e = absurd (none≢some (sym e))

pub or_false_left : (a b : Bool) → a || b ≡ false → a ≡ false
or_false_left true b e = e
or_false_left false b e = refl

pub or_false_right : (a b : Bool) → a || b ≡ false → b ≡ false
or_false_right true b e = absurd (true≢false e)
or_false_right false b e = e

neither : (a b c : Bool) → a ≡ false → b ≡ false → c ≡ false → a || b || c ≡ false
neither a b c p q r = rw (p, q, r) refl

pub length_nodes_at : (s : List ℕ) (i n : ℕ) → length (nodes_at s i n) ≡ n
length_nodes_at s i zero = refl
length_nodes_at s i (suc n) = ap suc (length_nodes_at s (i + 8) n)

pub record Layout (s : List ℕ) : Type 0 where
  pub header : 8 ≤ length s
  pub letters : stands s 0 EQP ≡ true
  pub version : two_at s 3 ≡ 1
  pub few_symbols : symbol_count s ≤ 32
  pub some_nodes : 1 ≤ node_count s
  pub few_nodes : node_count s ≤ 256
  pub whole : length s ≡ 8 + symbol_count s + 8 * node_count s
  pub symbols_right : first_failing symbol_byte_right 0 (symbols_of s) ≡ none
  pub nodes_right : first_wrong (symbols_of s) [] (nodes_of s) ≡ none

-- a table whose last node is the formula asked
pub record Formed (s : List ℕ) : Type 0 where
  pub layout : Layout s
  pub formula_asked : is_term (node (nodes_of s) (length (nodes_of s) - 1)) ≡ false

-- a problem that every stage after check takes: it is within the limits of 9 and 10 too
pub record Accepted (s : List ℕ) : Type 0 where
  pub layout : Layout s
  pub formula_asked : is_term (node (nodes_of s) (length (nodes_of s) - 1)) ≡ false
  pub few_functions : functions_in (nodes_of s) ≤ 24
  pub few_predicates : predicates_in (nodes_of s) ≤ 16

pub accept : (s : List ℕ) → Formed s → functions_in (nodes_of s) ≤ 24 → predicates_in (nodes_of s) ≤ 16 → Accepted s
accept s formed f p =
    record { layout = formed.layout; formula_asked = formed.formula_asked; few_functions = f; few_predicates = p }

-- within the limits: neither 9 nor 10 refuses
pub accept_limits : (s : List ℕ) → Formed s → limit_refusal s ≡ none → Accepted s
unfolding limit_refusal
accept_limits s formed e =
    let c = all_none (limit_conditions s) e in
    let f = functions_in (nodes_of s) in
    let p = predicates_in (nodes_of s) in
    accept s formed (ltb-false 24 f (if_none (ltb 24 f) 9 c.0)) (ltb-false 16 p (if_none (ltb 16 p) 10 c.1.0))

module _ (s : List ℕ) where
  abbrev many : Bool
  many = ltb 32 (symbol_count s)

  abbrev zero_nodes : Bool
  zero_nodes = eqb (node_count s) 0

  abbrev wanted : ℕ
  wanted = 8 + symbol_count s + 8 * node_count s

  -- where none of 1 to 7 holds, and the other way round
  pub layout_of : AllNone (layout_conditions s) → Layout s
  layout_of c =
      let counts = if_none (many || zero_nodes || ltb 256 (node_count s)) 4 c.1.1.1.0 in
      let two = or_false_left (many || zero_nodes) (ltb 256 (node_count s)) counts in
      let nonzero = eqb-false (node_count s) 0 (or_false_right many zero_nodes two) in
      record {
        header = ltb-false (length s) 8 (if_none (ltb (length s) 8) 1 c.0);
        letters = not-false (stands s 0 EQP) (if_none (not (stands s 0 EQP)) 2 c.1.0);
        version = eqb-true (two_at s 3) 1 (not-false (eqb (two_at s 3) 1) (if_none (not (eqb (two_at s 3) 1)) 3 c.1.1.0));
        few_symbols = ltb-false 32 (symbol_count s) (or_false_left many zero_nodes two);
        some_nodes = omega (arith, nonzero);
        few_nodes = ltb-false 256 (node_count s) (or_false_right (many || zero_nodes) (ltb 256 (node_count s)) counts);
        whole =
            eqb-true (length s) wanted
            (not-false (eqb (length s) wanted) (if_none (not (eqb (length s) wanted)) 5 c.1.1.1.1.0));
        symbols_right = at_none (first_failing symbol_byte_right 0 (symbols_of s)) 6 c.1.1.1.1.1.0;
        nodes_right = at_none (first_wrong (symbols_of s) [] (nodes_of s)) 7 c.1.1.1.1.1.1.0;
      }

  pub layout_none : Layout s → AllNone (layout_conditions s)
  layout_none l =
      let some-there = l.some_nodes in (
        ap (λ b. refuse_if b 1) (le-ltb (length s) 8 l.header),
        (
          ap (λ b. refuse_if (not b) 2) l.letters,
          (
            ap (λ b. refuse_if (not b) 3) (eq-eqb (two_at s 3) 1 l.version),
            (
              ap (λ b. refuse_if b 4)
                  (neither many zero_nodes (ltb 256 (node_count s)) (le-ltb 32 (symbol_count s) l.few_symbols)
                  (ne_eqb (node_count s) 0 (λ e. omega arith)) (le-ltb 256 (node_count s) l.few_nodes)),
              (
                ap (λ b. refuse_if (not b) 5) (eq-eqb (length s) wanted l.whole),
                (ap (λ o. refuse_at o 6) l.symbols_right, (ap (λ o. refuse_at o 7) l.nodes_right, tt)),
              ),
            ),
          ),
        ),
      )
