-- A table read back from its bytes is the table, whatever stands after them; and problem bytes give back the symbols and the nodes.
-- Assumes nothing.
use mathlib.Core.Path.{◌≡◌, refl, sym, ap, ap₂, ◌∙◌}
use Prim.Native.Nat.{ℕ, zero, suc, ◌+◌, ◌*◌, ◌/◌, ◌%◌, ◌<◌}
use native.Mathlib.Omega.{arith}
use mathlib.Core.List.{List, [], ◌∷◌, ◌++◌, append_assoc, append-nil}
use lib.ListN.{length, length-append}
use lib.Seq.{get_or-append-add, take-append_seam}
use Rattle.definitions.specs.Bytes.{byte_at, two_at}
use Rattle.definitions.specs.Problem.Node.{Node, node, node_at, nodes_at, node_bytes, table_bytes, problem_bytes}
use Rattle.definitions.specs.Problem.Check.{node_count, symbols_of, nodes_of}
use Rattle.definitions.specs.Operations.Buffers.{over}
use Rattle.theorems.proofs.Fits.{FitsNode, length_table_bytes}

-- a number of two bytes
pub two_back : (x : ℕ) → x < 65536 → x % 256 + 256 * (x / 256 % 256) ≡ x
two_back x h = omega arith

-- operands that two bytes hold
abbrev pub Low : Node → Type 0
Low n = (n.a < 65536) × (n.b < 65536) × (n.c < 65536)

-- the eight bytes of a node
node_back : (n : Node) → Low n → (rest : List ℕ) → node_at (node_bytes n ++ rest) 0 ≡ n
node_back n f rest =
    λ i.
    record {
      op = n.op;
      sym = n.sym;
      a = two_back n.a f.0 i;
      b = two_back n.b f.1 i;
      c = two_back n.c f.2 i;
    }

-- what stands after some bytes is read at places after them
module _ (p xs : List ℕ) where
  byte_after : (i j : ℕ) → j ≡ length p + i → byte_at (p ++ xs) j ≡ byte_at xs i
  byte_after i j e = ap (byte_at (p ++ xs)) e ∙ get_or-append-add p xs i 0

  two_after : (i j : ℕ) → j ≡ length p + i → two_at (p ++ xs) j ≡ two_at xs i
  two_after i j e = ap₂ (λ a b. a + 256 * b) (byte_after i j e) (byte_after (i + 1) (j + 1) (omega arith))

  node_after : (i j : ℕ) → j ≡ length p + i → node_at (p ++ xs) j ≡ node_at xs i
  node_after i j e =
      λ k.
      record {
        op = byte_after i j e k;
        sym = byte_after (i + 1) (j + 1) (omega arith) k;
        a = two_after (i + 2) (j + 2) (omega arith) k;
        b = two_after (i + 4) (j + 4) (omega arith) k;
        c = two_after (i + 6) (j + 6) (omega arith) k;
      }

  pub nodes_after : (i j m : ℕ) → j ≡ length p + i → nodes_at (p ++ xs) j m ≡ nodes_at xs i m
  nodes_after i j zero e = refl
  nodes_after i j (suc m) e =
      ap₂ {C = List Node} (λ n ns. n ∷ ns) (node_after i j e) (nodes_after (i + 8) (j + 8) m (omega arith))

pub nodes_back : (t : List Node) → ((k : ℕ) → k < length t → Low (node t k)) → (rest : List ℕ) → nodes_at (table_bytes t ++ rest) 0 (length t) ≡ t
nodes_back [] f rest = refl
nodes_back (n ∷ t) f rest =
    let after = table_bytes t ++ rest in
    ap (λ s. nodes_at s 0 (suc (length t))) (append_assoc (node_bytes n) (table_bytes t) rest)
    ∙ ap₂ {C = List Node} (λ m ms. m ∷ ms) (node_back n (f 0 (omega arith)) after)
    (nodes_after (node_bytes n) after 0 (0 + 8) (length t) refl ∙ nodes_back t (λ k h. f (suc k) (omega arith)) rest)

-- the table at the start of a buffer
pub table_back : (t : List Node) → ((k : ℕ) → k < length t → FitsNode (node t k)) → (w : List ℕ) → nodes_at (over (table_bytes t) w) 0 (length t) ≡ t
table_back t f w = nodes_back t (λ k h. let n = f k h in (n.a_fits, n.b_fits, n.c_fits)) _

-- the bytes of symbols and nodes give them back
pub symbols_back : (symbols : List ℕ) (t : List Node) → symbols_of (problem_bytes symbols t) ≡ symbols
symbols_back symbols t = take-append_seam symbols (table_bytes t)

pub nodes_read : (symbols : List ℕ) (t : List Node) → length t < 65536 → ((k : ℕ) → k < length t → Low (node t k)) → nodes_of (problem_bytes symbols t) ≡ t
nodes_read symbols t h f =
    let s = problem_bytes symbols t in
    let front : List ℕ = 69 ∷ 81 ∷ 80 ∷ 1 ∷ 0 ∷ length symbols ∷ length t % 256 ∷ (length t / 256) % 256 ∷ symbols in
    let count : node_count s ≡ length t = two_back (length t) h in
    let place : 8 + length symbols ≡ length front + 0 = omega arith in
    ap (nodes_at s (8 + length symbols)) count
    ∙ nodes_after front (table_bytes t) 0 (8 + length symbols) (length t) place
    ∙ ap (λ (xs : List ℕ). nodes_at xs 0 (length t)) (sym (append-nil (table_bytes t)))
    ∙ nodes_back t f []

-- the length of a problem: its header, its symbols and its nodes
pub problem_length : (symbols : List ℕ) (t : List Node) → length (problem_bytes symbols t) ≡ 8 + length symbols + 8 * length t
problem_length symbols t = let x = length-append symbols (table_bytes t) in let y = length_table_bytes t in omega arith
