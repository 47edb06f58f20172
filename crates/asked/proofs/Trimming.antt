-- The problem asked, from its pieces: the front, and the whole. Assumes nothing.
use borrow.Rule.Slice.PartMut.{put_mid, mid_of}
use mathlib.Core.Path.{◌≡◌, refl, sym, ap, ◌∙◌, subst}
use Prim.Native.Nat.{ℕ, suc, ◌+◌, ◌*◌, ◌-◌, ◌≤◌}
use native.Mathlib.Omega.{arith}
use mathlib.Core.List.{List, ◌++◌}
use lib.ListN.{length, take, drop, length-append, length-drop}
use lib.Seq.{take_at, length-take-le}
use Rattle.definitions.specs.Problem.Node.{table_bytes}
use Rattle.definitions.specs.Problem.Check.{symbol_count, node_count, symbols_of, nodes_of}
use Rattle.definitions.specs.Problem.Asked.{asked}
use Rattle.definitions.specs.Operations.Buffers.{over}
use Rattle.theorems.proofs.Accepted.{Layout, length_nodes_at}
use Rattle.theorems.proofs.Fits.{length_table_bytes}
use Rattle.theorems.proofs.Asked.Trimmed.{length_trimmed}
use Rattle.theorems.proofs.Asked.Formed.{Named, cut_right, asked_nodes, asked_layout}
use Rattle.problem.specs.Nodes.{front_bytes}
use Rattle.problem.specs.declared.head.Problem.TheInside.{Inside}
use Rattle.problem.specs.Shape.{Shaped}
use Rattle.problem.proofs.Putting.{put_there}
use Rattle.asked.specs.Reached.{reached_of}
use Rattle.asked.specs.Trimming.{front, trim_of}

-- the symbol bytes are as many as the header says
pub symbols_length : {s : List ℕ} → Layout s → length (symbols_of s) ≡ symbol_count s
symbols_length {s} l = length-take-le (symbol_count s) (drop 8 s) (omega (arith, length-drop 8 s, l.whole))

-- the front of the part, with the symbol bytes of the problem
pub front_put : {s : List ℕ} → Layout s → (count : ℕ) (ys room after : List ℕ) → ys ≡ symbols_of s → after ≡ over (front_bytes ys count) room
    → take (8 + symbol_count s) after ≡ front s count
front_put {s} l count ys room after are e =
    ap (take (8 + symbol_count s)) (e ∙ ap (λ (ys : List ℕ). over (front_bytes ys count) room) are)
    ∙ take_at (front s count) (drop (length (front s count)) room) (8 + symbol_count s) (omega (arith, symbols_length l))

-- the front and the nodes after it are the problem asked
module _ {s : List ℕ} {root : ℕ} (ok : Named s root) (count : ℕ) (counts : count ≡ length (reached_of s root)) where
  trim_count : count ≡ length (trim_of s root)
  trim_count = counts ∙ sym (length_trimmed (symbols_of s) (take (suc root) (nodes_of s)) (cut_right s root ok))

  asked_count : length (symbols_of s) ≡ symbol_count (asked s root)
  unfolding asked
  asked_count = refl

  pub asked_shape : (p : Inside) → p.bytes.now ≡ asked s root → p.symbols ≡ symbol_count s → p.nodes ≡ count → Shaped p
  asked_shape p b n m =
      let a = asked s root in
      let l = asked_layout s root ok in
      let ys = symbols_length ok.table in
      let ns : count ≡ node_count a =
      trim_count ∙ sym (ap length (asked_nodes s root ok)) ∙ length_nodes_at a (8 + symbol_count a) (node_count a)
      in
      let es : p.symbols ≡ symbol_count a = n ∙ sym ys ∙ asked_count in
      record {
        symbols_are = es ∙ ap symbol_count (sym b);
        nodes_are = m ∙ ns ∙ ap node_count (sym b);
        few_symbols = (let q = l.few_symbols in omega arith);
        some_nodes = (let q = l.some_nodes in omega arith);
        few_nodes = (let q = l.few_nodes in omega arith);
        whole = omega (arith, ap length b, l.whole, es, m, ns);
      }

  asked_bytes : front s count ++ table_bytes (trim_of s root) ≡ asked s root
  unfolding asked
  asked_bytes = ap (λ (n : ℕ). front s n ++ table_bytes (trim_of s root)) trim_count

  trims : (n : ℕ) → n ≡ symbol_count s → (before ys : List ℕ) → 8 + n ≤ length before → take (8 + n) before ≡ front s count
      → ys ≡ over (table_bytes (trim_of s root)) (mid_of (8 + n) (length before - (8 + n)) before)
      → take (8 + n + 8 * count) (put_mid (8 + n) (length before - (8 + n)) before ys) ≡ asked s root
  trims n is before ys fits f y =
      let at : ℕ = 8 + n in
      let bytes : List ℕ = table_bytes (trim_of s root) in
      let lb = length_table_bytes (trim_of s root) in
      let c = trim_count in
      let la = length-append (take at before) bytes in
      let lt = length-take-le at before fits in
      let long : length (take at before ++ bytes) ≡ at + 8 * count = omega arith in
      ap (take (at + 8 * count)) (put_there before at fits bytes ys y)
      ∙ take_at (take at before ++ bytes) (drop (at + length bytes) before) (at + 8 * count) long
      ∙ ap (λ (xs : List ℕ). xs ++ bytes) f ∙ asked_bytes

  -- in a buffer of a known length
  pub trims_in : (n : ℕ) → n ≡ symbol_count s → (m : ℕ) (before ys : List ℕ) → length before ≡ m → 8 + n ≤ m → take (8 + n) before ≡ front s count
      → ys ≡ over (table_bytes (trim_of s root)) (mid_of (8 + n) (m - (8 + n)) before)
      → take (8 + n + 8 * count) (put_mid (8 + n) (m - (8 + n)) before ys) ≡ asked s root
  trims_in n is m before ys l fits f =
      subst (λ (k : ℕ). ys ≡ over (table_bytes (trim_of s root)) (mid_of (8 + n) (k - (8 + n)) before)
      → take (8 + n + 8 * count) (put_mid (8 + n) (k - (8 + n)) before ys) ≡ asked s root) l
      (trims n is before ys (omega arith) f)

  -- in a room that is long enough, once its front is put
  pub trims_after : (n : ℕ) → n ≡ symbol_count s → (symbols room before ys : List ℕ) → symbols ≡ symbols_of s → before ≡ over (front_bytes symbols count) room
      → length before ≡ length room → 2088 ≤ length room → ys ≡ over (table_bytes (trim_of s root)) (mid_of (8 + n) (length before - (8 + n)) before)
      → take (8 + n + 8 * count) (put_mid (8 + n) (length before - (8 + n)) before ys) ≡ asked s root
  trims_after n is symbols room before ys are put long fits =
      trims_in n is (length before) before ys refl (let few = ok.table.few_symbols in omega arith)
      (ap (λ (k : ℕ). take (8 + k) before) is ∙ front_put ok.table count symbols room before are put)
