-- A problem that passes 1 to 7 is the bytes of its symbols and nodes (02, E2), so a job whose root is its last node and reaches every node is
-- its own problem asked, byte for byte: the night run's answers to such jobs do not change. Assumes nothing.
use mathlib.Core.Path.{◌≡◌, refl, sym, ap, ap₂, ◌∙◌, subst}
use Prim.Native.Nat.{ℕ, zero, suc, ◌+◌, ◌*◌, ◌/◌, ◌%◌, ◌-◌, ◌<◌, ◌≤◌}
use native.Mathlib.Omega.{arith}
use mathlib.Core.Bool.{true, ◌&&◌}
use mathlib.Core.List.{List, ◌∷◌, ◌++◌}
use lib.ListN.{length, get_or, take, drop, length-drop, take-append-drop, drop_of_length-le}
use lib.Seq.{drop-cons, drop-drop, length-take-le}
use lib.Dec.{eqb}
use borrow.Author.Tests.{eqb-true}
use Rattle.definitions.specs.Bytes.{byte_at, two_at}
use Rattle.definitions.specs.Problem.Node.{nodes_at, table_bytes}
use Rattle.definitions.specs.Problem.Check.{symbol_count, node_count, symbols_of, nodes_of}
use Rattle.theorems.proofs.Laws.Tests.{and_left, and_right}
use Rattle.theorems.proofs.Accepted.{length_nodes_at, Layout}
use Rattle.definitions.specs.Problem.Node.{problem_bytes}
use Rattle.definitions.specs.Problem.Asked.{trimmed, asked}
use Rattle.theorems.proofs.Asked.Trimmed.{AllUsed}
use Rattle.theorems.proofs.Asked.Formed.{Named}
use Rattle.theorems.proofs.Asked.Whole.{trimmed_whole}
use lib.Seq.{take_all}

abbrev pub AllBytes : List ℕ → Type 0
AllBytes s = (i : ℕ) → get_or s i 0 < 256

pair : {x y : ℕ} {xs ys : List ℕ} → x ≡ y → xs ≡ ys → x ∷ xs ≡ y ∷ ys
pair p q = ap₂ {C = List ℕ} (λ z zs. z ∷ zs) p q

module _ (s : List ℕ) (bytes : AllBytes s) where
  low_back : (i : ℕ) → two_at s i % 256 ≡ byte_at s i
  low_back i = let x = bytes i in let y = bytes (i + 1) in omega arith

  high_back : (i : ℕ) → two_at s i / 256 % 256 ≡ byte_at s (i + 1)
  high_back i = let x = bytes i in let y = bytes (i + 1) in omega arith

  cons_to : (i j : ℕ) → j ≡ suc i → i < length s → drop i s ≡ byte_at s i ∷ drop j s
  cons_to i j e h = drop-cons s i 0 h ∙ ap (λ (k : ℕ). byte_at s i ∷ drop k s) (sym e)

  -- the nodes' bytes are what stands there
  table_same : (n i : ℕ) → length s ≡ i + 8 * n → table_bytes (nodes_at s i n) ≡ drop i s
  table_same zero i e = sym (drop_of_length-le s (let h : length s ≤ i = omega arith in h))
  table_same (suc n) i e =
      pair refl (pair refl (pair (low_back (i + 2)) (pair (high_back (i + 2)) (pair (low_back (i + 4)) (pair (high_back (i + 4)) (pair (low_back (i + 6)) (pair (high_back (i + 6)) (table_same n (i + 8) (omega arith)))))))))
      ∙ sym
      (cons_to i (i + 1) (omega arith) (omega arith)
      ∙ pair refl (cons_to (i + 1) (i + 2) (omega arith) (omega arith)
      ∙ pair refl (cons_to (i + 2) (i + 2 + 1) (omega arith) (omega arith)
      ∙ pair refl (cons_to (i + 2 + 1) (i + 4) (omega arith) (omega arith)
      ∙ pair refl (cons_to (i + 4) (i + 4 + 1) (omega arith) (omega arith)
      ∙ pair refl (cons_to (i + 4 + 1) (i + 6) (omega arith) (omega arith)
      ∙ pair refl (cons_to (i + 6) (i + 6 + 1) (omega arith) (omega arith)
      ∙ pair refl (cons_to (i + 6 + 1) (i + 8) (omega arith) (omega arith)))))))))

  -- the whole problem
  pub bytes_same : Layout s → problem_bytes (symbols_of s) (nodes_of s) ≡ s
  bytes_same ok =
      let h = ok.header in
      let w = ok.whole in
      let v = ok.version in
      let d = length-drop 8 s in
      let ls : length (symbols_of s) ≡ symbol_count s = length-take-le (symbol_count s) (drop 8 s) (omega arith) in
      let ln : length (nodes_of s) ≡ node_count s = length_nodes_at s (8 + symbol_count s) (node_count s) in
      let e0 = and_left (eqb (byte_at s 0) 69) (eqb (byte_at s 1) 81 && (eqb (byte_at s 2) 80 && true)) ok.letters in
      let r0 = and_right (eqb (byte_at s 0) 69) (eqb (byte_at s 1) 81 && (eqb (byte_at s 2) 80 && true)) ok.letters in
      let e1 = and_left (eqb (byte_at s 1) 81) (eqb (byte_at s 2) 80 && true) r0 in
      let e2 = and_left (eqb (byte_at s 2) 80) true (and_right (eqb (byte_at s 1) 81) (eqb (byte_at s 2) 80 && true) r0) in
      let rest : symbols_of s ++ table_bytes (nodes_of s) ≡ drop 8 s =
      ap (λ (l : List ℕ). symbols_of s ++ l)
      (table_same (node_count s) (8 + symbol_count s) (omega arith) ∙ sym (drop-drop (symbol_count s) 8 s))
      ∙ take-append-drop (symbol_count s) (drop 8 s)
      in
      let b3 : 1 ≡ byte_at s 3 = (let x = bytes 3 in let y = bytes 4 in omega arith) in
      let b4 : 0 ≡ byte_at s 4 = (let x = bytes 3 in let y = bytes 4 in omega arith) in
      pair (sym (eqb-true (byte_at s 0) 69 e0)) (pair (sym (eqb-true (byte_at s 1) 81 e1)) (pair (sym (eqb-true (byte_at s 2) 80 e2))
      (pair b3 (pair b4 (pair ls
      (pair (ap (λ (m : ℕ). m % 256) ln ∙ low_back 6) (pair (ap (λ (m : ℕ). m / 256 % 256) ln ∙ high_back 6) rest)))))))
      ∙ sym
      (cons_to 0 1 refl (omega arith)
      ∙ pair refl (cons_to 1 2 refl (omega arith)
      ∙ pair refl (cons_to 2 3 refl (omega arith)
      ∙ pair refl (cons_to 3 4 refl (omega arith)
      ∙ pair refl (cons_to 4 5 refl (omega arith)
      ∙ pair refl (cons_to 5 6 refl (omega arith)
      ∙ pair refl (cons_to 6 7 refl (omega arith)
      ∙ pair refl (cons_to 7 8 refl (omega arith)))))))))

  pub asked_same : (root : ℕ) → Named s root → length (nodes_of s) ≡ suc root → AllUsed (symbols_of s) (nodes_of s) root → asked s root ≡ s
  unfolding asked
  asked_same root ok ends used =
      let cut : take (suc root) (nodes_of s) ≡ nodes_of s = take_all (suc root) (nodes_of s) (omega arith) in
      let q : root ≡ length (nodes_of s) - 1 = omega arith in
      ap (problem_bytes (symbols_of s))
      (ap (trimmed (symbols_of s)) cut
      ∙ trimmed_whole (symbols_of s) (nodes_of s) ok.table.nodes_right (omega arith) (subst (AllUsed (symbols_of s) (nodes_of s)) q used))
      ∙ bytes_same ok.table
