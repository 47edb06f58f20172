-- Witness bytes give back the rows that they list, whatever stands after them. Assumes nothing.
use mathlib.Core.Path.{◌≡◌, refl, sym, ap, ap₂, ◌∙◌, subst}
use Prim.Native.Nat.{ℕ, suc, ◌+◌, ◌*◌}
use native.Mathlib.Omega.{arith}
use mathlib.Core.List.{List, [], ◌∷◌, ◌++◌, map, append_assoc}
use lib.ListN.{length, length-append}
use lib.Seq.{get_or-append-add}
use Rattle.definitions.specs.Lists.{concat_map, count_from}
use Rattle.definitions.specs.Bytes.{EQW, two, byte_at}
use Rattle.definitions.specs.Witness.{Row, row_bytes, witness_bytes, row_at, rows_in, tables, tables_of}

-- the row whose five bytes stand after some bytes is read there
row_back : (pre : List ℕ) (r : Row) (rest : List ℕ) (i : ℕ) → length pre ≡ i
    → row_at (pre ++ (row_bytes r ++ rest)) i ≡ r
row_back pre r rest i l =
    λ t.
    record {
      symbol = at 0 i (omega arith) t;
      x = at 1 (i + 1) (omega arith) t;
      y = at 2 (i + 2) (omega arith) t;
      z = at 3 (i + 3) (omega arith) t;
      value = at 4 (i + 4) (omega arith) t;
    }
  where
    at : (n k : ℕ) → length pre + n ≡ k → byte_at (pre ++ (row_bytes r ++ rest)) k ≡ byte_at (row_bytes r ++ rest) n
    at n k e =
        ap (byte_at (pre ++ (row_bytes r ++ rest))) (sym e) ∙ get_or-append-add pre (row_bytes r ++ rest) n 0

-- the rows from row k on, read after the bytes before them
rows_from : (rows : List Row) (pre rest : List ℕ) (k : ℕ) → length pre ≡ 6 + 5 * k
    → map (λ i. row_at (pre ++ (concat_map row_bytes rows ++ rest)) (6 + 5 * i)) (count_from k (length rows)) ≡ rows
rows_from [] pre rest k l = refl
rows_from (r ∷ rows) pre rest k l =
    let after = concat_map row_bytes rows ++ rest in
    let more = length-append pre (row_bytes r) in
    ap₂ {C = List Row} (λ s ss. s ∷ ss) (row_back pre r after (6 + 5 * k) l)
    (subst (λ (w : List ℕ). map (λ i. row_at w (6 + 5 * i)) (count_from (suc k) (length rows)) ≡ rows)
    (append_assoc pre (row_bytes r) after) (rows_from rows (pre ++ row_bytes r) rest (suc k) (omega arith)))

pub rows_back : (rows : List Row) (rest : List ℕ) → rows_in (witness_bytes rows ++ rest) ≡ rows
rows_back rows rest = rows_from rows (EQW ++ two 1 ++ (length rows ∷ [])) rest 0 refl

rows_length : (rows : List Row) → length (concat_map row_bytes rows) ≡ 5 * length rows
rows_length [] = refl
rows_length (r ∷ rows) = let e = rows_length rows in omega arith

pub witness_length : (rows : List Row) → length (witness_bytes rows) ≡ 6 + 5 * length rows
witness_length rows = let e = rows_length rows in omega arith

pub tables_back : (rows : List Row) (rest : List ℕ) → tables_of (witness_bytes rows ++ rest) ≡ tables rows
unfolding tables_of
tables_back rows rest = ap tables (rows_back rows rest)
