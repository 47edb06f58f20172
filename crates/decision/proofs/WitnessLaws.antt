-- The witness grows by one row at a time, and is whole after the last. Assumes nothing.
use mathlib.Core.Path.{◌≡◌, sym, ap, ap₂, ◌∙◌}
use Prim.Native.Nat.{ℕ, ◌+◌, ◌-◌, ◌*◌, ◌≤◌, ◌<◌}
use native.Mathlib.Omega.{arith}
use native.Mathlib.Numerals.{add-one}
use mathlib.Core.List.{List, [], ◌∷◌, ◌++◌, reverse, append-nil, append_assoc}
use lib.ListN.{length, get_or, take, length-append, length-map, length-reverse}
use lib.Seq.{take-suc, take_all, length-take-le}
use Rattle.definitions.specs.Lists.{concat_map}
use Rattle.definitions.specs.Problem.Check.{node_count, symbols_of}
use Rattle.definitions.specs.Elimination.{State, eliminated}
use Rattle.definitions.specs.Places.{values_at}
use Rattle.definitions.specs.Witness.{Row, row_bytes, app_row, rows_at, witness_at}
use Rattle.definitions.specs.Operations.Buffers.{over}
use Rattle.theorems.proofs.Accepted.{Accepted}
use Rattle.theorems.proofs.Witness.ReadBack.{witness_length}
use borrow.Rule.Slice.PartMut.{put_mid, mid_of}
use Rattle.problem.proofs.Putting.{put_more}
use Rattle.elimination.proofs.Prefix.{apps_few}
use Rattle.elimination.specs.declared.laid.Laid.{Laid}
use Rattle.problem.proofs.Laying.{concat_map_append}
use Rattle.decision.specs.Rows.{no_row, head_bytes, Noted, ValuesOf, RowOf, WitnessWritten}
use Rattle.decision.proofs.RowLaws.{whole}

-- there are as many rows as distinct applications
pub rows_many : (s : List ℕ) (ok : Accepted s) (l : Laid) → Noted s l → (p : ℕ) → length (rows_at s p) ≡ l.count
unfolding rows_at eliminated
rows_many s ok l laid p =
    let apps = (eliminated s).apps in
    length-map (reverse apps) (app_row (symbols_of s) (eliminated s).images (values_at s p)) ∙ length-reverse apps
    ∙ ap (λ (st : State). length st.apps) (sym (whole s ok)) ∙ sym laid.count_is

pub rows_few : {s : List ℕ} → Accepted s → {l : Laid} → Noted s l → l.count ≤ 40
rows_few {s} ok laid = omega (arith, laid.count_is, apps_few s ok (node_count s) (omega arith))

rows_length : (rows : List Row) → length (concat_map row_bytes rows) ≡ 5 * length rows
rows_length rows =
    omega (arith, witness_length rows, length-append (head_bytes (length rows)) (concat_map row_bytes rows))

-- the head and the first i rows stand, and the rest is as it was
pub record Writing (s vals before : List ℕ) (count : ℕ) (w : List ℕ) (i : ℕ) : Type 0 where
  pub many : (p : ℕ) → length (rows_at s p) ≡ count
  pub inside : i ≤ count
  pub few : count ≤ 40
  pub so_far : (p : ℕ) → ValuesOf s p vals
      → w ≡ over (head_bytes count ++ concat_map row_bytes (take i (rows_at s p))) before

module _ {s vals before : List ℕ} {count : ℕ} where
  pub writing_none : {w : List ℕ} → ((p : ℕ) → length (rows_at s p) ≡ count) → count ≤ 40
      → w ≡ over (head_bytes count) before → Writing s vals before count w 0
  writing_none m f e =
      record {
        many = m;
        inside = omega arith;
        few = f;
        so_far = λ p are. e ∙ ap (λ x. over x before) (sym (append-nil (head_bytes count)));
      }

  module _ {w : List ℕ} {i : ℕ} (z : Writing s vals before count w i) where
    first_rows : (p : ℕ) → length (head_bytes count ++ concat_map row_bytes (take i (rows_at s p))) ≡ 6 + 5 * i
    first_rows p =
        let rows = take i (rows_at s p) in
        let m = z.many p in
        let h = z.inside in
        omega (arith, rows_length rows, length-append (head_bytes count) (concat_map row_bytes rows), length-take-le i (rows_at s p) (omega arith))

    one_row : (p : ℕ) → i < count → concat_map row_bytes (take i (rows_at s p)) ++ row_bytes (get_or (rows_at s p) i no_row) ≡ concat_map row_bytes (take (i + 1) (rows_at s p))
    one_row p h =
        let rows = rows_at s p in
        let m = z.many p in
        sym
        (ap (λ k. concat_map row_bytes (take k rows)) (add-one i)
        ∙ ap (concat_map row_bytes) (take-suc rows i no_row (omega arith))
        ∙ concat_map_append row_bytes (take i rows) (get_or rows i no_row ∷ [])
        ∙ ap (λ (x : List ℕ). concat_map row_bytes (take i rows) ++ x) (append-nil (row_bytes (get_or rows i no_row))))

    -- row i is put at the start of what stands after those before it
    pub writing_more : {row tail w' : List ℕ} → i < count → RowOf s i vals row
        → tail ≡ over row (mid_of (6 + 5 * i) (length w - (6 + 5 * i)) w)
        → w' ≡ put_mid (6 + 5 * i) (length w - (6 + 5 * i)) w tail → Writing s vals before count w' (i + 1)
    writing_more {row} {tail} h r t e =
        record {
          many = z.many;
          inside = omega arith;
          few = z.few;
          so_far =
              λ p are.
              let rows = concat_map row_bytes (take i (rows_at s p)) in
              let head = head_bytes count in
              e
              ∙ put_more w (head ++ rows) before row tail (6 + 5 * i) (first_rows p) (z.so_far p are) t
              ∙ ap (λ x. over x before)
              (append_assoc head rows row ∙ ap (λ x. head ++ (rows ++ x)) (r p are) ∙ ap (λ x. head ++ x) (one_row p h));
        }

    pub writing_done : count ≤ i → WitnessWritten s vals before (6 + 5 * count) w
    unfolding witness_at
    writing_done h p are =
        let rows = rows_at s p in
        let m = z.many p in
        let inside = z.inside in
        let l = witness_length rows in (
          z.so_far p are
              ∙ ap₂ {C = List ℕ} (λ (k : ℕ) (rs : List Row). over (head_bytes k ++ concat_map row_bytes rs) before) (sym m) (take_all i rows (omega arith)),
          omega arith,
        )
