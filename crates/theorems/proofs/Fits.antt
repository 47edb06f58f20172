-- Every number fits the field that it is written in, for an accepted problem: the table in the work buffer, the nodes in eight
-- bytes, the rows in the witness (01, 'Elimination' and 'Witness'). Assumes nothing.
use mathlib.Core.Path.{◌≡◌, refl}
use Prim.Native.Nat.{ℕ, zero, suc, pred, ◌+◌, ◌*◌, ◌≤◌, ◌<◌}
use native.Mathlib.Omega.{arith}
use mathlib.Core.Bool.{Bool, true, false, cond, false≢true}
use mathlib.Core.List.{List, [], ◌∷◌, ◌++◌, map, reverse}
use mathlib.Core.Option.{Option, none, some}
use lib.ListN.{length, get_or, take, replicate, length-append, length-map, length-reverse}
use lib.Seq.{length-take-le}
use lib.Dec.{eqb}
use borrow.Author.Tests.{eqb-true}
use Rattle.definitions.specs.Lists.{all, count_from, snoc}
use Rattle.definitions.specs.Problem.Node.{Node, node, node_bytes, table_bytes, grown}
use Rattle.definitions.specs.Problem.Ops.{
  Op,
  apply,
  choose,
  equal,
  negate,
  both,
  either,
  test,
  verum,
  falsum,
  select,
  unknown,
  op_of,
  Sort,
  operand_sorts,
  operands_right,
  fits,
  fields_of,
}
use Rattle.definitions.specs.Problem.Check.{symbol_count, node_count, symbols_of, nodes_of, functions_in, predicates_in}
use Rattle.definitions.specs.Logic.{Interpretation, Value, number_of, number_at, truth_at, op_value, node_value, values}
use Rattle.definitions.specs.Elimination.{eliminated, table_of}
use Rattle.definitions.specs.Ranges.{Variables, how_many, rank, joined, tops, tops_of, sizes_of}
use Rattle.definitions.specs.Places.{assignment, digits_at, values_at}
use Rattle.definitions.specs.Witness.{app_row, rows_at}
use Rattle.theorems.proofs.Laws.Tests.{and_left, and_right}
use Rattle.theorems.proofs.Laws.Ops.{AllBelow, operands_sorted, operands_rest}
use Rattle.theorems.proofs.Tables.Free.{Free, names_of, free_named, free_fits}
use Rattle.theorems.proofs.Elimination.Counts.{all_apps}
use Rattle.theorems.proofs.Elimination.Bound.{table_bound}
use Rattle.theorems.proofs.Search.Places.{Within, after_within}
use Rattle.theorems.proofs.Accepted.{Accepted, length_nodes_at}
use Rattle.theorems.proofs.Truth.{table_free, sizes_positive}

-- the fields of a node fit their bytes
pub record FitsNode (n : Node) : Type 0 where
  pub op_fits : n.op < 256
  pub sym_fits : n.sym < 256
  pub a_fits : n.a < 65536
  pub b_fits : n.b < 65536
  pub c_fits : n.c < 65536

-- a node that fits has one of the ops 0 to 9
pub known_op : (op : ℕ) (earlier : List Node) (ks : List ℕ) → fits earlier (operand_sorts (op_of op) 0) ks ≡ true → op < 10
known_op zero earlier ks e = omega arith
known_op (suc zero) earlier ks e = omega arith
known_op (suc (suc zero)) earlier ks e = omega arith
known_op (suc (suc (suc zero))) earlier ks e = omega arith
known_op (suc (suc (suc (suc zero)))) earlier ks e = omega arith
known_op (suc (suc (suc (suc (suc zero))))) earlier ks e = omega arith
known_op (suc (suc (suc (suc (suc (suc zero)))))) earlier ks e = omega arith
known_op (suc (suc (suc (suc (suc (suc (suc zero))))))) earlier ks e = omega arith
known_op (suc (suc (suc (suc (suc (suc (suc (suc zero)))))))) earlier ks e = omega arith
known_op (suc (suc (suc (suc (suc (suc (suc (suc (suc zero))))))))) earlier ks e = omega arith
known_op (suc (suc (suc (suc (suc (suc (suc (suc (suc (suc op)))))))))) earlier ks e = absurd (false≢true e)

-- the operand fields are 0 or earlier nodes
zeros_below : (m : ℕ) (ks : List ℕ) → all (eqb 0) ks ≡ true → AllBelow (suc m) ks
zeros_below m [] e = tt
zeros_below m (k ∷ ks) e =
    let z = eqb-true 0 k (and_left (eqb 0 k) (all (eqb 0) ks) e) in
    (omega arith, zeros_below m ks (and_right (eqb 0 k) (all (eqb 0) ks) e))

fields_below : (earlier : List Node) (ss : List Sort) (ks : List ℕ) → operands_right earlier ss ks ≡ true → AllBelow (suc (length earlier)) ks
fields_below earlier [] ks e = zeros_below (length earlier) ks e
fields_below earlier (s ∷ ss) [] e = tt
fields_below earlier (s ∷ ss) (k ∷ ks) e =
    let h = (operands_sorted earlier (s ∷ ss) (k ∷ ks) e).0 in
    (omega arith, fields_below earlier ss ks (operands_rest earlier s ss k ks e))

fits_fields : (earlier : List Node) (o : Option (List Sort)) (ks : List ℕ) → fits earlier o ks ≡ true → AllBelow (suc (length earlier)) ks
fits_fields earlier none ks e = absurd (false≢true e)
fits_fields earlier (some ss) ks e = fields_below earlier ss ks e

names_few : (N P M : ℕ) → N ≤ M → P ≤ M → 1 ≤ M → (o : Op) → names_of N P o ≤ M
names_few N P M n p h apply = n
names_few N P M n p h choose = h
names_few N P M n p h equal = h
names_few N P M n p h negate = h
names_few N P M n p h both = h
names_few N P M n p h either = h
names_few N P M n p h test = p
names_few N P M n p h verum = h
names_few N P M n p h falsum = h
names_few N P M n p h select = h
names_few N P M n p h unknown = h

-- a function-free table that is not too long has nodes that fit
free_fits_bytes : (N P : ℕ) (t : List Node) → Free N P t → N ≤ 24 → P ≤ 24 → length t ≤ 2632 → (k : ℕ) → k < length t → FitsNode (node t k)
free_fits_bytes N P t free hn hp l k h =
    let n = node t k in
    let f = free_fits N P t free k h in
    let op = known_op n.op (take k t) (fields_of n) f in
    let sym = free_named N P t free k h in
    let few = names_few N P 24 hn hp (omega arith) (op_of n.op) in
    let b = fits_fields (take k t) (operand_sorts (op_of n.op) 0) (fields_of n) f in
    let e = length-take-le k t (omega arith) in
    record { op_fits = omega arith; sym_fits = omega arith; a_fits = omega arith; b_fits = omega arith; c_fits = omega arith }

pub length_table_bytes : (t : List Node) → length (table_bytes t) ≡ 8 * length t
length_table_bytes [] = refl
length_table_bytes (n ∷ t) = let e = length_table_bytes t in omega (arith, length-append (node_bytes n) (table_bytes t))

-- the numbers of a table are at most as great as those of its variables
module _ (A : Interpretation) (M : ℕ) (small : (v : ℕ) (xs : List ℕ) → A.function v xs ≤ M) where
  abbrev AllSmall : List Value → Type 0
  AllSmall [] = Unit {0}
  AllSmall (v ∷ vs) = (number_of v ≤ M) × AllSmall vs

  small_at : (vs : List Value) (k : ℕ) → AllSmall vs → number_at vs k ≤ M
  small_at [] k a = omega arith
  small_at (v ∷ vs) zero a = a.0
  small_at (v ∷ vs) (suc k) a = small_at vs k a.1

  small_choice : (b : Bool) (x y : ℕ) → x ≤ M → y ≤ M → cond b x y ≤ M
  small_choice true x y h l = h
  small_choice false x y h l = l

  small_op : (vs : List Value) → AllSmall vs → (o : Op) (n : Node) (xs : List ℕ) → number_of (op_value A vs o n xs) ≤ M
  small_op vs a apply n xs = small n.sym xs
  small_op vs a choose n xs =
      small_choice (truth_at vs n.a) (number_at vs n.b) (number_at vs n.c) (small_at vs n.b a) (small_at vs n.c a)
  small_op vs a equal n xs = omega arith
  small_op vs a negate n xs = omega arith
  small_op vs a both n xs = omega arith
  small_op vs a either n xs = omega arith
  small_op vs a test n xs = omega arith
  small_op vs a verum n xs = omega arith
  small_op vs a falsum n xs = omega arith
  small_op vs a select n xs = omega arith
  small_op vs a unknown n xs = omega arith

  small_snoc : (vs : List Value) (v : Value) → AllSmall vs → number_of v ≤ M → AllSmall (snoc vs v)
  small_snoc [] v a h = (h, tt)
  small_snoc (w ∷ vs) v a h = (a.0, small_snoc vs v a.1 h)

  small_grown : (t : List Node) (vs : List Value) → AllSmall vs → AllSmall (grown (node_value A []) vs t)
  small_grown [] vs a = a
  small_grown (n ∷ t) vs a =
      small_grown t (snoc vs (node_value A [] vs n)) (small_snoc vs (node_value A [] vs n) a (small_op vs a (op_of n.op) n _))

  pub small_values : (t : List Node) (k : ℕ) → number_at (values A [] t) k ≤ M
  small_values t k = small_at (values A [] t) k (small_grown t [] tt)

pub how_many_le : (f : Variables) (n : ℕ) → how_many f n ≤ n
how_many_le f zero = omega arith
how_many_le f (suc n) = go (f n) (how_many_le f n)
  where
    go : (b : Bool) → how_many f n ≤ n → cond b 1 0 + how_many f n ≤ suc n
    go true h = omega arith
    go false h = omega arith

-- digits in ranges of at most M values are below M
abbrev AllAtMost : ℕ → List ℕ → Type 0
AllAtMost M [] = Unit {0}
AllAtMost M (x ∷ xs) = (x ≤ M) × AllAtMost M xs

digit_small : (M : ℕ) → 1 ≤ M → (sizes ds : List ℕ) → AllAtMost M sizes → Within sizes ds → (v : ℕ) → get_or ds v 0 < M
digit_small M h [] [] a w v = h
digit_small M h [] (d ∷ ds) a w v = absurd w
digit_small M h (s ∷ ss) [] a w v = absurd w
digit_small M h (s ∷ ss) (d ∷ ds) a w zero = let x = a.0 in let y = w.0 in omega arith
digit_small M h (s ∷ ss) (d ∷ ds) a w (suc v) = digit_small M h ss ds a.1 w.1 v

at_most_append : (M : ℕ) (xs ys : List ℕ) → AllAtMost M xs → AllAtMost M ys → AllAtMost M (xs ++ ys)
at_most_append M [] ys a b = b
at_most_append M (x ∷ xs) ys a b = (a.0, at_most_append M xs ys a.1 b)

ranks_at_most : (J : ℕ → ℕ → Bool) (M m n : ℕ) → m + n ≤ M → AllAtMost M (map (rank J) (count_from m n))
ranks_at_most J M m zero h = tt
ranks_at_most J M m (suc n) h = (let l = how_many_le (J m) m in omega arith, ranks_at_most J M (suc m) n (omega arith))

truths_at_most : (M n : ℕ) → 2 ≤ M → AllAtMost M (replicate n 2)
truths_at_most M zero h = tt
truths_at_most M (suc n) h = (h, truths_at_most M n h)

module _ (s : List ℕ) (ok : Accepted s) where
  nodes_few : length (nodes_of s) ≤ 256
  nodes_few = let e = length_nodes_at s (8 + symbol_count s) (node_count s) in let h = ok.layout.few_nodes in omega arith

  -- at most 2,632 nodes result
  pub table_short : length (table_of s) ≤ 2632
  unfolding eliminated
  table_short = table_bound (symbols_of s) (nodes_of s) nodes_few ok.few_functions ok.few_predicates

  -- so the table's bytes fit a work buffer that is taken
  pub table_bytes_short : length (table_bytes (table_of s)) ≤ 21056
  table_bytes_short = let e = length_table_bytes (table_of s) in let h = table_short in omega arith

  pub table_fits : (k : ℕ) → k < length (table_of s) → FitsNode (node (table_of s) k)
  table_fits k h =
      free_fits_bytes (functions_in (nodes_of s)) (predicates_in (nodes_of s)) (table_of s) (table_free s ok) ok.few_functions
      (let p = ok.few_predicates in omega arith) table_short k h

  -- no variable's range has more than 24 values
  pub digits_few : (p v : ℕ) → get_or (digits_at (sizes_of s) p) v 0 < 24
  unfolding sizes_of tops_of tops
  digits_few p v =
      let N = functions_in (nodes_of s) in
      let P = predicates_in (nodes_of s) in
      let few = ok.few_functions in
      digit_small 24 (omega arith) (sizes_of s) (digits_at (sizes_of s) p)
      (at_most_append 24 (tops_of s) (replicate P 2) (ranks_at_most (joined (table_of s) N) 24 0 N (omega arith))
      (truths_at_most 24 P (omega arith)))
      (after_within (sizes_of s) (sizes_positive s) (pred p)) v

  -- the values that rows list are at most 24
  pub values_few : (p k : ℕ) → number_at (values_at s p) k ≤ 24
  unfolding values_at
  values_few p k =
      small_values (assignment (functions_in (nodes_of s)) (digits_at (sizes_of s) p)) 24 (λ v xs. digits_few p v) (table_of s) k

  -- at most 40 rows
  pub rows_few : (p : ℕ) → length (rows_at s p) ≤ 40
  unfolding rows_at eliminated
  rows_few p =
      let apps = (eliminated s).apps in
      let row = app_row (symbols_of s) (eliminated s).images (values_at s p) in
      let f = ok.few_functions in
      let g = ok.few_predicates in
      omega (arith, all_apps (symbols_of s) (nodes_of s), length-reverse apps, length-map (reverse apps) row)
