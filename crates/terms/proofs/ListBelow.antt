-- Every number that a row keeps is that of a node of the table, and operands come earlier, from one argument to the next; so one more
-- argument may be laid. Where too many negations of => wait for it, the table is too long in the end. Assumes nothing.
use mathlib.Core.Path.{◌≡◌, refl, ap}
use Prim.Native.Nat.{ℕ, zero, suc, ◌≤◌, ◌<◌}
use native.Mathlib.Omega.{arith}
use mathlib.Core.List.{List, [], ◌∷◌, ◌++◌}
use lib.ListN.{length}
use Rattle.definitions.specs.Lists.{snoc}
use Rattle.definitions.specs.Problem.Node.{Node, plain}
use Rattle.definitions.specs.Problem.Ops.{operands_of}
use Rattle.definitions.specs.Text.Grammar.{
  Head,
  declared,
  ite,
  equals,
  negation,
  conjunction,
  disjunction,
  implication,
  verum,
  falsum,
}
use Rattle.definitions.specs.Text.Nodes.{Tree, head_tree, Laid, laid, ask, lay}
use Rattle.terms.specs.Lists.{
  Row,
  Kept,
  kept,
  no_row,
  negated,
  prepared,
  first_or,
  second_or,
  third_or,
  counted,
  joined_by,
  equated,
  joins,
  added,
  argument,
  arguments,
  awaiting,
}
use Rattle.theorems.specs.Origins.{NoTwins}
use Rattle.theorems.proofs.Laws.Ops.{AllBelow}
use Rattle.theorems.proofs.Text.Meant.Shared.{Earlier, ask_given, ask_earlier}
use Rattle.theorems.proofs.Text.Meant.Laying.{Present, AllPresent, Full, AllFull, lay_right}
use Rattle.theorems.proofs.Text.Meant.Again.{lay_extends}
use Rattle.terms.proofs.ListSteps.{grows_length, ask_grows, prepared_twins, arguments_twins, seen_all, negated_later, pending_all}
use Rattle.terms.proofs.ListLaws.{arguments_append, too_pending}

-- the numbers that are in use are below m
pub record RowBelow (m : ℕ) (row : Row) : Type 0 where
  pub first_below : 1 ≤ row.seen → row.first < m
  pub second_below : 2 ≤ row.seen → row.second < m
  pub third_below : 3 ≤ row.seen → row.third < m
  pub last_below : 1 ≤ row.seen → row.last < m
  pub joined_below : 1 ≤ row.seen → row.joined < m
  pub pending_below : AllBelow m row.pending

all_higher : (m n : ℕ) → m ≤ n → (ks : List ℕ) → AllBelow m ks → AllBelow n ks
all_higher m n l [] b = tt
all_higher m n l (k ∷ ks) b = let h = b.0 in (omega arith, all_higher m n l ks b.1)

row_higher : (m n : ℕ) → m ≤ n → (row : Row) → RowBelow m row → RowBelow n row
row_higher m n l row b =
    record {
      first_below = λ s. (let h = b.first_below s in omega arith);
      second_below = λ s. (let h = b.second_below s in omega arith);
      third_below = λ s. (let h = b.third_below s in omega arith);
      last_below = λ s. (let h = b.last_below s in omega arith);
      joined_below = λ s. (let h = b.joined_below s in omega arith);
      pending_below = all_higher m n l row.pending b.pending_below;
    }

-- one more takes its place
first_or_lem : (m n k other : ℕ) → k < m → (1 ≤ n → other < m) → first_or n k other < m
first_or_lem m zero k other h f = h
first_or_lem m (suc n) k other h f = f (omega arith)

second_or_lem : (m n k other : ℕ) → k < m → (2 ≤ n → other < m) → 1 ≤ n → second_or n k other < m
second_or_lem m zero k other h f l = absurd (omega arith)
second_or_lem m (suc n) k other h f l = first_or_lem m n k other h (λ g. f (omega arith))

third_or_lem : (m n k other : ℕ) → k < m → (3 ≤ n → other < m) → 2 ≤ n → third_or n k other < m
third_or_lem m zero k other h f l = absurd (omega arith)
third_or_lem m (suc n) k other h f l = second_or_lem m n k other h (λ g. f (omega arith)) (omega arith)

counted_below : (row : Row) (k : ℕ) (l : Laid) → RowBelow (length l.table) row → k < length l.table → l.number < length l.table
    → RowBelow (length l.table) (counted row k l).row
counted_below row k l b h i =
    let m = length l.table in
    record {
      first_below = λ s. first_or_lem m row.seen k row.first h b.first_below;
      second_below = λ s. second_or_lem m row.seen k row.second h b.second_below (omega arith);
      third_below = λ s. third_or_lem m row.seen k row.third h b.third_below (omega arith);
      last_below = λ s. h;
      joined_below = λ s. i;
      pending_below = b.pending_below;
    }

module _ (symbols : List ℕ) where
  -- a row, with the table that its numbers are of
  record KeptBelow (k : Kept) : Type 0 where
    earlier : Earlier symbols k.table
    below : RowBelow (length k.table) k.row

  -- a node of a table that has grown from t
  record LaidBelow (t : List Node) (l : Laid) : Type 0 where
    earlier : Earlier symbols l.table
    inside : l.number < length l.table
    longer : length t ≤ length l.table

  ask_below : (n : Node) (t : List Node) → Earlier symbols t → AllBelow (length t) (operands_of symbols n) → LaidBelow t (ask n t)
  ask_below n t e b =
      record { earlier = ask_earlier symbols n t e b; inside = (ask_given n t).inside; longer = grows_length t (ask n t).table (ask_grows n t) }

  lay_below : (x : Tree) (t : List Node) → Full symbols x → Present x → Earlier symbols t → LaidBelow t (lay x t)
  lay_below x t f p e =
      let r = lay_right symbols x t f e in
      record { earlier = r.earlier; inside = r.inside p; longer = grows_length t (lay x t).table (lay_extends x t) }

  prepared_below : (h : Head) (row : Row) (t : List Node) → KeptBelow (kept row t) → KeptBelow (prepared h row t)
  prepared_below (declared s k) row t b = b
  prepared_below (ite s) row t b = b
  prepared_below equals row t b = b
  prepared_below negation row t b = b
  prepared_below conjunction row t b = b
  prepared_below disjunction row t b = b
  prepared_below implication row t b = by row.seen refl
    where
      by : (n : ℕ) → row.seen ≡ n → KeptBelow (negated n row t)
      by zero e = b
      by (suc n) e =
          let a = ask_below (plain 3 row.last 0 0) t b.earlier (b.below.last_below (omega arith), tt) in
          let c = row_higher _ _ a.longer row b.below in
          record {
            earlier = a.earlier;
            below =
                record {
                  first_below = c.first_below;
                  second_below = c.second_below;
                  third_below = c.third_below;
                  last_below = c.last_below;
                  joined_below = c.joined_below;
                  pending_below = (a.inside, c.pending_below);
                };
          }
  prepared_below verum row t b = b
  prepared_below falsum row t b = b

  joins_below : (h : Head) (row : Row) (k : ℕ) (t : List Node) → KeptBelow (kept row t) → k < length t → LaidBelow t (joins h row k t)
  joins_below h row k t b l = go h
    where
      same : LaidBelow t (laid k t)
      same = record { earlier = b.earlier; inside = l; longer = omega arith }

      equate : (n : ℕ) → row.seen ≡ n → LaidBelow t (equated n row k t)
      equate zero e = same
      equate (suc zero) e = ask_below (plain 2 row.last k 0) t b.earlier (b.below.last_below (omega arith), (l, tt))
      equate (suc (suc n)) e =
          let i = b.below.joined_below (omega arith) in
          let q = ask_below (plain 2 row.last k 0) t b.earlier (b.below.last_below (omega arith), (l, tt)) in
          let d = ask (plain 2 row.last k 0) t in
          let g = q.longer in
          let r = ask_below (plain 4 row.joined d.number 0) d.table q.earlier (omega arith, (q.inside, tt)) in
          let f = r.longer in
          record { earlier = r.earlier; inside = r.inside; longer = omega arith }

      join : (op : ℕ) → ((i j : ℕ) → operands_of symbols (plain op i j 0) ≡ i ∷ j ∷ []) → (n : ℕ) → row.seen ≡ n → LaidBelow t (joined_by op n row k t)
      join op two zero e = same
      join op two (suc n) e = ask_below (plain op row.joined k 0) t b.earlier (rw two (b.below.joined_below (omega arith), (l, tt)))

      go : (h : Head) → LaidBelow t (joins h row k t)
      go (declared s i) = same
      go (ite s) = same
      go equals = equate row.seen refl
      go negation = same
      go conjunction = join 4 (λ i j. refl) row.seen refl
      go disjunction = join 5 (λ i j. refl) row.seen refl
      go implication = same
      go verum = same
      go falsum = same

  added_below : (h : Head) (row : Row) (k : ℕ) (t : List Node) → KeptBelow (kept row t) → k < length t → KeptBelow (added h row k t)
  added_below h row k t b l =
      let j = joins_below h row k t b l in
      let g = j.longer in
      record {
        earlier = j.earlier;
        below = counted_below row k (joins h row k t) (row_higher _ _ g row b.below) (omega arith) j.inside;
      }

  argument_below : (h : Head) (x : Tree) (k : Kept) → Full symbols x → Present x → KeptBelow k → KeptBelow (argument h x k)
  argument_below h x k f p b =
      let q = prepared h k.row k.table in
      let c = prepared_below h k.row k.table b in
      let l = lay_below x q.table f p c.earlier in
      added_below h q.row (lay x q.table).number (lay x q.table).table
      (record { earlier = l.earlier; below = row_higher _ _ l.longer q.row c.below }) l.inside

  all_below : (h : Head) (xs : List Tree) (k : Kept) → AllFull symbols xs → AllPresent xs → KeptBelow k → KeptBelow (arguments h xs k)
  all_below h [] k f p b = b
  all_below h (x ∷ xs) k f p b = all_below h xs (argument h x k) f.1 p.1 (argument_below h x k f.0 p.0 b)

pub arguments_snoc : (h : Head) (xs : List Tree) (x : Tree) (t : List Node)
    → arguments h (snoc xs x) (kept no_row t)
    ≡ (let p = awaiting h xs t in let l = lay x p.table in added h p.row l.number l.table)
arguments_snoc h xs x t = arguments_append h xs (x ∷ []) (kept no_row t)

pub awaiting_twins : (h : Head) (xs : List Tree) (t : List Node) → NoTwins t → NoTwins (awaiting h xs t).table
awaiting_twins h xs t twins =
    let k = arguments h xs (kept no_row t) in prepared_twins h k.row k.table (arguments_twins h xs (kept no_row t) twins)

-- a list's step whole: what the call that reads one more argument may assume of the table, and what that argument adds
pub record ListStep (symbols : List ℕ) (h : Head) (xs : List Tree) (t : List Node) : Type 0 where
  pub twins : NoTwins (awaiting h xs t).table
  pub earlier : Earlier symbols (awaiting h xs t).table
  pub adds : (x : Tree) → arguments h (snoc xs x) (kept no_row t)
      ≡ (let p = awaiting h xs t in let l = lay x p.table in added h p.row l.number l.table)

module _ (symbols : List ℕ) (h : Head) (xs : List Tree) (t : List Node) (earlier : Earlier symbols t) (full : AllFull symbols xs) (present : AllPresent xs) where
  so_far : KeptBelow symbols (arguments h xs (kept no_row t))
  so_far =
      all_below symbols h xs (kept no_row t) full present
      (record {
        earlier = earlier;
        below =
            record {
              first_below = λ s. absurd (omega arith);
              second_below = λ s. absurd (omega arith);
              third_below = λ s. absurd (omega arith);
              last_below = λ s. absurd (omega arith);
              joined_below = λ s. absurd (omega arith);
              pending_below = tt;
            };
      })

  pub arguments_earlier : Earlier symbols (arguments h xs (kept no_row t)).table
  arguments_earlier = so_far.earlier

  pub arguments_below : (let k = arguments h xs (kept no_row t) in RowBelow (length k.table) k.row)
  arguments_below = so_far.below

  pub prepared_earlier : Earlier symbols (awaiting h xs t).table
  prepared_earlier = let k = arguments h xs (kept no_row t) in (prepared_below symbols h k.row k.table so_far).earlier

  pub argument_earlier : (x : Tree) → Full symbols x → Earlier symbols (lay x (awaiting h xs t).table).table
  argument_earlier x f = (lay_right symbols x (awaiting h xs t).table f prepared_earlier).earlier

  pub list_step : NoTwins t → ListStep symbols h xs t
  list_step twins = record { twins = awaiting_twins h xs t twins; earlier = prepared_earlier; adds = λ x. arguments_snoc h xs x t }

-- the negations of => that wait when one more argument comes are as many as the arguments; with other heads none waits
pub awaiting_pending : (xs : List Tree) (t : List Node) → length (awaiting implication xs t).row.pending ≡ length xs
awaiting_pending [] t = refl
awaiting_pending (x ∷ xs) t =
    let k = arguments implication (x ∷ xs) (kept no_row t) in
    let e = pending_all implication (x ∷ xs) t in
    let p = ap (λ (p : Kept). length p.row.pending) (negated_later (length xs) k.row k.table (seen_all implication (x ∷ xs) t)) in
    omega arith

pub too_waiting : (symbols : List ℕ) (h : Head) (xs us : List Tree) (t : List Node) → Full symbols (head_tree h (xs ++ us)) → Earlier symbols t
    → 256 < length (awaiting h xs t).row.pending → 256 < length (lay (head_tree h (xs ++ us)) t).table
too_waiting symbols (declared s k) xs us t f earlier l = let e = pending_all (declared s k) xs t in absurd (omega arith)
too_waiting symbols (ite s) xs us t f earlier l = let e = pending_all (ite s) xs t in absurd (omega arith)
too_waiting symbols equals xs us t f earlier l = let e = pending_all equals xs t in absurd (omega arith)
too_waiting symbols negation xs us t f earlier l = let e = pending_all negation xs t in absurd (omega arith)
too_waiting symbols conjunction xs us t f earlier l = let e = pending_all conjunction xs t in absurd (omega arith)
too_waiting symbols disjunction xs us t f earlier l = let e = pending_all disjunction xs t in absurd (omega arith)
too_waiting symbols implication xs us t f earlier l =
    let e = awaiting_pending xs t in too_pending symbols xs us t (omega arith) f earlier
too_waiting symbols verum xs us t f earlier l = let e = pending_all verum xs t in absurd (omega arith)
too_waiting symbols falsum xs us t f earlier l = let e = pending_all falsum xs t in absurd (omega arith)
