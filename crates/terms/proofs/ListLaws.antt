-- A list laid one argument after the other is what the definition lays in pairs (02, E1: "Write every term in pairs"). So where the
-- table is too long, or too much waits, part of the way, the table is too long in the end. Assumes nothing.
use mathlib.Core.Path.{◌≡◌, refl, sym, ap, ◌∙◌}
use Prim.Native.Nat.{ℕ, suc, ◌+◌, ◌≤◌, ◌<◌}
use native.Mathlib.Omega.{arith}
use mathlib.Core.List.{List, [], ◌∷◌, ◌++◌}
use lib.ListN.{length, length-append}
use Rattle.definitions.specs.Problem.Node.{Node, plain}
use Rattle.definitions.specs.Problem.Ops.{Sort, term, formula}
use Rattle.definitions.specs.Text.Grammar.{
  Head,
  declared,
  ite,
  equals,
  negation,
  conjunction,
  disjunction,
  implication,
  verum,
  falsum,
}
use Rattle.definitions.specs.Text.Nodes.{Tree, over3, pair, not_tree, leftward, equations, rightward, head_tree, Laid, laid, ask, lay}
use Rattle.terms.specs.Lists.{
  Row,
  Kept,
  kept,
  no_row,
  pushed,
  prepared,
  counted,
  joined_by,
  also_equal,
  equated,
  joins,
  added,
  disjoined,
  fields,
  ended,
  argument,
  arguments,
  list_laid,
  Counted,
}
use Rattle.theorems.specs.Origins.{NoTwins}
use Rattle.theorems.proofs.Text.Meant.Shared.{Earlier, ask_twins}
use Rattle.theorems.proofs.Text.Meant.Laying.{Present, AllPresent, Full, lay_twins}
use Rattle.theorems.proofs.Text.Meant.Again.{lay_extends, again}
use Rattle.theorems.proofs.Text.Meant.Heights.{lay_many, rightward_height}
use Rattle.terms.proofs.ListSteps.{Grows, grows_on, grows_length, ask_grows, added_grows, arguments_grow, ended_grows, arguments_twins, Quiet, negated_later}

pub arguments_append : (h : Head) (xs us : List Tree) (k : Kept) → arguments h (xs ++ us) k ≡ arguments h us (arguments h xs k)
arguments_append h [] us k = refl
arguments_append h (x ∷ xs) us k = arguments_append h xs us (argument h x k)

-- the rest of a list, and its end
abbrev pub rest : Head → List Tree → Kept → Laid
rest h us k = let l = arguments h us k in ended h l.row l.table

-- a pair whose first tree was laid
pub pair_laid : (op : ℕ) (a u : Tree) (s t : List Node) {i : ℕ} → lay a s ≡ laid i t
    → lay (pair op a u) s ≡ ask (plain op i (lay u t).number 0) (lay u t).table
pair_laid op a u s t p = ap (λ (x : Laid). let y = lay u x.table in ask (plain op x.number y.number 0) y.table) p

-- and, or: what is joined so far is a tree that was laid
module _ (h : Head) (op : ℕ) (quiet : Quiet h)
    (joining : (row : Row) (k : ℕ) (t : List Node) → joins h row k t ≡ joined_by op row.seen row k t)
    (ending : (row : Row) (t : List Node) → ended h row t ≡ laid row.joined t) where
  one_joined : (n : ℕ) (row : Row) (u : Tree) (t : List Node) → row.seen ≡ suc n
      → argument h u (kept row t) ≡ counted row (lay u t).number (ask (plain op row.joined (lay u t).number 0) (lay u t).table)
  one_joined n row u t e =
      let l = lay u t in
      ap (λ (p : Kept). added h p.row (lay u p.table).number (lay u p.table).table) (quiet row t)
      ∙ ap (counted row l.number)
      (joining row l.number l.table ∙ ap (λ (m : ℕ). joined_by op m row l.number l.table) e)

  leftward_laid : (n : ℕ) (row : Row) (a : Tree) (us : List Tree) (s t : List Node) → row.seen ≡ suc n → lay a s ≡ laid row.joined t
      → rest h us (kept row t) ≡ lay (leftward op a us) s
  leftward_laid n row a [] s t e p = ending row t ∙ sym p
  leftward_laid n row a (u ∷ us) s t e p =
      let l = lay u t in
      let k = counted row l.number (ask (plain op row.joined l.number 0) l.table) in
      ap (rest h us) (one_joined n row u t e)
      ∙ leftward_laid row.seen k.row (pair op a u) us s k.table refl (pair_laid op a u s t p)

-- =: what is joined so far is a tree that was laid, and the argument before stands
one_equated : (n : ℕ) (row : Row) (u : Tree) (t : List Node) → row.seen ≡ suc (suc n)
    → argument equals u (kept row t) ≡ counted row (lay u t).number (also_equal row (ask (plain 2 row.last (lay u t).number 0) (lay u t).table))
one_equated n row u t e = let l = lay u t in ap (λ (m : ℕ). counted row l.number (equated m row l.number l.table)) e

-- an argument that was laid stands in every longer table
pub stands : (u : Tree) (t v : List Node) → NoTwins v → Grows (lay u t).table v → lay u v ≡ laid (lay u t).number v
stands u t v twins g = again u t v g.0 g.1 twins

equations_laid : (n : ℕ) (row : Row) (a b : Tree) (us : List Tree) (s t : List Node) → NoTwins t → row.seen ≡ suc (suc n)
    → lay a s ≡ laid row.joined t → lay b t ≡ laid row.last t
    → rest equals us (kept row t) ≡ lay (leftward 4 a (equations (b ∷ us))) s
equations_laid n row a b [] s t twins e p q = sym p
equations_laid n row a b (u ∷ us) s t twins e p q =
    let l = lay u t in
    let m = plain 2 row.last l.number 0 in
    let d = ask m l.table in
    let c = plain 4 row.joined d.number 0 in
    let k = counted row l.number (ask c d.table) in
    let later = ask_twins c d.table (ask_twins m l.table (lay_twins u t twins)) in
    let grows = grows_on l.table d.table k.table (ask_grows m l.table) (ask_grows c d.table) in
    ap (rest equals us) (one_equated n row u t e)
    ∙ equations_laid (suc n) k.row (pair 4 a (pair 2 b u)) u us s k.table later (ap suc e)
    (pair_laid 4 a (pair 2 b u) s t p ∙ ap (λ (y : Laid). ask (plain 4 row.joined y.number 0) y.table) (pair_laid 2 b u t t q))
    (stands u t k.table later grows)

-- =>: the argument before was laid, and what waits is joined in the end
rightward_laid : (n : ℕ) (row : Row) (a : Tree) (us : List Tree) (s t : List Node) → row.seen ≡ suc n → lay a s ≡ laid row.last t
    → rest implication us (kept row t) ≡ disjoined row.pending (lay (rightward (a ∷ us)) s)
rightward_laid n row a [] s t e p = ap (disjoined row.pending) (sym p)
rightward_laid n row a (u ∷ us) s t e p =
    let m = ask (plain 3 row.last 0 0) t in
    let l = lay u m.table in
    let k = counted (pushed row m).row l.number l in
    ap (λ (q : Kept). let l = lay u q.table in rest implication us (counted q.row l.number l)) (negated_later n row t e)
    ∙ rightward_laid row.seen k.row u us m.table k.table refl refl
    ∙ ap (disjoined row.pending) (sym (pair_laid 5 (not_tree a) (rightward (u ∷ us)) s m.table not_a))
  where
    not_a : lay (not_tree a) s ≡ ask (plain 3 row.last 0 0) t
    not_a = ap (λ (x : Laid). ask (plain 3 x.number 0 0) x.table) p

-- a symbol, and ite, take their arguments alike
fields_laid : (sort : Sort) (i op k : ℕ) (xs : List Tree) (t : List Node) → length xs ≤ 3
    → (let l = arguments (declared sort i) xs (kept no_row t) in ask (fields op k l.row) l.table) ≡ lay (over3 op k xs) t
fields_laid sort i op k [] t c = refl
fields_laid sort i op k (x ∷ []) t c = refl
fields_laid sort i op k (x ∷ y ∷ []) t c = refl
fields_laid sort i op k (x ∷ y ∷ z ∷ []) t c = refl
fields_laid sort i op k (x ∷ y ∷ z ∷ u ∷ us) t c = absurd (omega arith)

ite_alike : (sort : Sort) (xs : List Tree) (k : Kept) → arguments (ite sort) xs k ≡ arguments (declared sort 0) xs k
ite_alike sort [] k = refl
ite_alike sort (x ∷ xs) k = ite_alike sort xs (argument (ite sort) x k)

ite_laid : (sort : Sort) (op : ℕ) (xs : List Tree) (t : List Node) → length xs ≤ 3
    → (let l = arguments (ite sort) xs (kept no_row t) in ask (fields op 0 l.row) l.table) ≡ lay (over3 op 0 xs) t
ite_laid sort op xs t c =
    ap (λ (l : Kept). ask (fields op 0 l.row) l.table) (ite_alike sort xs (kept no_row t)) ∙ fields_laid sort 0 op 0 xs t c

-- what is laid argument by argument is what is laid in pairs
pub list_laid_lem : (h : Head) (xs : List Tree) (t : List Node) → NoTwins t → Counted h xs → list_laid h xs t ≡ lay (head_tree h xs) t
list_laid_lem (declared term k) xs t twins c = fields_laid term k 0 k xs t c
list_laid_lem (declared formula k) xs t twins c = fields_laid formula k 6 k xs t c
list_laid_lem (ite term) xs t twins c = ite_laid term 1 xs t c
list_laid_lem (ite formula) xs t twins c = ite_laid formula 9 xs t c
list_laid_lem equals [] t twins c = absurd (omega arith)
list_laid_lem equals (a ∷ []) t twins c = absurd (omega arith)
list_laid_lem equals (a ∷ b ∷ us) t twins c =
    let x = lay a t in
    let y = lay b x.table in
    let k = arguments equals (a ∷ b ∷ []) (kept no_row t) in
    let later = arguments_twins equals (a ∷ b ∷ []) (kept no_row t) twins in
    equations_laid 0 k.row (pair 2 a b) b us t k.table later refl refl
    (stands b x.table k.table later (ask_grows (plain 2 x.number y.number 0) y.table))
list_laid_lem negation [] t twins c = absurd (omega arith)
list_laid_lem negation (x ∷ []) t twins c = refl
list_laid_lem negation (x ∷ y ∷ us) t twins c = absurd (omega arith)
list_laid_lem conjunction [] t twins c = absurd (omega arith)
list_laid_lem conjunction (x ∷ us) t twins c =
    let k = argument conjunction x (kept no_row t) in
    leftward_laid conjunction 4 (λ row t. refl) (λ row k t. refl) (λ row t. refl) 0 k.row x us t k.table refl refl
list_laid_lem disjunction [] t twins c = absurd (omega arith)
list_laid_lem disjunction (x ∷ us) t twins c =
    let k = argument disjunction x (kept no_row t) in
    leftward_laid disjunction 5 (λ row t. refl) (λ row k t. refl) (λ row t. refl) 0 k.row x us t k.table refl refl
list_laid_lem implication [] t twins c = absurd (omega arith)
list_laid_lem implication (x ∷ us) t twins c =
    let k = argument implication x (kept no_row t) in rightward_laid 0 k.row x us t k.table refl refl
list_laid_lem verum xs t twins c = rw c refl
list_laid_lem falsum xs t twins c = rw c refl

-- part of the way: after some arguments, the rest gives what the definition lays
pub rest_laid : (h : Head) (xs us : List Tree) (t : List Node) → NoTwins t → Counted h (xs ++ us)
    → rest h us (arguments h xs (kept no_row t)) ≡ lay (head_tree h (xs ++ us)) t
rest_laid h xs us t twins c =
    ap (λ (k : Kept). ended h k.row k.table) (sym (arguments_append h xs us (kept no_row t))) ∙ list_laid_lem h (xs ++ us) t twins c

-- so a table that is a first part of what the rest gives, and is too long, makes the whole one too long
rest_grows : (h : Head) (us : List Tree) (k : Kept) → Grows k.table (rest h us k).table
rest_grows h us k =
    let l = arguments h us k in
    grows_on k.table l.table (rest h us k).table (arguments_grow h us k) (ended_grows h l.row l.table)

module _ (h : Head) (xs us : List Tree) (t : List Node) (twins : NoTwins t) (c : Counted h (xs ++ us)) where
  too_long_lem : (u : List Node) → Grows u (rest h us (arguments h xs (kept no_row t))).table → 256 < length u
      → 256 < length (lay (head_tree h (xs ++ us)) t).table
  too_long_lem u g l =
      let e = grows_length u (rest h us (arguments h xs (kept no_row t))).table g in
      let same = ap (λ (r : Laid). length r.table) (rest_laid h xs us t twins c) in
      omega arith

  pub too_many : 256 < length (arguments h xs (kept no_row t)).table → 256 < length (lay (head_tree h (xs ++ us)) t).table
  too_many l = let k = arguments h xs (kept no_row t) in too_long_lem k.table (rest_grows h us k) l

module _ (h : Head) (xs : List Tree) (u : Tree) (vs : List Tree) (t : List Node) (twins : NoTwins t) (c : Counted h (xs ++ (u ∷ vs))) where
  abbrev before : Kept
  before = let k = arguments h xs (kept no_row t) in prepared h k.row k.table

  abbrev after : Laid
  after = lay u before.table

  after_grows : Grows after.table (rest h (u ∷ vs) (arguments h xs (kept no_row t))).table
  after_grows =
      let k = added h before.row after.number after.table in
      grows_on after.table k.table (rest h vs k).table (added_grows h before.row after.number after.table) (rest_grows h vs k)

  pub too_many_argument : 256 < length (lay u (let k = arguments h xs (kept no_row t) in (prepared h k.row k.table).table)).table
      → 256 < length (lay (head_tree h (xs ++ (u ∷ vs))) t).table
  too_many_argument l = too_long_lem h xs (u ∷ vs) t twins c after.table after_grows l

  pub too_many_prepared : 256 < length (let k = arguments h xs (kept no_row t) in (prepared h k.row k.table).table)
      → 256 < length (lay (head_tree h (xs ++ (u ∷ vs))) t).table
  too_many_prepared l = let e = grows_length before.table after.table (lay_extends u before.table) in too_many_argument (omega arith)

-- => is as high as it has arguments, so where too many wait, the table is too long
rightward_present : (symbols : List ℕ) (a : Tree) (ts : List Tree) → Full symbols (rightward (a ∷ ts)) → Present (rightward (a ∷ ts))
    → AllPresent (a ∷ ts)
rightward_present symbols a [] f p = (p, tt)
rightward_present symbols a (b ∷ ts) f p = (f.0.3.0, rightward_present symbols b ts f.1 f.3.1.0)

pub too_pending : (symbols : List ℕ) (xs us : List Tree) (t : List Node) → 256 < length xs → Full symbols (head_tree implication (xs ++ us))
    → Earlier symbols t → 256 < length (lay (head_tree implication (xs ++ us)) t).table
too_pending symbols xs us t l f earlier = by (xs ++ us) (length-append xs us) f
  where
    by : (ts : List Tree) → length ts ≡ length xs + length us → Full symbols (rightward ts) → 256 < length (lay (rightward ts) t).table
    by [] e f = absurd (omega arith)
    by (a ∷ []) e f = absurd (omega arith)
    by (a ∷ b ∷ ts) e f =
        let high = rightward_height (a ∷ b ∷ ts) (rightward_present symbols a (b ∷ ts) f tt) in
        let many = lay_many symbols (rightward (a ∷ b ∷ ts)) t f earlier in
        omega arith
