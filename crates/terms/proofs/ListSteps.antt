-- What each step of laying a list keeps: the table only grows, no two nodes become equal, every argument is counted, and => has one
-- negation fewer waiting than it has arguments. Assumes nothing.
use mathlib.Core.Path.{◌≡◌, refl, sym, ap, ◌∙◌}
use Prim.Native.Nat.{ℕ, zero, suc, ◌+◌, ◌-◌, ◌≤◌}
use native.Mathlib.Omega.{arith}
use mathlib.Core.List.{List, [], ◌∷◌, ◌++◌, append_assoc, append-nil}
use lib.ListN.{length, length-append}
use Rattle.definitions.specs.Problem.Node.{Node, plain}
use Rattle.definitions.specs.Problem.Ops.{term, formula}
use Rattle.definitions.specs.Text.Grammar.{
  Head,
  declared,
  ite,
  equals,
  negation,
  conjunction,
  disjunction,
  implication,
  verum,
  falsum,
}
use Rattle.definitions.specs.Text.Nodes.{Tree, Laid, laid, ask, lay}
use Rattle.terms.specs.Lists.{
  Row,
  Kept,
  kept,
  no_row,
  pushed,
  negated,
  prepared,
  joined_by,
  equated,
  added,
  disjoined,
  ended,
  argument,
  arguments,
}
use Rattle.theorems.specs.Origins.{NoTwins}
use Rattle.theorems.proofs.Text.Meant.Shared.{ask_given, ask_twins}
use Rattle.theorems.proofs.Text.Meant.Laying.{lay_twins}
use Rattle.theorems.proofs.Text.Meant.Again.{lay_extends}

-- what every node asked for keeps, every step keeps
module _ (P : List Node → Type 0) (asks : (n : Node) (t : List Node) → P t → P (ask n t).table)
    (lays : (x : Tree) (t : List Node) → P t → P (lay x t).table) where
  pub prepared_keeps : (h : Head) (row : Row) (t : List Node) → P t → P (prepared h row t).table
  prepared_keeps (declared s k) row t p = p
  prepared_keeps (ite s) row t p = p
  prepared_keeps equals row t p = p
  prepared_keeps negation row t p = p
  prepared_keeps conjunction row t p = p
  prepared_keeps disjunction row t p = p
  prepared_keeps implication row t p = by row.seen
    where
      by : (n : ℕ) → P (negated n row t).table
      by zero = p
      by (suc n) = asks (plain 3 row.last 0 0) t p
  prepared_keeps verum row t p = p
  prepared_keeps falsum row t p = p

  joined_keeps : (op n : ℕ) (row : Row) (k : ℕ) (t : List Node) → P t → P (joined_by op n row k t).table
  joined_keeps op zero row k t p = p
  joined_keeps op (suc n) row k t p = asks (plain op row.joined k 0) t p

  pub added_keeps : (h : Head) (row : Row) (k : ℕ) (t : List Node) → P t → P (added h row k t).table
  added_keeps (declared s i) row k t p = p
  added_keeps (ite s) row k t p = p
  added_keeps equals row k t p = by row.seen
    where
      by : (n : ℕ) → P (equated n row k t).table
      by zero = p
      by (suc zero) = asks (plain 2 row.last k 0) t p
      by (suc (suc n)) =
          let e = ask (plain 2 row.last k 0) t in
          asks (plain 4 row.joined e.number 0) e.table (asks (plain 2 row.last k 0) t p)
  added_keeps negation row k t p = p
  added_keeps conjunction row k t p = joined_keeps 4 row.seen row k t p
  added_keeps disjunction row k t p = joined_keeps 5 row.seen row k t p
  added_keeps implication row k t p = p
  added_keeps verum row k t p = p
  added_keeps falsum row k t p = p

  pub argument_keeps : (h : Head) (x : Tree) (k : Kept) → P k.table → P (argument h x k).table
  argument_keeps h x k p =
      let q = prepared h k.row k.table in
      let l = lay x q.table in
      added_keeps h q.row l.number l.table (lays x q.table (prepared_keeps h k.row k.table p))

  pub arguments_keep : (h : Head) (xs : List Tree) (k : Kept) → P k.table → P (arguments h xs k).table
  arguments_keep h [] k p = p
  arguments_keep h (x ∷ xs) k p = arguments_keep h xs (argument h x k) (argument_keeps h x k p)

  pub disjoined_keeps : (ns : List ℕ) (l : Laid) → P l.table → P (disjoined ns l).table
  disjoined_keeps [] l p = p
  disjoined_keeps (n ∷ ns) l p =
      let m = plain 5 n l.number 0 in disjoined_keeps ns (ask m l.table) (asks m l.table p)

  pub ended_keeps : (h : Head) (row : Row) (t : List Node) → P t → P (ended h row t).table
  ended_keeps (declared term k) row t p = asks _ t p
  ended_keeps (declared formula k) row t p = asks _ t p
  ended_keeps (ite term) row t p = asks _ t p
  ended_keeps (ite formula) row t p = asks _ t p
  ended_keeps equals row t p = p
  ended_keeps negation row t p = asks _ t p
  ended_keeps conjunction row t p = p
  ended_keeps disjunction row t p = p
  ended_keeps implication row t p = disjoined_keeps row.pending (laid row.last t) p
  ended_keeps verum row t p = asks _ t p
  ended_keeps falsum row t p = asks _ t p

-- a table only grows
abbrev pub Grows : List Node → List Node → Type 0
Grows t u = (more : List Node) × (u ≡ t ++ more)

pub grows_none : (t : List Node) → Grows t t
grows_none t = ([], sym (append-nil t))

pub grows_on : (t u v : List Node) → Grows t u → Grows u v → Grows t v
grows_on t u v p q = (p.0 ++ q.0, q.1 ∙ ap (λ (w : List Node). w ++ q.0) p.1 ∙ append_assoc t p.0 q.0)

pub grows_length : (t u : List Node) → Grows t u → length t ≤ length u
grows_length t u p = let e : length u ≡ length t + length p.0 = ap length p.1 ∙ length-append t p.0 in omega arith

pub ask_grows : (n : Node) (t : List Node) → Grows t (ask n t).table
ask_grows n t = let g = ask_given n t in (g.more, g.extends)

ask_on : (t : List Node) (n : Node) (u : List Node) → Grows t u → Grows t (ask n u).table
ask_on t n u p = grows_on t u (ask n u).table p (ask_grows n u)

lay_on : (t : List Node) (x : Tree) (u : List Node) → Grows t u → Grows t (lay x u).table
lay_on t x u p = grows_on t u (lay x u).table p (lay_extends x u)

pub prepared_grows : (h : Head) (row : Row) (t : List Node) → Grows t (prepared h row t).table
prepared_grows h row t = prepared_keeps (Grows t) (ask_on t) (lay_on t) h row t (grows_none t)

pub added_grows : (h : Head) (row : Row) (k : ℕ) (t : List Node) → Grows t (added h row k t).table
added_grows h row k t = added_keeps (Grows t) (ask_on t) (lay_on t) h row k t (grows_none t)

pub argument_grows : (h : Head) (x : Tree) (k : Kept) → Grows k.table (argument h x k).table
argument_grows h x k = argument_keeps (Grows k.table) (ask_on k.table) (lay_on k.table) h x k (grows_none k.table)

pub arguments_grow : (h : Head) (xs : List Tree) (k : Kept) → Grows k.table (arguments h xs k).table
arguments_grow h xs k = arguments_keep (Grows k.table) (ask_on k.table) (lay_on k.table) h xs k (grows_none k.table)

pub disjoined_grows : (ns : List ℕ) (l : Laid) → Grows l.table (disjoined ns l).table
disjoined_grows ns l = disjoined_keeps (Grows l.table) (ask_on l.table) (lay_on l.table) ns l (grows_none l.table)

pub ended_grows : (h : Head) (row : Row) (t : List Node) → Grows t (ended h row t).table
ended_grows h row t = ended_keeps (Grows t) (ask_on t) (lay_on t) h row t (grows_none t)

-- no two nodes become equal
pub prepared_twins : (h : Head) (row : Row) (t : List Node) → NoTwins t → NoTwins (prepared h row t).table
prepared_twins h row t = prepared_keeps NoTwins ask_twins lay_twins h row t

pub added_twins : (h : Head) (row : Row) (k : ℕ) (t : List Node) → NoTwins t → NoTwins (added h row k t).table
added_twins h row k t = added_keeps NoTwins ask_twins lay_twins h row k t

pub arguments_twins : (h : Head) (xs : List Tree) (k : Kept) → NoTwins k.table → NoTwins (arguments h xs k).table
arguments_twins h xs k = arguments_keep NoTwins ask_twins lay_twins h xs k

pub ended_twins : (h : Head) (row : Row) (t : List Node) → NoTwins t → NoTwins (ended h row t).table
ended_twins h row t = ended_keeps NoTwins ask_twins lay_twins h row t

-- every argument is counted
pub prepared_seen : (h : Head) (row : Row) (t : List Node) → (prepared h row t).row.seen ≡ row.seen
prepared_seen (declared s k) row t = refl
prepared_seen (ite s) row t = refl
prepared_seen equals row t = refl
prepared_seen negation row t = refl
prepared_seen conjunction row t = refl
prepared_seen disjunction row t = refl
prepared_seen implication row t = by row.seen
  where
    by : (n : ℕ) → (negated n row t).row.seen ≡ row.seen
    by zero = refl
    by (suc n) = refl
prepared_seen verum row t = refl
prepared_seen falsum row t = refl

seen_on : (h : Head) (xs : List Tree) (k : Kept) → (arguments h xs k).row.seen ≡ k.row.seen + length xs
seen_on h [] k = omega arith
seen_on h (x ∷ xs) k =
    let e = seen_on h xs (argument h x k) in
    let p = prepared_seen h k.row k.table in
    omega arith

pub seen_all : (h : Head) (xs : List Tree) (t : List Node) → (arguments h xs (kept no_row t)).row.seen ≡ length xs
seen_all h xs t = let e = seen_on h xs (kept no_row t) in omega arith

-- the negations that wait after so many arguments
abbrev pub pending_after : Head → ℕ → ℕ
pending_after (declared s k) n = 0
pending_after (ite s) n = 0
pending_after equals n = 0
pending_after negation n = 0
pending_after conjunction n = 0
pending_after disjunction n = 0
pending_after implication n = n - 1
pending_after verum n = 0
pending_after falsum n = 0

-- most heads prepare nothing
abbrev pub Quiet : Head → Type 0
Quiet h = (row : Row) (t : List Node) → prepared h row t ≡ kept row t

quiet_pending : (h : Head) → Quiet h → (xs : List Tree) (k : Kept) → (arguments h xs k).row.pending ≡ k.row.pending
quiet_pending h quiet [] k = refl
quiet_pending h quiet (x ∷ xs) k =
    quiet_pending h quiet xs (argument h x k) ∙ ap (λ (p : Kept). p.row.pending) (quiet k.row k.table)

-- the argument before waits as soon as a further one comes
pub negated_later : (n : ℕ) (row : Row) (t : List Node) → row.seen ≡ suc n
    → prepared implication row t ≡ pushed row (ask (plain 3 row.last 0 0) t)
negated_later n row t e = ap (λ (m : ℕ). negated m row t) e

pending_on : (n : ℕ) (xs : List Tree) (k : Kept) → k.row.seen ≡ suc n
    → length (arguments implication xs k).row.pending ≡ length k.row.pending + length xs
pending_on n [] k e = omega arith
pending_on n (x ∷ xs) k e =
    let r = k.row in
    let p = ap (λ (p : Kept). length p.row.pending) (negated_later n r k.table e) in
    let q = pending_on (prepared implication r k.table).row.seen xs (argument implication x k) refl in
    omega arith

pub pending_all : (h : Head) (xs : List Tree) (t : List Node)
    → length (arguments h xs (kept no_row t)).row.pending ≡ pending_after h (length xs)
pending_all (declared s k) xs t = ap length (quiet_pending (declared s k) (λ row t. refl) xs (kept no_row t))
pending_all (ite s) xs t = ap length (quiet_pending (ite s) (λ row t. refl) xs (kept no_row t))
pending_all equals xs t = ap length (quiet_pending equals (λ row t. refl) xs (kept no_row t))
pending_all negation xs t = ap length (quiet_pending negation (λ row t. refl) xs (kept no_row t))
pending_all conjunction xs t = ap length (quiet_pending conjunction (λ row t. refl) xs (kept no_row t))
pending_all disjunction xs t = ap length (quiet_pending disjunction (λ row t. refl) xs (kept no_row t))
pending_all implication [] t = refl
pending_all implication (x ∷ xs) t =
    let e = pending_on 0 xs (argument implication x (kept no_row t)) refl in omega arith
pending_all verum xs t = ap length (quiet_pending verum (λ row t. refl) xs (kept no_row t))
pending_all falsum xs t = ap length (quiet_pending falsum (λ row t. refl) xs (kept no_row t))
