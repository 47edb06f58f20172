-- Laws of laying one thing after another, and of a list's row as the code keeps it. Assumes nothing.
use mathlib.Core.Path.{◌≡◌, refl, sym, ap, ap₂, ◌∙◌, subst}
use Prim.Native.Nat.{ℕ, zero, suc, ◌+◌, ◌≤◌, ◌<◌}
use native.Mathlib.Numerals.{add-one}
use native.Mathlib.Omega.{arith}
use mathlib.Core.Bool.{Bool, true, false, true≢false}
use mathlib.Core.List.{List, [], ◌∷◌, ◌++◌, reverse}
use mathlib.Core.Logic.{inl}
use lib.ListN.{length, set, take}
use Rattle.std.proofs.lemmas.List.{reverse-append}
use lib.Seq.{get_or-set_same, get_or-set_other}
use Rattle.std.specs.Prelude.{Option}
use Rattle.definitions.specs.Problem.Node.{Node, plain}
use Rattle.definitions.specs.Text.Nodes.{Laid, laid, ask}
use Rattle.terms.specs.Laying.{over, standing, Performs}
use Rattle.terms.specs.Listings.{waiting_reversed}
use Rattle.terms.specs.Lists.{Row, Kept, no_row, pushed, negated, equated, disjoined}
use Rattle.terms.specs.Rowing.{waiting_in, row_of, RowIs, Rows}
use Rattle.terms.proofs.ListSteps.{Grows, grows_length, ask_grows, disjoined_grows}
use Rattle.terms.proofs.NodeLaws.{performs_at}

-- what stands already is not laid again
pub stands_already : (number : ℕ) {t : Option (List Node)} → Performs (laid number) t number t
stands_already number =
    record {
      stays = λ p. p;
      done = λ p q. refl;
      more = λ p q. absurd (true≢false (sym q ∙ p));
    }

pub performs_as : {f g : List Node → Laid} {t t' : Option (List Node)} {k : ℕ} → f ≡ g → Performs f t k t' → Performs g t k t'
performs_as {t = t} e = performs_at (ap (λ (f : List Node → Laid). f (standing t)) e)

-- one thing after another: where the first is too long, so are both, since the second only makes the table longer
module _ (f : List Node → Laid) (g : ℕ → List Node → Laid) (grows : (n : ℕ) (t : List Node) → Grows t (g n t).table)
    {t between after : Option (List Node)} {a r : ℕ} (one : Performs f t a between) (next : Performs (g a) between r after) where
  abbrev both : List Node → Laid
  both u = g (f u).number (f u).table

  through : over t ≡ false → over between ≡ false → both (standing t) ≡ g a (standing between)
  through p q = ap (λ (x : Laid). g x.number x.table) (one.done p q)

  both_done : (b : Bool) → over between ≡ b → over t ≡ false → over after ≡ false → both (standing t) ≡ laid r (standing after)
  both_done true e p q = absurd (true≢false (sym (next.stays e) ∙ q))
  both_done false e p q = through p e ∙ next.done e q

  both_more : (b : Bool) → over between ≡ b → over t ≡ false → over after ≡ true → 256 < length (both (standing t)).table
  both_more true e p q =
      let h = one.more p e in
      let more = grows_length (f (standing t)).table (both (standing t)).table (grows (f (standing t)).number (f (standing t)).table) in
      omega arith
  both_more false e p q =
      let h = next.more e q in
      let same = ap (λ (x : Laid). length x.table) (through p e) in
      omega arith

  pub one_after_another : Performs (λ u. g (f u).number (f u).table) t r after
  one_after_another =
      record {
        stays = λ p. next.stays (one.stays p);
        done = both_done (over between) refl;
        more = both_more (over between) refl;
      }

-- before the first argument
pub no_row_is : {row : Row} → row ≡ no_row → RowIs no_row row
no_row_is e =
    subst (RowIs no_row) (sym e)
    (record { seen_is = refl; first_is = refl; second_is = refl; third_is = refl; last_is = refl; joined_is = refl; pending_is = refl })

-- after the first two arguments
module _ (row : Row) (k : ℕ) where
  equated_later : (n : ℕ) → (n ≡ 0 → ⊥) → (n ≡ 1 → ⊥)
      → (λ t. let l = ask (plain 2 row.last k 0) t in ask (plain 4 row.joined l.number 0) l.table) ≡ equated n row k
  equated_later zero h g = absurd (h refl)
  equated_later (suc zero) h g = absurd (g refl)
  equated_later (suc (suc n)) h g = refl

pub equations_joined : (row : Row) (k : ℕ) {t between after : Option (List Node)} {a r : ℕ} → (row.seen ≡ 0 → ⊥) → (row.seen ≡ 1 → ⊥)
    → Performs (ask (plain 2 row.last k 0)) t a between → Performs (ask (plain 4 row.joined a 0)) between r after → Performs (equated row.seen row k) t r after
equations_joined row k h g one next =
    performs_as (equated_later row k row.seen h g)
    (one_after_another (ask (plain 2 row.last k 0)) (λ n. ask (plain 4 row.joined n 0)) (λ n t. ask_grows (plain 4 row.joined n 0) t) one next)

abbrev pub negating : Row → List Node → Kept
negating k t = negated k.seen k t

-- a store behind the negations that wait leaves them
waiting_kept : (pending : List ℕ) (w x n : ℕ) → n ≤ w → waiting_in (set pending w x) n ≡ waiting_in pending n
waiting_kept pending w x zero h = refl
waiting_kept pending w x (suc n) h =
    ap₂ {C = List ℕ} (λ y ys. y ∷ ys) (get_or-set_other pending w n x 0 (λ e. omega arith)) (waiting_kept pending w x n (omega arith))

pub one_waiting : (pending : List ℕ) (w x : ℕ) → w < length pending → waiting_in (set pending w x) (w + 1) ≡ x ∷ waiting_in pending w
one_waiting pending w x h =
    ap (waiting_in (set pending w x)) (add-one w)
    ∙ ap₂ {C = List ℕ} (λ y ys. y ∷ ys) (get_or-set_same pending w x 0 h) (waiting_kept pending w x w (omega arith))

-- the negation of the argument before waits, where there is room for it
module _ (row : Row) {t after : Option (List Node)} {a : ℕ} (some : row.seen ≡ 0 → ⊥) (asking : Performs (ask (plain 3 row.last 0 0)) t a after) where
  abbrev before : List Node
  before = standing t

  pushes : (k : Row) → RowIs k row → negating k before ≡ pushed k (ask (plain 3 row.last 0 0) before)
  pushes k is = by k.seen refl
    where
      by : (n : ℕ) → k.seen ≡ n → negated n k before ≡ pushed k (ask (plain 3 row.last 0 0) before)
      by zero e = let seen = is.seen_is in absurd (some (omega arith))
      by (suc n) e = ap (λ (m : ℕ). pushed k (ask (plain 3 m 0 0) before)) (sym is.last_is)

  abbrev pub waits : Row
  waits =
      record {
        seen = row.seen;
        first = row.first;
        second = row.second;
        third = row.third;
        last = row.last;
        joined = row.joined;
        pending = a ∷ row.pending;
      }

  waits_lem : Rows negating row t waits after
  waits_lem =
      record {
        stays = asking.stays;
        row_done = λ k is p q. subst (λ (x : Kept). RowIs x.row waits) (sym (pushes k is)) (pushed_is k is p q);
        table_done = λ k is p q. ap (λ (x : Kept). x.table) (pushes k is) ∙ ap (λ (x : Laid). x.table) (asking.done p q);
        more = λ k is p q.
            let e = ap (λ (x : Kept). length x.table) (pushes k is) in let m = asking.more p q in inl (omega arith);
      }
    where
      pushed_is : (k : Row) → RowIs k row → over t ≡ false → over after ≡ false → RowIs (pushed k (ask (plain 3 row.last 0 0) before)).row waits
      pushed_is k is p q =
          record {
            seen_is = is.seen_is;
            first_is = is.first_is;
            second_is = is.second_is;
            third_is = is.third_is;
            last_is = is.last_is;
            joined_is = is.joined_is;
            pending_is = ap₂ {C = List ℕ} (λ y ys. y ∷ ys) (sym (ap (λ (x : Laid). x.number) (asking.done p q))) is.pending_is;
          }

  pub one_waits : {next : Row} → next ≡ waits → Rows negating row t next after
  one_waits e = subst (λ (next : Row). Rows negating row t next after) (sym e) waits_lem

-- and as the code keeps it
pub negation_waits : {seen last joined w x : ℕ} (firsts pending : List ℕ) {t after : Option (List Node)} → w < length pending → (seen ≡ 0 → ⊥)
    → Performs (ask (plain 3 last 0 0)) t x after
    → Rows negating (row_of seen firsts last joined (waiting_in pending w)) t (row_of seen firsts last joined (waiting_in (set pending w x) (w + 1))) after
negation_waits {seen} {last} {joined} {w} {x} firsts pending h some asking =
    one_waits (row_of seen firsts last joined (waiting_in pending w)) some asking (ap (row_of seen firsts last joined) (one_waiting pending w x h))

-- what waits is joined from the last one on
abbrev pub disjoining : List ℕ → ℕ → List Node → Laid
disjoining rest n t = disjoined (reverse rest) (laid n t)

pub disjoins_all : (pending : List ℕ) (w n : ℕ) {rest : List ℕ} {t after : Option (List Node)} {r : ℕ} → w ≤ length pending → rest ≡ take w pending
    → Performs (disjoining rest n) t r after → Performs (λ t. disjoined (waiting_in pending w) (laid n t)) t r after
disjoins_all pending w n h e =
    performs_as (ap (λ (ns : List ℕ). λ (t : List Node). disjoined ns (laid n t)) (ap reverse e ∙ sym (waiting_reversed pending w h)))

pub disjoins_one : (rest : List ℕ) (x n : ℕ) {before : List ℕ} {t between after : Option (List Node)} {a r : ℕ} → before ≡ rest ++ (x ∷ [])
    → Performs (ask (plain 5 x n 0)) t a between → Performs (disjoining rest a) between r after → Performs (disjoining before n) t r after
disjoins_one rest x n e one more =
    performs_as (ap (λ (ns : List ℕ). λ (t : List Node). disjoined ns (laid n t)) (sym (ap reverse e ∙ reverse-append rest (x ∷ []))))
    (one_after_another (ask (plain 5 x n 0)) (disjoining rest) (λ m t. disjoined_grows (reverse rest) (laid m t)) one more)

pub none_left : (rest : List ℕ) (n : ℕ) {t : Option (List Node)} → length rest ≡ 0 → Performs (disjoining rest n) t n t
none_left [] n e = stands_already n
none_left (x ∷ xs) n e = absurd (omega arith)
