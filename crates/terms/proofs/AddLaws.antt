-- One more argument takes its place in the row of a list. Assumes nothing.
use mathlib.Core.Path.{◌≡◌, refl, sym, ap, ap₂, ◌∙◌, subst}
use Prim.Native.Nat.{ℕ, zero, suc, ◌+◌, ◌<◌}
use native.Mathlib.Omega.{arith}
use mathlib.Core.List.{List, [], ◌∷◌}
use mathlib.Core.Logic.{inl}
use lib.ListN.{length, set, get_or}
use Rattle.std.specs.Prelude.{Option, min}
use Rattle.definitions.specs.Problem.Node.{Node, plain}
use Rattle.definitions.specs.Text.Grammar.{
  Head,
  declared,
  ite,
  equals,
  negation,
  conjunction,
  disjunction,
  implication,
  verum,
  falsum,
}
use Rattle.definitions.specs.Text.Nodes.{Laid, ask}
use Rattle.terms.specs.Laying.{standing, Performs}
use Rattle.terms.specs.Lists.{Row, first_or, second_or, third_or, joined_by, equated, joins, added}
use Rattle.terms.specs.Rowing.{row_of, RowIs, Rows}

-- what is joined is the same in the row that the code keeps, where arguments are counted up to three
module _ (k row : Row) (n : ℕ) (t : List Node) where
  same_joined : (op s r : ℕ) → r ≡ min s 3 → row.joined ≡ k.joined → joined_by op s k n t ≡ joined_by op r row n t
  same_joined op zero zero e j = refl
  same_joined op zero (suc r) e j = absurd (omega (arith, e))
  same_joined op (suc s) zero e j = absurd (omega (arith, e))
  same_joined op (suc s) (suc r) e j = ap (λ (m : ℕ). ask (plain op m n 0) t) (sym j)

  same_equated : (s r : ℕ) → r ≡ min s 3 → row.last ≡ k.last → row.joined ≡ k.joined → equated s k n t ≡ equated r row n t
  same_equated zero zero e l j = refl
  same_equated zero (suc r) e l j = absurd (omega (arith, e))
  same_equated (suc zero) zero e l j = absurd (omega (arith, e))
  same_equated (suc zero) (suc zero) e l j = ap (λ (m : ℕ). ask (plain 2 m n 0) t) (sym l)
  same_equated (suc zero) (suc (suc r)) e l j = absurd (omega (arith, e))
  same_equated (suc (suc s)) zero e l j = absurd (omega (arith, e))
  same_equated (suc (suc s)) (suc zero) e l j = absurd (omega (arith, e))
  same_equated (suc (suc s)) (suc (suc r)) e l j =
      ap₂ (λ (a b : ℕ). let x = ask (plain 2 a n 0) t in ask (plain 4 b x.number 0) x.table) (sym l) (sym j)

  same_joins : (h : Head) → RowIs k row → joins h k n t ≡ joins h row n t
  same_joins (declared s i) is = refl
  same_joins (ite s) is = refl
  same_joins equals is = same_equated k.seen row.seen is.seen_is is.last_is is.joined_is
  same_joins negation is = refl
  same_joins conjunction is = same_joined 4 k.seen row.seen is.seen_is is.joined_is
  same_joins disjunction is = same_joined 5 k.seen row.seen is.seen_is is.joined_is
  same_joins implication is = refl
  same_joins verum is = refl
  same_joins falsum is = refl

-- the number takes its place among the first three
record Placed (firsts after : List ℕ) (s n : ℕ) : Type 0 where
  first : get_or after 0 0 ≡ first_or s n (get_or firsts 0 0)
  second : get_or after 1 0 ≡ second_or s n (get_or firsts 1 0)
  third : get_or after 2 0 ≡ third_or s n (get_or firsts 2 0)

placed : (firsts : List ℕ) (s n : ℕ) → length firsts ≡ 3 → s < 3 → Placed firsts (set firsts s n) s n
placed [] s n e h = absurd (omega (arith, e))
placed (a ∷ []) s n e h = absurd (omega (arith, e))
placed (a ∷ b ∷ []) s n e h = absurd (omega (arith, e))
placed (a ∷ b ∷ c ∷ []) zero n e h = record { first = refl; second = refl; third = refl }
placed (a ∷ b ∷ c ∷ []) (suc zero) n e h = record { first = refl; second = refl; third = refl }
placed (a ∷ b ∷ c ∷ []) (suc (suc zero)) n e h = record { first = refl; second = refl; third = refl }
placed (a ∷ b ∷ c ∷ []) (suc (suc (suc s))) n e h = absurd (omega (arith, h))
placed (a ∷ b ∷ c ∷ d ∷ rest) s n e h = absurd (omega (arith, e))

added_to : (h : Head) {seen last joined n j : ℕ} (firsts pending : List ℕ) {t after : Option (List Node)} → length firsts ≡ 3 → seen < 3
    → Performs (joins h (row_of seen firsts last joined pending) n) t j after
    → Rows (λ k u. added h k n u) (row_of seen firsts last joined pending) t (row_of (seen + 1) (set firsts seen n) n j pending) after
added_to h {seen} {last} {joined} {n} {j} firsts pending {t} {after} long few joining =
    record {
      stays = joining.stays;
      row_done = λ k is p q.
          let place = placed firsts seen n long few in
          let counted : seen ≡ k.seen = omega (arith, is.seen_is, few) in
          let done = same k is ∙ joining.done p q in
          record {
            seen_is = omega (arith, counted, few);
            first_is = place.first ∙ ap₂ (λ (s x : ℕ). first_or s n x) counted is.first_is;
            second_is = place.second ∙ ap₂ (λ (s x : ℕ). second_or s n x) counted is.second_is;
            third_is = place.third ∙ ap₂ (λ (s x : ℕ). third_or s n x) counted is.third_is;
            last_is = refl;
            joined_is = sym (ap (λ (x : Laid). x.number) done);
            pending_is = is.pending_is;
          };
      table_done = λ k is p q. ap (λ (x : Laid). x.table) (same k is ∙ joining.done p q);
      more = λ k is p q. let e = ap (λ (x : Laid). length x.table) (same k is) in let m = joining.more p q in inl (omega arith);
    }
  where
    row : Row
    row = row_of seen firsts last joined pending

    same : (k : Row) → RowIs k row → joins h k n (standing t) ≡ joins h row n (standing t)
    same k is = same_joins k row n (standing t) h is

-- and so it does in the row of a value
pub one_added : (h : Head) {seen last joined n j : ℕ} (firsts pending : List ℕ) {row : Row} {t after : Option (List Node)}
    → row_of seen firsts last joined pending ≡ row → length firsts ≡ 3 → seen < 3 → Performs (joins h row n) t j after
    → Rows (λ k u. added h k n u) row t (row_of (seen + 1) (set firsts seen n) n j pending) after
one_added h {seen} {last} {joined} {n} {j} firsts pending {row} {t} {after} e long few joining =
    let there = subst (λ (v : Row). Performs (joins h v n) t j after) (sym e) joining in
    subst (λ (v : Row). Rows (λ k u. added h k n u) v t (row_of (seen + 1) (set firsts seen n) n j pending) after) e (added_to h firsts pending long few there)
