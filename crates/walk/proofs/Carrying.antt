-- The odometer on its way to the successor: the digits before i have gone back to 0, the others stand. Assumes nothing.
use mathlib.Core.Path.{◌≡◌, refl, sym, ◌∙◌, subst, ap}
use Prim.Native.Nat.{ℕ, suc, ◌+◌, ◌≤◌, ◌<◌}
use native.Mathlib.Omega.{arith}
use Rattle.std.specs.Prelude.{Some, None}
use mathlib.Core.List.{List}
use mathlib.Core.Logic.{inl, inr}
use lib.ListN.{length, get_or, take, set, length-set}
use lib.Seq.{get_or-take, length-take-le, get_or-set_same, get_or-set_other}
use Rattle.theorems.proofs.Laws.Entries.{set_more}
use Rattle.theorems.proofs.Laws.Tests.{split}
use Rattle.walk.specs.Turning.{Turning}
use Rattle.walk.specs.Digits.{digits_of, sizes_in, NextIs}
use Rattle.walk.specs.declared.odometer.Odometer.{Odometer}
use Rattle.blocks.proofs.Moves.{turning_at, turning_none}
use Rattle.walk.proofs.Turns.{Carried, next_turns, next_wraps}

-- a digit in use may take any value below its size
pub digit_set : (ds ss : List ℕ) (n i d : ℕ) → Turning ds ss n → i < n → d < get_or ss i 0 → Turning (set ds i d) ss n
digit_set ds ss n i d t h low =
    let few = t.few in
    let long = t.digits_long in
    record {
      digits_long = length-set ds i d ∙ t.digits_long;
      sizes_long = t.sizes_long;
      few = t.few;
      sizes_small = t.sizes_small;
      within =
          λ j l.
          elim (split j i) [
            | inl b ↦ let e = get_or-set_other ds i j d 0 (λ q. omega arith) in let w = t.within j l in omega arith
            | inr b ↦
                elim (split i j) [
                  | inl g ↦ let e = get_or-set_other ds i j d 0 (λ q. omega arith) in let w = t.within j l in omega arith
                  | inr g ↦
                      subst (λ m. get_or (set ds i d) m 0 < get_or ss m 0) (let q : i ≡ j = omega arith in q)
                      (let e = get_or-set_same ds i d 0 (omega arith) in omega arith)
                ]
          ];
      past = λ j l. get_or-set_other ds i j d 0 (λ q. omega arith) ∙ t.past j l;
    }

pub record Carrying (o : Odometer) (i : ℕ) (ds : List ℕ) : Type 0 where
  pub inside : i ≤ o.count
  pub long : length ds ≡ 40
  pub zeros : (j : ℕ) → j < i → get_or ds j 0 ≡ 0
  pub kept : (j : ℕ) → i ≤ j → get_or ds j 0 ≡ get_or o.digits j 0
  pub tops : (j : ℕ) → j < i → get_or o.sizes j 0 ≤ suc (get_or o.digits j 0)

pub begins : (o : Odometer) → Carrying o 0 o.digits
begins o =
    record {
      inside = omega arith;
      long = o.turning.digits_long;
      zeros = λ j h. absurd (omega arith);
      kept = λ j h. refl;
      tops = λ j h. absurd (omega arith);
    }

module _ (o : Odometer) (i : ℕ) (ds : List ℕ) (c : Carrying o i ds) where
  abbrev t : Turning o.digits o.sizes o.count
  t = o.turning

  -- digit i, which still stands
  pub digit_below : i < o.count → get_or ds i 0 < get_or o.sizes i 0
  digit_below h = subst (λ n. n < get_or o.sizes i 0) (sym (c.kept i (omega arith))) (t.within i h)

  module _ (es : List ℕ) (long : length es ≡ 40) where
    sizes_length : length (sizes_in o) ≡ o.count
    sizes_length = let a = t.few in let b = t.sizes_long in length-take-le o.count o.sizes (omega arith)

    old_length : length (digits_of o) ≡ o.count
    old_length = let a = t.few in let b = t.digits_long in length-take-le o.count o.digits (omega arith)

    new_length : length (take o.count es) ≡ o.count
    new_length = let a = t.few in length-take-le o.count es (omega arith)

    -- what is known digit by digit, of the digits in use
    carried : (k : ℕ) → k ≤ o.count → ((j : ℕ) → j < k → get_or o.sizes j 0 ≤ suc (get_or o.digits j 0))
        → ((j : ℕ) → j < k → get_or es j 0 ≡ 0) → Carried k (sizes_in o) (digits_of o) (take o.count es)
    carried k h tops zeros =
        record {
          digits_long = old_length ∙ sym sizes_length;
          next_long = new_length ∙ sym sizes_length;
          tops =
              λ j l.
              let a = get_or-take o.count o.sizes j 0 (omega arith) in
              let b = get_or-take o.count o.digits j 0 (omega arith) in
              let top = tops j l in
              omega arith;
          zeros = λ j l. get_or-take o.count es j 0 (omega arith) ∙ zeros j l;
        }

  -- digit i turns
  pub turned : (o' : Odometer) → i < o.count → get_or ds i 0 + 1 < get_or o.sizes i 0 → o'.digits ≡ set ds i (get_or ds i 0 + 1) → o'.sizes ≡ o.sizes
      → o'.count ≡ o.count → NextIs o o' (Some i)
  turned o' h turn same_digits same_sizes same_count =
      let es = set ds i (get_or ds i 0 + 1) in
      let few = t.few in
      let long = length-set ds i (get_or ds i 0 + 1) ∙ c.long in
      let len = c.long in
      let here : get_or es i 0 ≡ get_or ds i 0 + 1 = get_or-set_same ds i (get_or ds i 0 + 1) 0 (omega arith) in
      let there : (j : ℕ) → (j ≡ i → ⊥) → get_or es j 0 ≡ get_or ds j 0 = λ j n. get_or-set_other ds i j (get_or ds i 0 + 1) 0 n in
      let same = c.kept i (omega arith) in
      let sl = sizes_length es long in
      let ts = get_or-take o.count o.sizes i 0 h in
      let td = get_or-take o.count o.digits i 0 h in
      let te = get_or-take o.count es i 0 h in
      let lengths = old_length es long ∙ sym sl in
      record {
        same_sizes = same_sizes;
        same_count = same_count;
        digits_next =
            ap (λ n. take n o'.digits) same_count ∙ ap (λ (xs : List ℕ). take o.count xs) same_digits
            ∙ next_turns i (sizes_in o) (digits_of o) (take o.count es)
            (carried es long i (omega arith) c.tops (λ j l. there j (λ q. omega arith) ∙ c.zeros j l)) (omega arith) (omega arith) (omega arith)
            (λ j l. pointwise es j l there);
        turned_is = (sym (turning_at (sizes_in o) (digits_of o) lengths i (omega arith) (carried es long i (omega arith) c.tops (λ j l. there j (λ q. omega arith) ∙ c.zeros j l)).tops (omega arith)), h);
      }
    where
      pointwise : (es : List ℕ) (j : ℕ) → i < j → ((j : ℕ) → (j ≡ i → ⊥) → get_or es j 0 ≡ get_or ds j 0) → get_or (take o.count es) j 0 ≡ get_or (digits_of o) j 0
      pointwise es j l there =
          elim (split j o.count) [
            | inl b ↦
                get_or-take o.count es j 0 b ∙ there j (λ q. omega arith) ∙ c.kept j (omega arith)
                ∙ sym (get_or-take o.count o.digits j 0 b)
            | inr b ↦ past_end es j b ∙ sym (past_end o.digits j b)
          ]
        where
          past_end : (xs : List ℕ) (j : ℕ) → o.count ≤ j → get_or (take o.count xs) j 0 ≡ 0
          past_end xs j b = lib.ListN.get_or-eq_default (take o.count xs) 0 (let m = lib.ListN.length-take o.count xs in omega arith)

  -- every digit was at its top
  pub wrapped : (o' : Odometer) → o.count ≤ i → o'.digits ≡ ds → o'.sizes ≡ o.sizes → o'.count ≡ o.count → NextIs o o' None
  wrapped o' h same_digits same_sizes same_count =
      let l = c.inside in
      let e : i ≡ o.count = omega arith in
      record {
        same_sizes = same_sizes;
        same_count = same_count;
        digits_next =
            ap (λ n. take n o'.digits) same_count ∙ ap (λ (xs : List ℕ). take o.count xs) same_digits
            ∙ next_wraps (sizes_in o) (digits_of o) (take o.count ds)
            (subst (λ m. Carried m (sizes_in o) (digits_of o) (take o.count ds)) (e ∙ sym (sizes_length ds c.long))
            (carried ds c.long i l c.tops c.zeros));
        turned_is =
            turning_none (sizes_in o) (digits_of o) (old_length ds c.long ∙ sym (sizes_length ds c.long))
            (subst (λ m. Carried m (sizes_in o) (digits_of o) (take o.count ds)) (e ∙ sym (sizes_length ds c.long))
            (carried ds c.long i l c.tops c.zeros)).tops
            ∙ sizes_length ds c.long;
      }

  -- digit i goes back to 0, and the next one is looked at
  pub carries : i < o.count → get_or o.sizes i 0 ≤ get_or ds i 0 + 1 → Carrying o (i + 1) (set ds i 0)
  carries h top =
      let few = t.few in
      let len = c.long in
      let same = c.kept i (omega arith) in
      record {
        inside = omega arith;
        long = length-set ds i 0 ∙ c.long;
        zeros = set_more (λ _ d. d ≡ 0) ds i 0 (omega arith) c.zeros refl;
        kept = λ j l. get_or-set_other ds i j 0 0 (λ q. omega arith) ∙ c.kept j (omega arith);
        tops =
            λ j l.
            elim (split j i) [
              | inl b ↦ c.tops j b
              | inr b ↦
                  subst (λ m. get_or o.sizes m 0 ≤ suc (get_or o.digits m 0)) (let q : i ≡ j = omega arith in q) (omega arith)
            ];
      }
