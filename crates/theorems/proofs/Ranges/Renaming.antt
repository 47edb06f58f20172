-- The small-model lemma: every assignment can be renamed into the ranges, so that within each component the same variables
-- are equal. A variable takes the rank of the first variable of its component with its value. Assumes nothing.
use mathlib.Core.Path.{◌≡◌, refl, sym, ap, ap₂, ◌∙◌, subst}
use Prim.Native.Nat.{ℕ, zero, suc, ◌+◌, ◌≤◌, ◌<◌}
use native.Mathlib.Omega.{arith}
use native.Mathlib.Nat.{add-zero}
use mathlib.Core.Bool.{Bool, true, false, ◌&&◌, cond, false≢true}
use mathlib.Core.Logic.{◌↔◌, inl, inr}
use lib.Dec.{eqb}
use borrow.Author.Tests.{eq-eqb, eqb-true}
use Rattle.definitions.specs.Ranges.{how_many, rank}
use Rattle.theorems.proofs.Laws.Tests.{and_intro, and_left, and_right, same_test, split}

how_many_same : (f g : ℕ → Bool) → ((i : ℕ) → f i ≡ g i) → (n : ℕ) → how_many f n ≡ how_many g n
how_many_same f g h zero = refl
how_many_same f g h (suc n) = ap₂ (λ (b : Bool) (m : ℕ). cond b 1 0 + m) (h n) (how_many_same f g h n)

-- a member below n counts
how_many_less : (f : ℕ → Bool) (m n : ℕ) → m < n → f m ≡ true → how_many f m < how_many f n
how_many_less f m zero h e = absurd (omega arith)
how_many_less f m (suc n) h e =
    elim (split m n) [
      | inl l ↦ let r = how_many_less f m n l e in omega arith
      | inr l ↦
          let q : m ≡ n = omega arith in
          let one : ◌≡◌ {A = ℕ} (cond (f n) 1 0) 1 = ap (λ (b : Bool). cond b 1 0) (subst (λ (x : ℕ). f x ≡ true) q e) in
          let eq : how_many f m ≡ how_many f n = ap (how_many f) q in
          omega arith
    ]

-- the first number from i on that passes the test, and i + m if none before that does
abbrev pub seek : (ℕ → Bool) → ℕ → ℕ → ℕ
seek f i zero = i
seek f i (suc m) = cond (f i) i (seek f (suc i) m)

record Sought (f : ℕ → Bool) (i m r : ℕ) : Type 0 where
  low : i ≤ r
  high : r ≤ i + m
  none : (j : ℕ) → i ≤ j → j < r → f j ≡ true → ⊥
  found : f (i + m) ≡ true → f r ≡ true

sought : (f : ℕ → Bool) (i m : ℕ) → Sought f i m (seek f i m)
sought f i zero =
    record {
      low = omega arith;
      high = omega arith;
      none = λ j l h e. omega arith;
      found = λ e. subst (λ (x : ℕ). f x ≡ true) (add-zero i) e;
    }
sought f i (suc m) = go (f i) refl (sought f (suc i) m)
  where
    go : (b : Bool) → f i ≡ b → Sought f (suc i) m (seek f (suc i) m) → Sought f i (suc m) (cond b i (seek f (suc i) m))
    go true e s =
        record { low = omega arith; high = omega arith; none = λ j l h e'. omega arith; found = λ _. e }
    go false e s =
        record {
          low = let l = s.low in omega arith;
          high = let h = s.high in omega arith;
          none =
              λ j l h e'.
              elim (split i j) [
                | inl i<j ↦ s.none j i<j h e'
                | inr j≤i ↦ false≢true (sym e ∙ subst (λ (x : ℕ). f x ≡ true) (omega arith) e')
              ];
          found = λ e'. s.found (subst (λ (x : ℕ). f x ≡ true) (omega arith) e');
        }

-- an equivalence on the variables below N
pub record Equivalence (J : ℕ → ℕ → Bool) (N : ℕ) : Type 0 where
  pub self : (u : ℕ) → J u u ≡ true
  pub back : (u v : ℕ) → J u v ≡ J v u
  pub on : (u v w : ℕ) → v < N → J u v ≡ true → J v w ≡ true → J u w ≡ true

-- u is in v's class and has v's value
abbrev pub twin : (ℕ → ℕ → Bool) → (ℕ → ℕ) → ℕ → ℕ → Bool
twin J a v u = J v u && eqb (a u) (a v)

-- the first variable of v's class with v's value, and its rank
abbrev pub rep : (ℕ → ℕ → Bool) → (ℕ → ℕ) → ℕ → ℕ
rep J a v = seek (twin J a v) 0 v

abbrev pub renamed : (ℕ → ℕ → Bool) → (ℕ → ℕ) → ℕ → ℕ
renamed J a v = rank J (rep J a v)

module _ (J : ℕ → ℕ → Bool) (N : ℕ) (E : Equivalence J N) where
  swap : (u v : ℕ) → J u v ≡ true → J v u ≡ true
  swap u v e = E.back v u ∙ e

  same_row : (u v : ℕ) → u < N → v < N → J u v ≡ true → (i : ℕ) → J u i ≡ J v i
  same_row u v hu hv e i = same_test (J u i) (J v i) (λ p. E.on v u i hu (swap u v e) p) (λ p. E.on u v i hv e p)

  rank_less : (u v : ℕ) → u < N → v < N → J u v ≡ true → u < v → rank J u < rank J v
  rank_less u v hu hv e l =
      let eq = how_many_same (J u) (J v) (same_row u v hu hv e) u in
      let r = how_many_less (J v) u v l (swap u v e) in
      omega arith

  rank_le : (u v : ℕ) → u < N → v < N → J u v ≡ true → u ≤ v → rank J u ≤ rank J v
  rank_le u v hu hv e l =
      elim (split u v) [
        | inl h ↦ let r = rank_less u v hu hv e h in omega arith
        | inr h ↦ let q = ap (rank J) (let q : u ≡ v = omega arith in q) in omega arith
      ]

  rank_inj : (u v : ℕ) → u < N → v < N → J u v ≡ true → rank J u ≡ rank J v → u ≡ v
  rank_inj u v hu hv e q =
      elim (split u v) [
        | inl h ↦ let r = rank_less u v hu hv e h in omega arith
        | inr h ↦
            elim (split v u) [
              | inl h' ↦ let r = rank_less v u hv hu (swap u v e) h' in omega arith
              | inr h' ↦ omega arith
            ]
      ]

  module _ (a : ℕ → ℕ) where
    twin_self : (v : ℕ) → twin J a v v ≡ true
    twin_self v = and_intro (J v v) (eqb (a v) (a v)) (E.self v) (eq-eqb (a v) (a v) refl)

    rep_found : (v : ℕ) → twin J a v (rep J a v) ≡ true
    rep_found v = (sought (twin J a v) 0 v).found (subst (λ (x : ℕ). twin J a v x ≡ true) (omega arith) (twin_self v))

    rep_le : (v : ℕ) → rep J a v ≤ v
    rep_le v = let h = (sought (twin J a v) 0 v).high in omega arith

    rep_joined : (v : ℕ) → J v (rep J a v) ≡ true
    rep_joined v = and_left (J v (rep J a v)) (eqb (a (rep J a v)) (a v)) (rep_found v)

    rep_value : (v : ℕ) → a (rep J a v) ≡ a v
    rep_value v = eqb-true (a (rep J a v)) (a v) (and_right (J v (rep J a v)) (eqb (a (rep J a v)) (a v)) (rep_found v))

    pub renamed_low : (v : ℕ) → 1 ≤ renamed J a v
    renamed_low v = omega arith

    pub renamed_high : (v : ℕ) → v < N → renamed J a v ≤ rank J v
    renamed_high v h =
        let l = rep_le v in
        rank_le (rep J a v) v (omega arith) h (swap v (rep J a v) (rep_joined v)) l

    module _ (u v : ℕ) (hu : u < N) (hv : v < N) (e : J u v ≡ true) where
      same_twin : a u ≡ a v → (i : ℕ) → twin J a u i ≡ twin J a v i
      same_twin q i = ap₂ ◌&&◌ (same_row u v hu hv e i) (ap (eqb (a i)) q)

      not_before : a u ≡ a v → rep J a u < rep J a v → ⊥
      not_before q l = (sought (twin J a v) 0 v).none (rep J a u) (omega arith) l (sym (same_twin q (rep J a u)) ∙ rep_found u)

      not_after : a u ≡ a v → rep J a v < rep J a u → ⊥
      not_after q l = (sought (twin J a u) 0 u).none (rep J a v) (omega arith) l (same_twin q (rep J a v) ∙ rep_found v)

      rep_same : a u ≡ a v → rep J a u ≡ rep J a v
      rep_same q = let b = not_before q in let c = not_after q in omega arith

      joined_reps : J (rep J a u) (rep J a v) ≡ true
      joined_reps =
          E.on (rep J a u) u (rep J a v) hu (swap u (rep J a u) (rep_joined u)) (E.on u v (rep J a v) hv e (rep_joined v))

      -- within a component the renaming keeps which variables are equal
      pub renamed_same : (a u ≡ a v) ↔ (renamed J a u ≡ renamed J a v)
      renamed_same = (
        λ q. ap (rank J) (rep_same q),
        λ q.
            let lu = rep_le u in
            let lv = rep_le v in
            sym (rep_value u) ∙ ap a (rank_inj (rep J a u) (rep J a v) (omega arith) (omega arith) joined_reps q) ∙ rep_value v,
      )
