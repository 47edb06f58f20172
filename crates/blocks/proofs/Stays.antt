-- The digits that a step from block to block moves: a digit that can move does so exactly up to the one that turns, and every other
-- stays. So a node keeps its value where its level is above that digit, and where it is not, the node depends on a digit that moved.
-- Assumes nothing.
use mathlib.Core.Path.{◌≡◌, refl, sym, ap, ◌∙◌, subst}
use Prim.Native.Nat.{ℕ, zero, suc, ◌+◌, ◌-◌, ◌≤◌, ◌<◌}
use native.Mathlib.Omega.{arith}
use mathlib.Core.Bool.{Bool, true, false, ◌&&◌, not, false≢true}
use mathlib.Core.List.{List, [], ◌∷◌, ◌++◌}
use mathlib.Core.Logic.{inl, inr}
use lib.ListN.{length, get_or, get_or-append}
use lib.Seq.{get_or-append-add}
use lib.Dec.{ltb}
use borrow.Author.Tests.{ltb-true, ltb-false}
use Rattle.definitions.specs.Problem.Node.{Node}
use Rattle.definitions.specs.Logic.{value_at, values}
use Rattle.definitions.specs.Places.{next, assignment}
use Rattle.theorems.proofs.Search.Places.{Within}
use Rattle.theorems.proofs.Laws.Tests.{split}
use Rattle.theorems.proofs.Tables.Free.{Free}
use Rattle.blocks.specs.Moves.{turning}
use Rattle.blocks.specs.Sets.{depends}
use Rattle.blocks.specs.Levels.{moves, level_of}
use Rattle.blocks.proofs.Moves.{Step, step_digits}
use Rattle.blocks.proofs.Depends.{agree_value}
use Rattle.blocks.proofs.Levels.{level_before, level_is}

pub within_at : (ss ds : List ℕ) → Within ss ds → (j : ℕ) → j < length ss → get_or ds j 0 < get_or ss j 0
within_at [] ds w j h = absurd (omega arith)
within_at (s ∷ ss) [] w j h = absurd w
within_at (s ∷ ss) (d ∷ ds) w zero h = w.0
within_at (s ∷ ss) (d ∷ ds) w (suc j) h = within_at ss ds w.1 j (omega arith)

pub within_length : (ss ds : List ℕ) → Within ss ds → length ds ≡ length ss
within_length [] [] w = refl
within_length [] (d ∷ ds) w = absurd w
within_length (s ∷ ss) [] w = absurd w
within_length (s ∷ ss) (d ∷ ds) w = ap suc (within_length ss ds w.1)

-- a digit past the last has no size
past_size : (ss : List ℕ) (j : ℕ) → 1 < get_or ss j 0 → j < length ss
past_size [] j h = absurd (omega arith)
past_size (s ∷ ss) zero h = omega arith
past_size (s ∷ ss) (suc j) h = let a = past_size ss j h in omega arith

past_stays : (ss ds : List ℕ) → length ds ≡ length ss → (j : ℕ) → length ss ≤ j → get_or (next ss ds) j 0 ≡ get_or ds j 0
past_stays [] [] l j h = refl
past_stays [] (d ∷ ds) l j h = absurd (omega arith)
past_stays (s ∷ ss) [] l j h = absurd (omega arith)
past_stays (s ∷ ss) (d ∷ ds) l zero h = absurd (omega arith)
past_stays (s ∷ ss) (d ∷ ds) l (suc j) h = go (past_stays ss ds (omega arith) j (omega arith)) (ltb (suc d) s)
  where
    go : get_or (next ss ds) j 0 ≡ get_or ds j 0 → (b : Bool)
        → get_or (elim b as (λ _. List ℕ) [ true ↦ suc d ∷ ds | false ↦ 0 ∷ next ss ds ]) (suc j) 0 ≡ get_or ds j 0
    go rest true = refl
    go rest false = rest

module _ (slow xs : List ℕ) (w : Within slow xs) where
  abbrev i : ℕ
  i = turning slow xs

  abbrev ys : List ℕ
  ys = next slow xs

  steps : Step slow xs i ys
  steps = step_digits slow xs (within_length slow xs w)

  -- a digit of one value stays
  single_stays : (j : ℕ) → j < length slow → get_or slow j 0 ≤ 1 → get_or xs j 0 ≡ get_or ys j 0
  single_stays j l s =
      let u = within_at slow xs w j l in
      elim (split j i) [
        | inl g ↦ (let z = steps.lower j g in omega arith)
        | inr g ↦ elim (split i j) [ inl f ↦ sym (steps.above j f) | inr f ↦ absurd (same (omega arith)) ]
      ]
    where
      same : i ≡ j → ⊥
      same e =
          let q : i < length slow = omega arith in
          let t = (steps.turned q).1 in
          let c : suc (get_or xs j 0) < get_or slow j 0 = subst (λ (x : ℕ). suc (get_or xs x 0) < get_or slow x 0) e t in
          omega arith

  -- one of more values, up to the turning one, moves
  lower_moves : (j : ℕ) → j < length slow → j ≤ i → 1 < get_or slow j 0 → get_or xs j 0 ≡ get_or ys j 0 → ⊥
  lower_moves j l g s e =
      elim (split j i) [
        | inl f ↦ (let z = steps.lower j f in let t = steps.tops j f in omega arith)
        | inr f ↦ same (omega arith)
      ]
    where
      same : i ≡ j → ⊥
      same q =
          let r : i < length slow = omega arith in
          let t = (steps.turned r).0 in
          let c : get_or ys j 0 ≡ suc (get_or xs j 0) = subst (λ (x : ℕ). get_or ys x 0 ≡ suc (get_or xs x 0)) q t in
          omega arith

  module _ (fast fs : List ℕ) (lf : length fs ≡ length fast) where
    abbrev F : ℕ
    F = length fast

    -- digit v of the whole: a fast one, or slow digit v - F
    low_part : (zs : List ℕ) (v : ℕ) → v < F → get_or (fs ++ zs) v 0 ≡ get_or fs v 0
    low_part zs v h = get_or-append fs zs 0 v (omega arith)

    high_part : (zs : List ℕ) (v : ℕ) → F ≤ v → get_or (fs ++ zs) v 0 ≡ get_or zs (v - F) 0
    high_part zs v h =
        ap (λ (u : ℕ). get_or (fs ++ zs) u 0) (let e : v ≡ length fs + (v - F) = omega arith in e)
        ∙ get_or-append-add fs zs (v - F) 0

    size_part : (v : ℕ) → F ≤ v → get_or (fast ++ slow) v 0 ≡ get_or slow (v - F) 0
    size_part v h =
        ap (λ (u : ℕ). get_or (fast ++ slow) u 0) (let e : v ≡ F + (v - F) = omega arith in e)
        ∙ get_or-append-add fast slow (v - F) 0

    slow_stays : (v : ℕ) → F ≤ v → get_or xs (v - F) 0 ≡ get_or ys (v - F) 0 → get_or (fs ++ xs) v 0 ≡ get_or (fs ++ ys) v 0
    slow_stays v h e = high_part xs v h ∙ e ∙ sym (high_part ys v h)

    -- a digit that cannot move stays
    pub idle_stays : (v : ℕ) → moves (length fast) (fast ++ slow) v ≡ false → get_or (fs ++ xs) v 0 ≡ get_or (fs ++ next slow xs) v 0
    idle_stays v h = go (ltb v F) refl (ltb 1 (get_or (fast ++ slow) v 0)) refl h
      where
        go : (a : Bool) → ltb v F ≡ a → (b : Bool) → ltb 1 (get_or (fast ++ slow) v 0) ≡ b → not a && b ≡ false
            → get_or (fs ++ xs) v 0 ≡ get_or (fs ++ ys) v 0
        go true p b q g = let l = ltb-true v F p in low_part xs v l ∙ sym (low_part ys v l)
        go false p true q g = absurd (false≢true (sym g))
        go false p false q g =
            let l = ltb-false v F p in
            slow_stays v l
            (elim (split (v - F) (length slow)) [
              | inl f ↦
                  single_stays (v - F) f (let s = ltb-false 1 (get_or (fast ++ slow) v 0) q in let e = size_part v l in omega arith)
              | inr f ↦ sym (past_stays slow xs (within_length slow xs w) (v - F) f)
            ])

    -- and so does one past the turning one
    pub above_stays : (v : ℕ) → length fast + turning slow xs < v → get_or (fs ++ xs) v 0 ≡ get_or (fs ++ next slow xs) v 0
    above_stays v h = slow_stays v (omega arith) (sym (steps.above (v - F) (omega arith)))

    -- one that can move does, up to the turning one
    pub digit_moves : (v : ℕ) → moves (length fast) (fast ++ slow) v ≡ true → v ≤ length fast + turning slow xs
        → get_or (fs ++ xs) v 0 ≡ get_or (fs ++ next slow xs) v 0 → ⊥
    digit_moves v h g e = go (ltb v F) refl (ltb 1 (get_or (fast ++ slow) v 0)) refl h
      where
        go : (a : Bool) → ltb v F ≡ a → (b : Bool) → ltb 1 (get_or (fast ++ slow) v 0) ≡ b → not a && b ≡ true → ⊥
        go true p b q z = false≢true z
        go false p false q z = false≢true z
        go false p true q z =
            let l = ltb-false v F p in
            let s : 1 < get_or slow (v - F) 0 = (let r = ltb-true 1 (get_or (fast ++ slow) v 0) q in let c = size_part v l in omega arith) in
            lower_moves (v - F) (past_size slow (v - F) s) (omega arith) s (sym (high_part xs v l) ∙ e ∙ high_part ys v l)

    module _ (N P : ℕ) (t : List Node) (free : Free N P t) (k : ℕ) (below : k < length t) where
      abbrev level : ℕ
      level = level_of N F (fast ++ slow) t k

      -- a node whose level is above the turning digit keeps its value
      pub above_value : length fast + turning slow xs < level_of N (length fast) (fast ++ slow) t k
          → value_at (values (assignment N (fs ++ xs)) [] t) k ≡ value_at (values (assignment N (fs ++ next slow xs)) [] t) k
      above_value h = agree_value N P t free (fs ++ xs) (fs ++ ys) k below agree
        where
          agree : (v : ℕ) → depends N t k v ≡ true → get_or (fs ++ xs) v 0 ≡ get_or (fs ++ ys) v 0
          agree v e =
              elim (split (F + i) v) [
                | inl g ↦ above_stays v g
                | inr g ↦ idle_stays v (level_before N P t free F (fast ++ slow) k v (omega arith) e)
              ]

      -- and one that is refreshed depends on a digit that moved
      pub refreshed_depends : level_of N (length fast) (fast ++ slow) t k ≤ length fast + turning slow xs → length fast + length slow ≤ 40
          → (v : ℕ) × (depends N t k v ≡ true) × (get_or (fs ++ xs) v 0 ≡ get_or (fs ++ next slow xs) v 0 → ⊥)
      refreshed_depends h few =
          let u = steps.inside in
          let r = level_is N P t free F (fast ++ slow) k (omega arith) in
          (level, r.0, digit_moves level r.1 h)
