-- What loops over marks need (02, E2): the scan depends on what is wanted only through marks; the marks after a loop from the root down are
-- the reached nodes; and a counter that steps at each mark is the number among them. Assumes nothing.
use mathlib.Core.Path.{◌≡◌, refl, sym, ap, ◌∙◌, subst}
use Prim.Native.Nat.{ℕ, zero, suc, ◌+◌, ◌<◌, ◌≤◌}
use native.Mathlib.Omega.{arith}
use mathlib.Core.Bool.{Bool, true, false, ◌||◌, true≢false, false≢true}
use mathlib.Core.Logic.{◌⊎◌, inl, inr}
use mathlib.Core.List.{List, [], ◌∷◌, ◌++◌}
use lib.ListN.{length}
use lib.Dec.{eqb}
use Rattle.definitions.specs.Lists.{any, snoc}
use Rattle.definitions.specs.Problem.Node.{Node, node}
use Rattle.definitions.specs.Problem.Ops.{operands_of}
use Rattle.theorems.proofs.Laws.Tests.{or_cases, same_test, split}
use Rattle.theorems.proofs.Laws.Ops.{AllBelow}
use Rattle.definitions.specs.Problem.Asked.{wanted_below, number_in}
use Rattle.theorems.proofs.Asked.Reach.{In, in_here, in_later, in_split, in_left, in_right, in_cases, in_one, below_in, Rising, rising_above, reaches}
use Rattle.theorems.proofs.Asked.Numbers.{none_below, skip, count}

-- mark j: whether j is wanted
abbrev pub mark : List ℕ → ℕ → Bool
mark wanted j = any (eqb j) wanted

pub mark_append : (j : ℕ) (xs ys : List ℕ) → mark (xs ++ ys) j ≡ mark xs j || mark ys j
mark_append j xs ys =
    same_test (mark (xs ++ ys) j) (mark xs j || mark ys j)
    (λ e. go (in_cases j xs ys e))
    (λ e. elim (or_cases (mark xs j) (mark ys j) e) [ inl p ↦ in_left j xs ys p | inr p ↦ in_right j xs ys p ])
  where
    right : (a b : Bool) → b ≡ true → a || b ≡ true
    right true b e = refl
    right false b e = e

    go : In j xs ⊎ In j ys → mark xs j || mark ys j ≡ true
    go (inl p) = ap (λ (b : Bool). b || mark ys j) p
    go (inr p) = right (mark xs j) (mark ys j) p

module _ (symbols : List ℕ) (t : List Node) where
  abbrev ops : ℕ → List ℕ
  ops k = operands_of symbols (node t k)

  -- the scan sees marks below k alone
  pub wanted_same : (k : ℕ) (w v : List ℕ) → ((j : ℕ) → j < k → mark w j ≡ mark v j) → wanted_below symbols t k w ≡ wanted_below symbols t k v
  wanted_same zero w v f = refl
  wanted_same (suc k) w v f =
      go (mark w k) (mark v k) (f k (omega arith))
      (wanted_same k (ops k ++ w) (ops k ++ v)
      (λ j h. mark_append j (ops k) w ∙ ap (λ (b : Bool). mark (ops k) j || b) (f j (omega arith)) ∙ sym (mark_append j (ops k) v)))
      (wanted_same k w v (λ j h. f j (omega arith)))
    where
      go : (a b : Bool) → a ≡ b → wanted_below symbols t k (ops k ++ w) ≡ wanted_below symbols t k (ops k ++ v) → wanted_below symbols t k w ≡ wanted_below symbols t k v
          → ◌≡◌ {A = List ℕ} (elim a [ true ↦ snoc (wanted_below symbols t k (ops k ++ w)) k | false ↦ wanted_below symbols t k w ])
          (elim b [ true ↦ snoc (wanted_below symbols t k (ops k ++ v)) k | false ↦ wanted_below symbols t k v ])
      go true true e p q = ap (λ (xs : List ℕ). snoc xs k) p
      go true false e p q = absurd (true≢false e)
      go false true e p q = absurd (false≢true e)
      go false false e p q = q

  -- what is marked after the loop from k - 1 down to 0: at each marked node its operands in use are marked
  abbrev pub marked_below : ℕ → List ℕ → List ℕ
  marked_below zero w = w
  marked_below (suc k) w = elim (mark w k) [ true ↦ marked_below k (ops k ++ w) | false ↦ marked_below k w ]

  module _ (earlier : (k : ℕ) → k < length t → AllBelow k (ops k)) where
    -- the loop marks nothing at or above where it stands
    pub stays_marked : (k : ℕ) → k ≤ length t → (w : List ℕ) (j : ℕ) → k ≤ j → mark (marked_below k w) j ≡ mark w j
    stays_marked zero h w j l = refl
    stays_marked (suc k) h w j l = go (mark w k) (stays_marked k (omega arith) (ops k ++ w) j (omega arith)) (stays_marked k (omega arith) w j (omega arith))
      where
        none_there : mark (ops k) j ≡ false
        none_there =
            same_test (mark (ops k) j) false
            (λ e. (let b = below_in k (ops k) j (earlier k (omega arith)) e in absurd (omega arith))) (λ e. absurd (false≢true e))

        go : (b : Bool) → mark (marked_below k (ops k ++ w)) j ≡ mark (ops k ++ w) j → mark (marked_below k w) j ≡ mark w j
            → mark (elim b [ true ↦ marked_below k (ops k ++ w) | false ↦ marked_below k w ]) j ≡ mark w j
        go true p q = p ∙ mark_append j (ops k) w ∙ ap (λ (b : Bool). b || mark w j) none_there
        go false p q = q

    -- after it, the marks below k are the nodes that the scan finds
    pub marks_found : (k : ℕ) → k ≤ length t → (w : List ℕ) (j : ℕ) → j < k → mark (wanted_below symbols t k w) j ≡ mark (marked_below k w) j
    marks_found zero h w j l = absurd (omega arith)
    marks_found (suc k) h w j l =
        go (mark w k) refl (marks_found k (omega arith) (ops k ++ w) j) (marks_found k (omega arith) w j) (split j k)
      where
        go : (b : Bool) → mark w k ≡ b → (j < k → mark (wanted_below symbols t k (ops k ++ w)) j ≡ mark (marked_below k (ops k ++ w)) j)
            → (j < k → mark (wanted_below symbols t k w) j ≡ mark (marked_below k w) j) → (j < k) ⊎ (k ≤ j)
            → mark (elim b [ true ↦ snoc (wanted_below symbols t k (ops k ++ w)) k | false ↦ wanted_below symbols t k w ]) j
            ≡ mark (elim b [ true ↦ marked_below k (ops k ++ w) | false ↦ marked_below k w ]) j
        go true e p q (inl h') =
            let rec = wanted_below symbols t k (ops k ++ w) in
            same_test (mark (snoc rec k) j) (mark (marked_below k (ops k ++ w)) j)
            (λ i.
            elim (in_cases j rec (k ∷ []) i) [
              | inl u ↦ sym (p h') ∙ u
              | inr u ↦ (let z = in_one j k u in absurd (omega arith))
            ])
            (λ i. in_left j rec (k ∷ []) (p h' ∙ i))
        go true e p q (inr h') =
            let z : k ≡ j = omega arith in
            let rec = wanted_below symbols t k (ops k ++ w) in
            subst (λ (x : ℕ). mark (snoc rec k) x ≡ mark (marked_below k (ops k ++ w)) x) z
            (in_right k rec (k ∷ []) (in_here k [])
            ∙ sym (stays_marked k (omega arith) (ops k ++ w) k (omega arith) ∙ in_right k (ops k) w e))
        go false e p q (inl h') = q h'
        go false e p q (inr h') =
            let z : k ≡ j = omega arith in
            let r = reaches symbols t earlier k (omega arith) w in
            subst (λ (x : ℕ). mark (wanted_below symbols t k w) x ≡ mark (marked_below k w) x) z
            (same_test (mark (wanted_below symbols t k w) k) false (λ i. (let b = r.below k i in absurd (omega arith))) (λ i. absurd (false≢true i))
            ∙ sym (stays_marked k (omega arith) w k (omega arith) ∙ e))

-- the counter of the loop upwards: one more at each mark
abbrev pub one : Bool → ℕ
one true = 1
one false = 0

pub number_next : (lo : ℕ) (xs : List ℕ) → Rising lo xs → (k : ℕ) → number_in xs (suc k) ≡ number_in xs k + one (mark xs k)
number_next lo [] r k = refl
number_next lo (x ∷ xs) r k = go (split x k) (number_next (suc x) xs r.1 k)
  where
    marked : (b : Bool) → mark (x ∷ xs) k ≡ b → one (mark (x ∷ xs) k) ≡ one b
    marked b e = ap one e

    go : (x < k) ⊎ (k ≤ x) → number_in xs (suc k) ≡ number_in xs k + one (mark xs k) → number_in (x ∷ xs) (suc k) ≡ number_in (x ∷ xs) k + one (mark (x ∷ xs) k)
    go (inl l) rec =
        let a = count x xs (suc k) (omega arith) in
        let b = count x xs k l in
        let m : mark (x ∷ xs) k ≡ mark xs k =
        same_test (mark (x ∷ xs) k) (mark xs k) (λ i. elim (in_split k x xs i) [ inl p ↦ absurd (omega arith) | inr p ↦ p ]) (λ i. in_later k x xs i)
        in
        let c = ap one m in
        omega arith
    go (inr l) rec =
        elim (split k x) [
          | inl h ↦
              let a = skip x xs (suc k) (omega arith) in
              let a' = none_below (suc x) xs (suc k) r.1 (omega arith) in
              let b = skip x xs k l in
              let b' = none_below (suc x) xs k r.1 (omega arith) in
              let m : mark (x ∷ xs) k ≡ false =
              same_test (mark (x ∷ xs) k) false
              (λ i.
              elim (in_split k x xs i) [
                | inl p ↦ absurd (omega arith)
                | inr p ↦ (let z = rising_above (suc x) xs r.1 k p in absurd (omega arith))
              ])
              (λ i. absurd (false≢true i))
              in
              let c = marked false m in
              omega arith
          | inr h ↦
              let e : x ≡ k = omega arith in
              let a = count x xs (suc k) (omega arith) in
              let a' = none_below (suc x) xs (suc k) r.1 (omega arith) in
              let b = skip x xs k l in
              let b' = none_below (suc x) xs k r.1 (omega arith) in
              let c = marked true (subst (λ (y : ℕ). In k (y ∷ xs)) (sym e) (in_here k xs)) in
              omega arith
        ]
