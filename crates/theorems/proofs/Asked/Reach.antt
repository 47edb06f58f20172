-- What the scan of the reached nodes finds (02, E2): numbers that rise, all that is wanted, the operands in use of all that is found, and
-- nothing else: each is wanted at the start or an operand of a later one. Assumes nothing.
use mathlib.Core.Path.{◌≡◌, refl, sym, ap, ◌∙◌, subst}
use Prim.Native.Nat.{ℕ, zero, suc, ◌<◌, ◌≤◌}
use native.Mathlib.Omega.{arith}
use mathlib.Core.Bool.{Bool, true, false, false≢true}
use mathlib.Core.Logic.{◌⊎◌, inl, inr}
use mathlib.Core.List.{List, [], ◌∷◌, ◌++◌}
use lib.ListN.{length, get_or, length-append}
use lib.Dec.{eqb}
use borrow.Author.Tests.{eqb-true, eq-eqb}
use Rattle.definitions.specs.Lists.{any, snoc}
use Rattle.definitions.specs.Problem.Node.{Node, node}
use Rattle.definitions.specs.Problem.Ops.{operands_of}
use Rattle.theorems.proofs.Laws.Tests.{or_cases, or_left, or_right, split}
use Rattle.theorems.proofs.Laws.Ops.{AllBelow}
use Rattle.definitions.specs.Problem.Asked.{wanted_below}

-- a number stands in a list
abbrev pub In : ℕ → List ℕ → Type 0
In k xs = any (eqb k) xs ≡ true

pub in_here : (k : ℕ) (xs : List ℕ) → In k (k ∷ xs)
in_here k xs = or_left (eqb k k) (any (eqb k) xs) (eq-eqb k k refl)

pub in_later : (k x : ℕ) (xs : List ℕ) → In k xs → In k (x ∷ xs)
in_later k x xs e = or_right (eqb k x) (any (eqb k) xs) e

pub in_split : (k x : ℕ) (xs : List ℕ) → In k (x ∷ xs) → (k ≡ x) ⊎ In k xs
in_split k x xs e = elim (or_cases (eqb k x) (any (eqb k) xs) e) [ inl p ↦ inl (eqb-true k x p) | inr p ↦ inr p ]

pub in_left : (k : ℕ) (xs ys : List ℕ) → In k xs → In k (xs ++ ys)
in_left k [] ys e = absurd (false≢true e)
in_left k (x ∷ xs) ys e =
    elim (or_cases (eqb k x) (any (eqb k) xs) e) [
      | inl p ↦ or_left (eqb k x) (any (eqb k) (xs ++ ys)) p
      | inr p ↦ or_right (eqb k x) (any (eqb k) (xs ++ ys)) (in_left k xs ys p)
    ]

pub in_right : (k : ℕ) (xs ys : List ℕ) → In k ys → In k (xs ++ ys)
in_right k [] ys e = e
in_right k (x ∷ xs) ys e = or_right (eqb k x) (any (eqb k) (xs ++ ys)) (in_right k xs ys e)

pub in_cases : (k : ℕ) (xs ys : List ℕ) → In k (xs ++ ys) → In k xs ⊎ In k ys
in_cases k [] ys e = inr e
in_cases k (x ∷ xs) ys e =
    elim (or_cases (eqb k x) (any (eqb k) (xs ++ ys)) e) [
      | inl p ↦ inl (or_left (eqb k x) (any (eqb k) xs) p)
      | inr p ↦ elim (in_cases k xs ys p) [ inl q ↦ inl (or_right (eqb k x) (any (eqb k) xs) q) | inr q ↦ inr q ]
    ]

pub in_one : (j k : ℕ) → In j (k ∷ []) → j ≡ k
in_one j k e = elim (in_split j k [] e) [ inl p ↦ p | inr p ↦ absurd (false≢true p) ]

pub below_in : (m : ℕ) (ks : List ℕ) (o : ℕ) → AllBelow m ks → In o ks → o < m
below_in m [] o b e = absurd (false≢true e)
below_in m (k ∷ ks) o b e =
    elim (in_split o k ks e) [ inl p ↦ (let h = b.0 in omega arith) | inr p ↦ below_in m ks o b.1 p ]

pub get_d_in : (xs : List ℕ) (i : ℕ) → i < length xs → In (get_or xs i 0) xs
get_d_in [] i h = absurd (omega arith)
get_d_in (x ∷ xs) zero h = in_here x xs
get_d_in (x ∷ xs) (suc i) h = in_later (get_or xs i 0) x xs (get_d_in xs i (omega arith))

-- each number is above the one before it, and the first is at least the bound
abbrev pub Rising : ℕ → List ℕ → Type 0
Rising lo [] = Unit {0}
Rising lo (x ∷ xs) = (lo ≤ x) × Rising (suc x) xs

pub snoc_rising : (lo : ℕ) (xs : List ℕ) (k : ℕ) → Rising lo xs → ((j : ℕ) → In j xs → j < k) → lo ≤ k → Rising lo (snoc xs k)
snoc_rising lo [] k r b h = (h, tt)
snoc_rising lo (x ∷ xs) k r b h =
    (r.0, snoc_rising (suc x) xs k r.1 (λ j i. b j (in_later j x xs i)) (let l = b x (in_here x xs) in omega arith))

pub rising_above : (lo : ℕ) (xs : List ℕ) → Rising lo xs → (j : ℕ) → In j xs → lo ≤ j
rising_above lo [] r j i = absurd (false≢true i)
rising_above lo (x ∷ xs) r j i =
    let l = r.0 in
    elim (in_split j x xs i) [ inl p ↦ omega arith | inr p ↦ (let h = rising_above (suc x) xs r.1 j p in omega arith) ]

module _ (symbols : List ℕ) (t : List Node) where
  abbrev pub ops : ℕ → List ℕ
  ops k = operands_of symbols (node t k)

  -- what a scan below k gives, with these wanted
  pub record Reaches (k : ℕ) (wanted r : List ℕ) : Type 0 where
    pub below : (j : ℕ) → In j r → j < k
    pub rising : Rising 0 r
    pub short : length r ≤ k
    pub has : (j : ℕ) → j < k → In j wanted → In j r
    pub closed : (j o : ℕ) → In j r → In o (ops j) → In o r
    pub used : (j : ℕ) → In j r → In j wanted ⊎ ((i : ℕ) × (j < i) × In i r × In j (ops i))

  module _ (earlier : (k : ℕ) → k < length t → AllBelow k (ops k)) where
    -- node k is wanted
    with_node : (k : ℕ) → k < length t → (wanted r : List ℕ) → In k wanted → Reaches k (ops k ++ wanted) r → Reaches (suc k) wanted (snoc r k)
    with_node k h wanted r here rec =
        let lower : (j : ℕ) → In j (snoc r k) → In j r ⊎ (j ≡ k) = λ j i. elim (in_cases j r (k ∷ []) i) [ inl p ↦ inl p | inr p ↦ inr (in_one j k p) ] in
        record {
          below = λ j i. elim (lower j i) [ inl p ↦ (let l = rec.below j p in omega arith) | inr p ↦ omega arith ];
          rising = snoc_rising 0 r k rec.rising rec.below (omega arith);
          short = (let l = rec.short in let e = length-append r (k ∷ []) in omega arith);
          has =
              λ j l i.
              elim (split j k) [
                | inl p ↦ in_left j r (k ∷ []) (rec.has j p (in_right j (ops k) wanted i))
                | inr p ↦ in_right j r (k ∷ []) (subst (λ (x : ℕ). In j (x ∷ [])) (let q : j ≡ k = omega arith in q) (in_here j []))
              ];
          closed =
              λ j o i u.
              in_left o r (k ∷ [])
              (elim (lower j i) [
                | inl p ↦ rec.closed j o p u
                | inr p ↦
                    let v : In o (ops k) = subst (λ (x : ℕ). In o (ops x)) p u in
                    rec.has o (below_in k (ops k) o (earlier k h) v) (in_left o (ops k) wanted v)
              ]);
          used =
              λ j i.
              elim (lower j i) [
                | inl p ↦
                    elim (rec.used j p) [
                      | inl q ↦
                          elim (in_cases j (ops k) wanted q) [
                            | inl u ↦ inr (k, rec.below j p, in_right k r (k ∷ []) (in_here k []), u)
                            | inr w ↦ inl w
                          ]
                      | inr q ↦ inr (q.0, q.1, in_left q.0 r (k ∷ []) q.2, q.3)
                    ]
                | inr p ↦ inl (subst (λ (x : ℕ). In x wanted) (sym p) here)
              ];
        }

    -- node k is not
    without_node : (k : ℕ) (wanted r : List ℕ) → any (eqb k) wanted ≡ false → Reaches k wanted r → Reaches (suc k) wanted r
    without_node k wanted r away rec =
        record {
          below = λ j i. (let l = rec.below j i in omega arith);
          rising = rec.rising;
          short = (let l = rec.short in omega arith);
          has =
              λ j l i.
              elim (split j k) [
                | inl p ↦ rec.has j p i
                | inr p ↦ absurd (false≢true (sym away ∙ subst (λ (x : ℕ). In x wanted) (let q : j ≡ k = omega arith in q) i))
              ];
          closed = rec.closed;
          used = rec.used;
        }

    pub reaches : (k : ℕ) → k ≤ length t → (wanted : List ℕ) → Reaches k wanted (wanted_below symbols t k wanted)
    reaches zero h wanted =
        record {
          below = λ j i. absurd (false≢true i);
          rising = tt;
          short = omega arith;
          has = λ j l i. absurd (omega arith);
          closed = λ j o i u. absurd (false≢true i);
          used = λ j i. absurd (false≢true i);
        }
    reaches (suc k) h wanted =
        go (any (eqb k) wanted) refl (reaches k (omega arith) (ops k ++ wanted)) (reaches k (omega arith) wanted)
      where
        go : (b : Bool) → any (eqb k) wanted ≡ b → Reaches k (ops k ++ wanted) (wanted_below symbols t k (ops k ++ wanted))
            → Reaches k wanted (wanted_below symbols t k wanted)
            → Reaches (suc k) wanted
            (elim b [ true ↦ snoc (wanted_below symbols t k (ops k ++ wanted)) k | false ↦ wanted_below symbols t k wanted ])
        go true e w wo = with_node k (omega arith) wanted (wanted_below symbols t k (ops k ++ wanted)) e w
        go false e w wo = without_node k wanted (wanted_below symbols t k wanted) e wo

-- the scan from the root: the root is its last
pub root_last : (symbols : List ℕ) (t : List Node) (m : ℕ)
    → wanted_below symbols t (suc m) (m ∷ []) ≡ snoc (wanted_below symbols t m (operands_of symbols (node t m) ++ m ∷ [])) m
root_last symbols t m = ap pick (in_here m [])
  where
    pick : Bool → List ℕ
    pick b =
        elim b [
          | true ↦ snoc (wanted_below symbols t m (operands_of symbols (node t m) ++ m ∷ [])) m
          | false ↦ wanted_below symbols t m (m ∷ [])
        ]
