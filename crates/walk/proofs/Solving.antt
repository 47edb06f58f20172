-- A tail solved, position by position, and a position in all its lanes, chunk by chunk. Assumes nothing.
use mathlib.Core.Path.{◌≡◌, sym, ap, ◌∙◌, subst}
use Prim.Native.Nat.{ℕ, suc, ◌+◌, ◌*◌, ◌-◌, ◌≤◌, ◌<◌}
use native.Mathlib.Omega.{arith}
use native.Mathlib.Nat.{mul-le-mul_left, mul-le-mul_right}
use mathlib.Core.List.{List}
use mathlib.Core.Logic.{inl, inr}
use lib.ListN.{length, get_or, take, drop, length-take, length-drop}
use lib.Seq.{get_or-take, get_or-drop}
use Rattle.theorems.proofs.Laws.Tests.{split}
use Rattle.walk.specs.declared.branches.Branch.{Branch}
use Rattle.walk.specs.Cells.{cell, one, takes, branch_in, Earlier, Ready, AllReady, Picked, Chosen}
use Rattle.walk.proofs.Laying.{chosen_equal}
use Rattle.walk.proofs.Putting.{Put}

-- sixteen lanes more of a branch, from where the lanes of its cells begin
module _
    (at h : ℕ)
    (br : Branch)
    (before cells lanes after : List ℕ)
    (c : Chosen (16 * h) at br before cells)
    (left right same apart : ℕ)
    (left_is : left ≡ br.left)
    (right_is : right ≡ br.right)
    (same_is : same ≡ br.same)
    (apart_is : apart ≡ br.apart)
    (picked : Picked cells (left + 16 * h) (right + 16 * h) (same + 16 * h) (apart + 16 * h) lanes)
    (laid : Put cells (at + 16 * h) 16 lanes after)
    (a : br.left + 16 * (h + 1) ≤ at)
    (b : br.right + 16 * (h + 1) ≤ at)
    (d : br.same + 16 * (h + 1) ≤ at)
    (e : br.apart + 16 * (h + 1) ≤ at) where
  read : (x y j : ℕ) → j < 16 → x ≡ y → y + 16 * (h + 1) ≤ at → get_or cells (x + 16 * h + j) 0 ≡ get_or before (y + (16 * h + j)) 0
  read x y j l q r =
      c.outside (x + 16 * h + j) (omega arith) ∙ ap (λ i. get_or before i 0) (let z : x + 16 * h + j ≡ y + (16 * h + j) = omega arith in z)

  fresh : (j : ℕ) → j < 16 → get_or after (at + (16 * h + j)) 0 ≡ takes before br (16 * h + j)
  fresh j l =
      ap (λ i. get_or after i 0) (let q : at + (16 * h + j) ≡ at + 16 * h + j = omega arith in q)
      ∙ laid.inside j l
      ∙ picked.lane j l
      ∙ chosen_equal _ _ _ _ _ _ _ _ (read left br.left j l left_is a) (read right br.right j l right_is b) (read same br.same j l same_is d)
      (read apart br.apart j l apart_is e)

  pub chunk_more : Chosen (16 * (h + 1)) at br before after
  chunk_more =
      record {
        inside =
            λ l g.
            elim (split l (16 * h)) [
              | inl u ↦ laid.outside (at + l) (inl (omega arith)) ∙ c.inside l u
              | inr u ↦
                  (let q : 16 * h + (l - 16 * h) ≡ l = omega arith in
                  subst (λ x. get_or after (at + x) 0 ≡ takes before br x) q (fresh (l - 16 * h) (omega arith)))
            ];
        outside = λ i g. laid.outside i (inl (omega arith)) ∙ c.outside i g;
      }

-- the loop over a tail: the positions before m are solved
pub record Solving (S : ℕ) (bs : List Branch) (from m : ℕ) (before after : List ℕ) : Type 0 where
  pub solves : (j l : ℕ) → from ≤ j → j < m → l < S → cell S after (42 + j) l ≡ takes after (branch_in bs j) l
  pub kept : (i : ℕ) → i < S * (42 + from) → get_or after i 0 ≡ get_or before i 0

module _
    (S : ℕ)
    (bs : List Branch)
    (cells after : List ℕ)
    (m : ℕ)
    (c : Chosen S (S * (42 + m)) (branch_in bs m) cells after) where
  -- a cell before position m's stays
  lower_stays : (j l : ℕ) → j < m → l < S → get_or after (S * (42 + j) + l) 0 ≡ get_or cells (S * (42 + j) + l) 0
  lower_stays j l h b =
      let u : S * suc (42 + j) ≤ S * (42 + m) = mul-le-mul_left S (let v : suc (42 + j) ≤ 42 + m = omega arith in v) in
      c.outside (S * (42 + j) + l) (omega arith)

  read_stays : (j at l : ℕ) → j ≤ m → l < S → Earlier S j at → get_or cells (at + l) 0 ≡ get_or after (at + l) 0
  read_stays j at l h b e =
      let u : S * (42 + j) ≤ S * (42 + m) = mul-le-mul_left S (let v : 42 + j ≤ 42 + m = omega arith in v) in
      sym (c.outside (at + l) (omega arith))

  takes_stays : (j l : ℕ) → j ≤ m → l < S → Ready S j (branch_in bs j) → takes cells (branch_in bs j) l ≡ takes after (branch_in bs j) l
  takes_stays j l h b r =
      chosen_equal _ _ _ _ _ _ _ _ (read_stays j _ l h b r.left) (read_stays j _ l h b r.right) (read_stays j _ l h b r.same)
      (read_stays j _ l h b r.apart)

  -- one position more is solved
  pub solves_more : (from : ℕ) (before : List ℕ) → from ≤ m → m < length bs → AllReady S bs → Solving S bs from m before cells
      → Solving S bs from (m + 1) before after
  solves_more from before f low ready s =
      record {
        solves =
            λ j l g h b.
            elim (split j m) [
              | inl u ↦ lower_stays j l u b ∙ s.solves j l g u b ∙ takes_stays j l (omega arith) b (ready j (omega arith))
              | inr u ↦
                  (let q : m ≡ j = omega arith in
                  subst (λ x. cell S after (42 + x) l ≡ takes after (branch_in bs x) l) q
                  (c.inside l b ∙ takes_stays m l (omega arith) b (ready m low)))
            ];
        kept =
            λ i h.
            (let u : S * (42 + from) ≤ S * (42 + m) = mul-le-mul_left S (let v : 42 + from ≤ 42 + m = omega arith in v) in
            c.outside i (omega arith) ∙ s.kept i h);
      }

-- the branches from one on
abbrev part : List Branch → ℕ → List Branch
part bs from = take (length bs - from) (drop from bs)

-- the next of them is solved
pub tail_more : (S : ℕ) (bs : List Branch) (from i at : ℕ) (before cells after : List ℕ) → from ≤ length bs → i < length (part bs from)
    → at ≡ S * (42 + (from + i)) → Chosen S at (branch_in (part bs from) i) cells after → AllReady S bs → Solving S bs from (from + i) before cells
    → Solving S bs from (from + (i + 1)) before after
tail_more S bs from i at before cells after f h e c ready s =
    let many : length (part bs from) ≡ length bs - from = simp (length-take, length-drop) (omega arith) in
    let same : branch_in (part bs from) i ≡ branch_in bs (from + i) =
    get_or-take (length bs - from) (drop from bs) i (one 0) (omega arith) ∙ get_or-drop from bs i (one 0)
    in
    let here : Chosen S (S * (42 + (from + i))) (branch_in bs (from + i)) cells after =
    subst (λ (a : ℕ). Chosen S a (branch_in bs (from + i)) cells after) e (subst (λ (b : Branch). Chosen S at b cells after) same c)
    in
    subst (λ (m : ℕ). Solving S bs from m before after) (let q : from + i + 1 ≡ from + (i + 1) = omega arith in q)
    (solves_more S bs cells after (from + i) here from before (omega arith) (omega arith) ready s)

-- a position's cell lies within the cells
pub place_fits : (S m nodes n at : ℕ) → at ≡ S * (42 + m) → m < nodes → S * (42 + nodes) ≤ n → at + S ≤ n
place_fits S m nodes n at e h long = let u : S * suc (42 + m) ≤ S * (42 + nodes) = mul-le-mul_left S (let v : suc (42 + m) ≤ 42 + nodes = omega arith in v) in omega arith

-- places of cells are small numbers
pub place_small : (S m nodes : ℕ) → S ≤ 128 → m ≤ nodes → nodes ≤ 2632 → S * (42 + m) ≤ 342272
place_small S m nodes s h b = let u : S * (42 + m) ≤ 128 * (42 + m) = mul-le-mul_right (42 + m) s in omega arith
