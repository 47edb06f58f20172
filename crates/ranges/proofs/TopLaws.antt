-- Counts of a set, ranks in a class, and the list of tops that they fill. Assumes nothing.
use mathlib.Core.Path.{◌≡◌, refl, sym, ap, ap₂, ◌∙◌}
use Prim.Native.Nat.{ℕ, zero, suc, ◌+◌, ◌-◌, ◌≤◌, ◌<◌}
use native.Mathlib.Omega.{arith}
use native.Mathlib.Numerals.{add-one}
use native.Mathlib.Nat.{add_comm}
use mathlib.Core.Bool.{Bool, cond}
use mathlib.Core.List.{List, [], ◌∷◌, ◌++◌, map, map-id}
use lib.ListN.{length, get_or, take, set, replicate, get_or-append}
use lib.Seq.{take_at, set_at, append_snoc, ext_get_or}
use Rattle.std.specs.List.{count_by, range_with_len}
use Rattle.std.proofs.lemmas.List.FromFn.{sum_by-map-range_with_len_more}
use Rattle.definitions.specs.Lists.{count_from, below}
use Rattle.definitions.specs.Problem.Node.{Node}
use Rattle.definitions.specs.Ranges.{Variables, how_many, rank, joined, tops, padded}
use Rattle.ranges.specs.Sets.{in_set, ClassesAre, rank_in}
use Rattle.theorems.proofs.Ranges.Adequate.{length_below, get_d_below}

-- the same count, of a range
pub how_many_counted : (f : Variables) (n : ℕ) → count_by f (range_with_len 0 n) ≡ how_many f n
how_many_counted f zero = refl
how_many_counted f (suc n) =
    ap (λ (m : ℕ). count_by f (range_with_len 0 m)) (sym (add-one n)) ∙ more
    ∙ ap (λ (m : ℕ). m + cond (f n) 1 0) (how_many_counted f n) ∙ add_comm (how_many f n) (cond (f n) 1 0)
  where
    more : count_by f (range_with_len 0 (n + 1)) ≡ count_by f (range_with_len 0 n) + cond (f n) 1 0
    more =
        let e = sum_by-map-range_with_len_more (λ u. cond (f u) 1 0) (λ u. u) 0 n n (omega arith) in
        simp map-id at e

-- how_many looks only below n
pub how_many_same : (f g : Variables) (n : ℕ) → ((u : ℕ) → u < n → f u ≡ g u) → how_many f n ≡ how_many g n
how_many_same f g zero h = refl
how_many_same f g (suc n) h =
    ap₂ (λ (b : Bool) (m : ℕ). cond b 1 0 + m) (h n (omega arith)) (how_many_same f g n (λ u l. h u (omega arith)))

module _ (f : ℕ → ℕ) where
  map_count_from : (m n : ℕ) → map f (count_from m (suc n)) ≡ map f (count_from m n) ++ (f (m + n) ∷ [])
  map_count_from m zero = ap {B = List ℕ} (λ i. f i ∷ []) (let e : m ≡ m + 0 = omega arith in e)
  map_count_from m (suc n) =
      ap {B = List ℕ} (λ xs. f m ∷ xs)
      (map_count_from (suc m) n
      ∙ ap (λ (i : ℕ). map f (count_from (suc m) n) ++ (f i ∷ [])) (let e : suc m + n ≡ m + suc n = omega arith in e))

  -- the next of 24 zeros becomes a top
  pub padded_next : (v : ℕ) → v < 24 → set (padded (map f (below v))) v (f v) ≡ padded (map f (below (v + 1)))
  padded_next v h =
      let p = map f (below v) in
      let r : List ℕ = replicate (23 - v) 0 in
      let l = length_below f v in
      let l' = length_below f (suc v) in
      ap (λ (n : ℕ). set (p ++ replicate n 0) v (f v)) (let e : 24 - length p ≡ suc (23 - v) = omega arith in e)
      ∙ set_at p 0 r (f v) v l
      ∙ sym (append_snoc p (f v) r)
      ∙ ap₂ (λ (xs : List ℕ) (n : ℕ). xs ++ replicate n 0)
      (sym (map_count_from 0 v ∙ ap (λ (i : ℕ). p ++ (f i ∷ [])) (let e : 0 + v ≡ v = omega arith in e)))
      (let e : 23 - v ≡ 24 - length (map f (below (suc v))) = omega arith in e)
      ∙ ap (λ (n : ℕ). padded (map f (below n))) (sym (add-one v))

  -- the tops that stand before the zeros
  module _ (n : ℕ) where
    pub padded_at : (v : ℕ) → v < n → get_or (padded (map f (below n))) v 0 ≡ f v
    padded_at v h =
        let l = length_below f n in
        get_or-append (map f (below n)) (replicate (24 - length (map f (below n))) 0) 0 v (omega arith) ∙ get_d_below f n v 0 h

    pub take_padded : take n (padded (map f (below n))) ≡ map f (below n)
    take_padded =
        take_at (map f (below n)) (replicate (24 - length (map f (below n))) 0) n (length_below f n)

-- every top is at least 1
pub tops_positive : (sets : List ℕ) (n : ℕ) (ts : List ℕ) → ts ≡ padded (map (rank_in sets) (below n)) → (v : ℕ)
    → v < length (take n ts) → 1 ≤ get_or (take n ts) v 0
tops_positive sets n ts e v h =
    let q = ap (take n) e ∙ take_padded (rank_in sets) n in
    let k : v < n = omega (arith, ap length q, length_below (rank_in sets) n) in
    omega (arith, ap (λ (xs : List ℕ). get_or xs v 0) q ∙ get_d_below (rank_in sets) n v 0 k)

-- the places of variables in their classes are their ranks in the components
pub ranks_are : (t : List Node) (N : ℕ) (sets : List ℕ) → ClassesAre t N sets → map (rank_in sets) (below N) ≡ tops t N
unfolding tops
ranks_are t N sets c =
    ext_get_or 0 (map (rank_in sets) (below N)) (map (rank (joined t N)) (below N)) (l ∙ sym (length_below (rank (joined t N)) N))
    (λ v h.
    let k : v < N = omega (arith, l) in
    get_d_below (rank_in sets) N v 0 k
    ∙ ap suc (how_many_same (in_set (get_or sets v 0)) (joined t N v) v (λ u i. c v u k (omega arith)))
    ∙ sym (get_d_below (rank (joined t N)) N v 0 k))
  where
    l : length (map (rank_in sets) (below N)) ≡ N
    l = length_below (rank_in sets) N
