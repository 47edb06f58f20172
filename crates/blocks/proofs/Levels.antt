-- A node's level: no digit before it that the node depends on can move, it is such a digit itself where it is not 64, and an
-- operand's is no lower. Assumes nothing.
use mathlib.Core.Path.{◌≡◌, refl, sym, ap, ◌∙◌}
use Prim.Native.Nat.{ℕ, zero, suc, ◌≤◌, ◌<◌}
use native.Mathlib.Omega.{arith}
use mathlib.Core.Bool.{Bool, true, false, ◌&&◌, false≢true}
use mathlib.Core.List.{List, [], ◌∷◌}
use lib.ListN.{length}
use Rattle.definitions.specs.Problem.Node.{Node}
use Rattle.theorems.proofs.Laws.Tests.{and_left, and_right}
use Rattle.theorems.proofs.Tables.Free.{Free}
use Rattle.blocks.specs.Sets.{depends}
use Rattle.blocks.specs.Levels.{first_of, moves, level_of}
use Rattle.blocks.proofs.Depends.{Each, operands_at, depends_operands}

-- the first that passes
pub first_most : (f : ℕ → Bool) (n : ℕ) → first_of f n ≤ n
first_most f zero = omega arith
first_most f (suc n) = go (first_most (λ j. f (suc j)) n) (f 0)
  where
    go : first_of (λ j. f (suc j)) n ≤ n → (b : Bool) → elim b as (λ _. ℕ) [ true ↦ 0 | false ↦ suc (first_of (λ j. f (suc j)) n) ] ≤ suc n
    go rest true = omega arith
    go rest false = omega arith

pub first_before : (f : ℕ → Bool) (n v : ℕ) → v < first_of f n → f v ≡ false
first_before f zero v h = absurd (omega arith)
first_before f (suc n) v h = go (first_before (λ j. f (suc j)) n) (f 0) refl v h
  where
    go : ((u : ℕ) → u < first_of (λ j. f (suc j)) n → f (suc u) ≡ false) → (b : Bool) → f 0 ≡ b → (u : ℕ) → u < elim b as (λ _. ℕ) [ true ↦ 0 | false ↦ suc (first_of (λ j. f (suc j)) n) ] → f u ≡ false
    go rest true e u l = absurd (omega arith)
    go rest false e zero l = e
    go rest false e (suc u) l = rest u (omega arith)

pub first_passes : (f : ℕ → Bool) (n : ℕ) → first_of f n < n → f (first_of f n) ≡ true
first_passes f zero h = absurd (omega arith)
first_passes f (suc n) h = go (first_passes (λ j. f (suc j)) n) (f 0) refl h
  where
    go : (first_of (λ j. f (suc j)) n < n → f (suc (first_of (λ j. f (suc j)) n)) ≡ true) → (b : Bool) → f 0 ≡ b → elim b as (λ _. ℕ) [ true ↦ 0 | false ↦ suc (first_of (λ j. f (suc j)) n) ] < suc n
        → f (elim b as (λ _. ℕ) [ true ↦ 0 | false ↦ suc (first_of (λ j. f (suc j)) n) ]) ≡ true
    go rest true e l = e
    go rest false e l = rest (omega arith)

-- where more pass, the first is no later
pub first_less : (f g : ℕ → Bool) (n : ℕ) → ((v : ℕ) → f v ≡ true → g v ≡ true) → first_of g n ≤ first_of f n
first_less f g zero h = omega arith
first_less f g (suc n) h = go (first_less (λ j. f (suc j)) (λ j. g (suc j)) n (λ v. h (suc v))) (f 0) refl (g 0) refl
  where
    go : first_of (λ j. g (suc j)) n ≤ first_of (λ j. f (suc j)) n → (b : Bool) → f 0 ≡ b → (c : Bool) → g 0 ≡ c
        → elim c as (λ _. ℕ) [ true ↦ 0 | false ↦ suc (first_of (λ j. g (suc j)) n) ] ≤ elim b as (λ _. ℕ) [ true ↦ 0 | false ↦ suc (first_of (λ j. f (suc j)) n) ]
    go rest b p true q = omega arith
    go rest true p false q = absurd (false≢true (sym q ∙ h 0 p))
    go rest false p false q = omega arith

-- one that passes where another does
pub first_same_lem : (f g : ℕ → Bool) (n : ℕ) → ((v : ℕ) → f v ≡ g v) → first_of f n ≡ first_of g n
first_same_lem f g n h =
    let a = first_less f g n (λ v e. sym (h v) ∙ e) in
    let b = first_less g f n (λ v e. h v ∙ e) in
    omega arith

and_more : (a b c : Bool) → (a ≡ true → c ≡ true) → a && b ≡ true → c && b ≡ true
and_more true b c h e = ap (λ x. x && b) (h refl) ∙ e
and_more false b c h e = absurd (false≢true e)

module _ (N P : ℕ) (t : List Node) (free : Free N P t) (F : ℕ) (sizes : List ℕ) where
  -- a digit of the set that comes before the level cannot move
  pub level_before : (k v : ℕ) → v < level_of N F sizes t k → depends N t k v ≡ true → moves F sizes v ≡ false
  level_before k v h e =
      ap (λ x. x && moves F sizes v) (sym e) ∙ first_before (λ u. depends N t k u && moves F sizes u) 64 v h

  -- the level is a digit of the set that can move
  pub level_is : (k : ℕ) → level_of N F sizes t k < 64
      → (depends N t k (level_of N F sizes t k) ≡ true) × (moves F sizes (level_of N F sizes t k) ≡ true)
  level_is k h =
      let l = level_of N F sizes t k in
      let e = first_passes (λ u. depends N t k u && moves F sizes u) 64 h in
      (and_left (depends N t k l) (moves F sizes l) e, and_right (depends N t k l) (moves F sizes l) e)

  each_level : (k : ℕ) (ks : List ℕ) → ((v : ℕ) → Each (λ j. depends N t j v ≡ true → depends N t k v ≡ true) ks)
      → Each (λ j. level_of N F sizes t k ≤ level_of N F sizes t j) ks
  each_level k [] g = tt
  each_level k (j ∷ ks) g = (
    first_less (λ u. depends N t j u && moves F sizes u) (λ u. depends N t k u && moves F sizes u) 64
        (λ v. and_more (depends N t j v) (moves F sizes v) (depends N t k v) (g v).0),
    each_level k ks (λ v. (g v).1),
  )

  -- operands depend on no more than the node does
  pub level_operands : (k : ℕ) → k < length t → Each (λ j. level_of N F sizes t k ≤ level_of N F sizes t j) (operands_at t k)
  level_operands k h = each_level k (operands_at t k) (λ v. depends_operands N P t free k v h)
