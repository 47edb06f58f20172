-- What a step refreshes: exactly the nodes that depend on a digit that moved (02, E7). Assumes nothing.
use mathlib.Core.Path.{◌≡◌}
use Prim.Native.Nat.{ℕ, ◌+◌, ◌≤◌, ◌<◌}
use native.Mathlib.Omega.{arith}
use mathlib.Core.Bool.{true, false}
use mathlib.Core.List.{List, ◌++◌}
use mathlib.Core.Logic.{inl, inr}
use lib.ListN.{length, get_or}
use Rattle.definitions.specs.Problem.Node.{Node}
use Rattle.definitions.specs.Places.{next}
use Rattle.theorems.proofs.Laws.Tests.{split}
use Rattle.theorems.proofs.Search.Places.{Within}
use Rattle.theorems.proofs.Tables.Free.{Free}
use Rattle.blocks.specs.Moves.{turning}
use Rattle.blocks.specs.Sets.{depends}
use Rattle.blocks.specs.Levels.{moves, level_of}
use Rattle.blocks.specs.Order.{start_of, pos_of}
use Rattle.blocks.proofs.Levels.{level_before}
use Rattle.blocks.proofs.Order.{pos_head, pos_tail}
use Rattle.blocks.proofs.Stays.{above_stays, idle_stays, refreshed_depends}

module _
    (N P : ℕ)
    (t : List Node)
    (free : Free N P t)
    (slow xs : List ℕ)
    (w : Within slow xs)
    (fast fs : List ℕ)
    (lf : length fs ≡ length fast)
    (few : length fast + length slow ≤ 40)
    (k : ℕ)
    (below : k < length t) where
  abbrev level : ℕ → ℕ
  level = level_of N (length fast) (fast ++ slow) t

  abbrev turned : ℕ
  turned = length fast + turning slow xs

  -- digit v is another after the step
  abbrev Moved : ℕ → Type 0
  Moved v = get_or (fs ++ xs) v 0 ≡ get_or (fs ++ next slow xs) v 0 → ⊥

  -- a node of the tail depends on a digit that moved
  pub refreshed_moved : start_of (level_of N (length fast) (fast ++ slow) t) (length t) (length fast + turning slow xs)
      ≤ pos_of (level_of N (length fast) (fast ++ slow) t) (length t) k
      → (v : ℕ) × (depends N t k v ≡ true) × (get_or (fs ++ xs) v 0 ≡ get_or (fs ++ next slow xs) v 0 → ⊥)
  refreshed_moved h =
      refreshed_depends slow xs w fast fs lf N P t free k below
      (elim (split turned (level k)) [
        | inl g ↦ absurd (let z = pos_head level (length t) turned k below g in omega arith)
        | inr g ↦ g
      ])
      few

  -- and a node that depends on one is in the tail
  pub moved_refreshed : (v : ℕ) → depends N t k v ≡ true → (get_or (fs ++ xs) v 0 ≡ get_or (fs ++ next slow xs) v 0 → ⊥)
      → start_of (level_of N (length fast) (fast ++ slow) t) (length t) (length fast + turning slow xs)
      ≤ pos_of (level_of N (length fast) (fast ++ slow) t) (length t) k
  moved_refreshed v d m = pos_tail level (length t) turned k low
    where
      can_move : moves (length fast) (fast ++ slow) v ≡ false → ⊥
      can_move e = m (idle_stays slow xs w fast fs lf v e)

      up_to : v ≤ turned
      up_to = elim (split turned v) [ inl g ↦ absurd (m (above_stays slow xs w fast fs lf v g)) | inr g ↦ g ]

      low : level k ≤ turned
      low =
          elim (split v (level k)) [
            | inl g ↦ absurd (can_move (level_before N P t free (length fast) (fast ++ slow) k v g d))
            | inr g ↦ (let u = up_to in omega arith)
          ]
