-- A repeat takes the image of the node that the scan finds. Assumes nothing.
use mathlib.Core.Path.{◌≡◌, refl, sym, ap, ◌∙◌}
use Prim.Native.Nat.{ℕ, suc, ◌+◌, ◌-◌, ◌≤◌, ◌<◌}
use native.Mathlib.Omega.{arith}
use mathlib.Core.Bool.{Bool, true, false, not}
use mathlib.Core.List.{List, [], ◌∷◌}
use mathlib.Core.Option.{Option, none, some}
use lib.ListN.{length, get_or}
use Rattle.definitions.specs.Lists.{first_failing}
use Rattle.definitions.specs.Problem.Node.{Node, same}
use Rattle.definitions.specs.Problem.Ops.{op_of, is_app}
use Rattle.definitions.specs.Elimination.{State, earliest, repeat, add_app, copy, app_step, step}
use Rattle.theorems.proofs.Laws.Tests.{none≢some, some_same}

module _ (n : Node) where
  -- the scan's test: it stops at a node that is the same
  abbrev other : Node → Bool
  other m = not (same n m)

  pub scan_none : (i : ℕ) (ms : List Node) (images : List ℕ) → length images ≡ length ms → first_failing other i ms ≡ none → earliest n ms images ≡ none
  scan_none i [] images l e = refl
  scan_none i (m ∷ ms) [] l e = absurd (omega arith)
  scan_none i (m ∷ ms) (x ∷ images) l e = go (same n m) e (scan_none (suc i) ms images (omega arith))
    where
      go : (b : Bool) → ◌≡◌ {A = Option ℕ} (elim (not b) [ true ↦ first_failing other (suc i) ms | false ↦ some i ]) none
          → (first_failing other (suc i) ms ≡ none → earliest n ms images ≡ none)
          → ◌≡◌ {A = Option ℕ} (elim b [ true ↦ some x | false ↦ earliest n ms images ]) none
      go true e' rec = absurd (none≢some (sym e'))
      go false e' rec = rec e'

  -- what the scan finds: a number, and the image that goes with it
  pub record Scanned (i : ℕ) (ms : List Node) (images : List ℕ) (q : ℕ) : Type 0 where
    pub low : i ≤ q
    pub high : q < i + length ms
    pub image : earliest n ms images ≡ some (get_or images (q - i) 0)

  pub scan_some : (i : ℕ) (ms : List Node) (images : List ℕ) (q : ℕ) → length images ≡ length ms → first_failing other i ms ≡ some q
      → Scanned i ms images q
  scan_some i [] images q l e = absurd (none≢some e)
  scan_some i (m ∷ ms) [] q l e = absurd (omega arith)
  scan_some i (m ∷ ms) (x ∷ images) q l e = go (same n m) refl e (scan_some (suc i) ms images q (omega arith))
    where
      shown : (b : Bool) → same n m ≡ b → earliest n (m ∷ ms) (x ∷ images) ≡ elim b as (λ _. Option ℕ) [ true ↦ some x | false ↦ earliest n ms images ]
      shown b p = ap (λ (c : Bool). elim c as (λ _. Option ℕ) [ true ↦ some x | false ↦ earliest n ms images ]) p

      go : (b : Bool) → same n m ≡ b → ◌≡◌ {A = Option ℕ} (elim (not b) [ true ↦ first_failing other (suc i) ms | false ↦ some i ]) (some q)
          → (first_failing other (suc i) ms ≡ some q → Scanned (suc i) ms images q) → Scanned i (m ∷ ms) (x ∷ images) q
      go true p e' rec =
          let at = some_same i q e' in
          record {
            low = omega arith;
            high = omega arith;
            image = shown true p ∙ ap (λ j. some (get_or (x ∷ images) j 0)) (let z : 0 ≡ q - i = omega arith in z);
          }
      go false p e' rec =
          let r = rec e' in
          let a = r.low in
          let b = r.high in
          record {
            low = omega arith;
            high = omega arith;
            image = shown false p ∙ r.image ∙ ap (λ j. some (get_or (x ∷ images) j 0)) (let z : suc (q - suc i) ≡ q - i = omega arith in z);
          }

-- a step, where it is known which kind of node is taken
module _ (symbols : List ℕ) (st : State) (n : Node) where
  abbrev picked : Bool → State
  picked b = elim b as (λ _. State) [ true ↦ app_step symbols st n (earliest n st.done st.images) | false ↦ copy symbols st n ]

  pub step_copy : is_app (op_of n.op) ≡ false → step symbols st n ≡ copy symbols st n
  step_copy p = ap picked p

  pub step_repeat : (i : ℕ) → is_app (op_of n.op) ≡ true → earliest n st.done st.images ≡ some i → step symbols st n ≡ repeat st n i
  step_repeat i p e = ap picked p ∙ ap (app_step symbols st n) e

  pub step_new : is_app (op_of n.op) ≡ true → earliest n st.done st.images ≡ none → step symbols st n ≡ add_app symbols st n
  step_new p e = ap picked p ∙ ap (app_step symbols st n) e
