-- One step of elimination, by cases: a node is copied, a repeat, or a distinct application. Assumes nothing.
use mathlib.Core.Path.{◌≡◌, refl}
use Prim.Native.Nat.{ℕ}
use native.Mathlib.Omega.{arith}
use mathlib.Core.Bool.{Bool, true, false}
use mathlib.Core.List.{List, [], ◌∷◌}
use mathlib.Core.Option.{Option, none, some}
use lib.ListN.{length, length-append}
use lib.Dec.{eqb}
use Rattle.definitions.specs.Lists.{keep, snoc}
use Rattle.definitions.specs.Problem.Node.{Node}
use Rattle.definitions.specs.Problem.Ops.{op_of, is_app}
use Rattle.definitions.specs.Elimination.{App, State, add_app, repeat, earliest, app_step, copy, step, steps}

module _ (symbols : List ℕ) (st : State) (n : Node) where
  -- a node is copied, a repeat, or a distinct application
  pub step_cases : (P : State → Type 0) → (is_app (op_of n.op) ≡ false → P (copy symbols st n))
      → ((i : ℕ) → earliest n st.done st.images ≡ some i → P (repeat st n i))
      → (is_app (op_of n.op) ≡ true → earliest n st.done st.images ≡ none → P (add_app symbols st n))
      → P (step symbols st n)
  step_cases P copied repeated new = go (is_app (op_of n.op)) refl
    where
      find : is_app (op_of n.op) ≡ true → (o : Option ℕ) → earliest n st.done st.images ≡ o
          → P (app_step symbols st n o)
      find p (some i) e = repeated i e
      find p none e = new p e

      go : (b : Bool) → is_app (op_of n.op) ≡ b
          → P (elim b [ true ↦ app_step symbols st n (earliest n st.done st.images) | false ↦ copy symbols st n ])
      go true p = find p (earliest n st.done st.images) refl
      go false p = copied p

  pub step_done : (step symbols st n).done ≡ snoc st.done n
  step_done = step_cases (λ F. F.done ≡ snoc st.done n) (λ p. refl) (λ i e. refl) (λ p e. refl)

  -- each node done has one image
  pub step_images : length st.images ≡ length st.done
      → length (step symbols st n).images ≡ length (step symbols st n).done
  step_images l =
      step_cases (λ F. length F.images ≡ length F.done) (λ p. simp length-append (omega arith))
      (λ i e. simp length-append (omega arith)) (λ p e. simp length-append (omega arith))

-- what each step keeps, all steps keep
pub steps_keep : (symbols : List ℕ) (P : State → Type 0) → ((st : State) (n : Node) → P st → P (step symbols st n)) → (ns : List Node)
    (st : State) → P st → P (steps symbols st ns)
steps_keep symbols P h [] st p = p
steps_keep symbols P h (n ∷ ns) st p = steps_keep symbols P h ns (step symbols st n) (h st n p)

-- the distinct applications of an op among those at hand
abbrev pub of_op : ℕ → List App → List App
of_op op apps = keep (λ app. eqb app.of.op op) apps
