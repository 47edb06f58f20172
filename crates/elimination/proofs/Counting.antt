-- One distinct application more: how many there are of each op, and that what the code has at hand stays right.
-- Assumes nothing.
use mathlib.Core.Path.{◌≡◌, refl, sym, ap, ◌∙◌}
use Prim.Native.Nat.{ℕ, ◌+◌, ◌-◌, ◌≤◌, ◌<◌}
use native.Mathlib.Omega.{arith}
use mathlib.Core.Bool.{Bool, true, false}
use mathlib.Core.List.{List, [], ◌∷◌}
use mathlib.Core.Logic.{⊎_elim}
use mathlib.Core.Option.{none}
use lib.ListN.{length, take}
use lib.Dec.{eqb}
use borrow.Author.Tests.{eq-eqb, ne_eqb}
use Rattle.definitions.specs.Lists.{keep, keep_if}
use Rattle.definitions.specs.Problem.Node.{Node, node}
use Rattle.definitions.specs.Problem.Ops.{op_of, is_app}
use Rattle.definitions.specs.Problem.Check.{node_count, symbols_of, nodes_of}
use Rattle.definitions.specs.Elimination.{App, State, next_var}
use Rattle.theorems.proofs.Accepted.{Accepted}
use Rattle.theorems.proofs.Laws.Ops.{app_op}
use Rattle.theorems.proofs.Elimination.Steps.{of_op}
use Rattle.problem.specs.Stages.{first_same}
use Rattle.elimination.specs.State.{state_at, new_app, LaidAt, image_set, app_added, next_of}
use Rattle.elimination.specs.declared.laid.Laid.{Laid}
use Rattle.elimination.proofs.Prefix.{apps_few}
use Rattle.elimination.proofs.StateLaws.{laid_app}
use Rattle.elimination.proofs.Stepping.{next_app}

keep_few : {A : Type 0} (f : A → Bool) (xs : List A) → length (keep f xs) ≤ length xs
keep_few f [] = omega arith
keep_few {A} f (x ∷ xs) = go (f x) (keep_few f xs)
  where
    go : (b : Bool) → length (keep f xs) ≤ length xs → length (keep_if b x (keep f xs)) ≤ length (x ∷ xs)
    go true h = omega arith
    go false h = omega arith

-- the count of an op's applications goes up by one more of the op, and by no other
module _ (app : App) (apps : List App) (op : ℕ) where
  abbrev counted : Bool → ℕ
  counted b = length (keep_if b app (of_op op apps))

  one_more_lem : app.of.op ≡ op → length (of_op op apps) + 1 ≡ length (of_op op (app ∷ apps))
  one_more_lem e = let r = ap counted (eq-eqb app.of.op op e) in omega arith

  no_more : (app.of.op ≡ op → ⊥) → length (of_op op apps) ≡ length (of_op op (app ∷ apps))
  no_more e = sym (ap counted (ne_eqb app.of.op op e))

module _ (s : List ℕ) (ok : Accepted s) (k : ℕ) (h : k < node_count s) where
  abbrev n : Node
  n = node (nodes_of s) k

  abbrev older : List App
  older = (state_at s k).apps

  -- there are few applications of an op, so the number of a variable is small
  pub count_small : (op : ℕ) → length (of_op op older) ≤ 40
  count_small op = omega (arith, keep_few (λ (app : App). eqb app.of.op op) older, apps_few s ok k (omega arith))

  pub variable_small : next_var (state_at s k) n ≤ 40
  variable_small = count_small n.op

  -- node k is a distinct application
  module _ (p : is_app (op_of n.op) ≡ true) (new : first_same n (take k (nodes_of s)) ≡ none) where
    -- there is a place for it
    pub place_left : length older < 40
    place_left =
        let one = ap (λ (F : State). length F.apps) (next_app s ok k h p new) in
        omega (arith, apps_few s ok (k + 1) (omega arith))

    module _ {l : Laid} (before : LaidAt s k l) where
      abbrev this : App
      this = new_app (symbols_of s) (state_at s k) n

      added : (at functions predicates : ℕ) → at ≡ length (state_at s (k + 1)).out → functions ≡ length (of_op 0 (this ∷ older))
          → predicates ≡ length (of_op 6 (this ∷ older))
          → LaidAt s (k + 1) (image_set (app_added l k l.nodes functions predicates) k (at - 1) at)
      added at functions predicates e f g =
          let next = next_app s ok k h p new in
          let few = ok.layout.few_nodes in
          let place = place_left in
          let count = before.count_is in
          laid_app s k _ before (omega arith) n refl (omega arith) at (e ∙ ap (λ (F : State). length F.out) next)
          functions predicates next f g

      -- one of a function, or one of a predicate
      pub function_added : n.op ≡ 0 → (at : ℕ) → at ≡ length (state_at s (k + 1)).out
          → LaidAt s (k + 1) (image_set (app_added l k l.nodes (l.functions + 1) l.predicates) k (at - 1) at)
      function_added o at e =
          added at (l.functions + 1) l.predicates e
          (ap (λ m. m + 1) before.functions_are ∙ one_more_lem this older 0 o)
          (before.predicates_are ∙ no_more this older 6 (λ q. omega arith))

      pub predicate_added : n.op ≡ 6 → (at : ℕ) → at ≡ length (state_at s (k + 1)).out
          → LaidAt s (k + 1) (image_set (app_added l k l.nodes l.functions (l.predicates + 1)) k (at - 1) at)
      predicate_added o at e =
          added at l.functions (l.predicates + 1) e
          (before.functions_are ∙ no_more this older 0 (λ q. omega arith))
          (ap (λ m. m + 1) before.predicates_are ∙ one_more_lem this older 6 o)

    -- its variable has the next number of its op
    pub next_number : {l : Laid} → LaidAt s k l → next_of l n.op ≡ next_var (state_at s k) n
    next_number {l} before =
        ⊎_elim (λ e. ap (next_of l) e ∙ before.functions_are ∙ ap (λ op. length (of_op op older)) (sym e))
        (λ e. ap (next_of l) e ∙ before.predicates_are ∙ ap (λ op. length (of_op op older)) (sym e)) (app_op n.op p)
