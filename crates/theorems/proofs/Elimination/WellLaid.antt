-- The eliminated table is well formed: its nodes are right with as many variables as there are distinct applications, each image
-- stands in it with the sort of its node, and each distinct application has its own variable node there. Assumes nothing.
use mathlib.Core.Path.{◌≡◌, refl, sym, ap, ◌∙◌}
use Prim.Native.Nat.{ℕ, ◌<◌}
use native.Mathlib.Omega.{arith}
use mathlib.Core.Bool.{true}
use mathlib.Core.List.{List, [], ◌∷◌, append-nil}
use mathlib.Core.Option.{none}
use lib.ListN.{length, get_or}
use lib.Dec.{eqb}
use Rattle.definitions.specs.Lists.{keep}
use Rattle.definitions.specs.Problem.Node.{Node, node}
use Rattle.definitions.specs.Problem.Ops.{op_of, is_app}
use Rattle.definitions.specs.Problem.Check.{first_wrong}
use Rattle.definitions.specs.Elimination.{App, State, begin, variable_node, step, steps}
use Rattle.theorems.proofs.Laws.Ops.{sort_at}
use Rattle.theorems.proofs.Tables.Free.{Free}
use Rattle.theorems.proofs.Elimination.WellStepped.{PlacedAll, Inv, step_ok}

module _ (symbols : List ℕ) (T : List Node) (right : first_wrong symbols [] T ≡ none) where
  steps_ok : (ns : List Node) (st : State) → Inv symbols T right st ns → Inv symbols T right (steps symbols st ns) []
  steps_ok [] st inv = inv
  steps_ok (n ∷ ns) st inv = steps_ok ns (step symbols st n) (step_ok symbols T right st n ns inv)

  final : Inv symbols T right (steps symbols begin T) []
  final =
      steps_ok T begin
      (record { whole = refl; lens = refl; free = λ k h. absurd (omega arith); imgs = λ k h. absurd (omega arith); apps = tt })

  -- the table is well formed, with a variable for each distinct function application and a truth variable for each distinct
  -- predicate application
  pub eliminated_free : Free (length (keep (λ app. eqb app.of.op 0) (steps symbols begin T).apps))
      (length (keep (λ app. eqb app.of.op 6) (steps symbols begin T).apps)) (steps symbols begin T).out
  eliminated_free = final.free

  pub images_length : length (steps symbols begin T).images ≡ length T
  images_length = final.lens ∙ ap length (sym (append-nil (steps symbols begin T).done) ∙ final.whole)

  pub image_within : (k : ℕ) → k < length T → get_or (steps symbols begin T).images k 0 < length (steps symbols begin T).out
  image_within k h = let l = images_length in (final.imgs k (omega arith)).within

  pub image_sort : (k : ℕ) → k < length T → sort_at (steps symbols begin T).out (get_or (steps symbols begin T).images k 0) ≡ sort_at T k
  image_sort k h = let l = images_length in (final.imgs k (omega arith)).is

  -- a distinct application is a node of the problem, its image is that node's, and its own variable node stands in the table
  pub record AppPlaced (app : App) : Type 0 where
    pub at : ℕ
    pub at_node : at < length T
    pub of_node : app.of ≡ node T at
    pub is_an_app : is_app (op_of app.of.op) ≡ true
    pub image_at : app.image ≡ get_or (steps symbols begin T).images at 0
    pub own_node_is : node (steps symbols begin T).out app.own ≡ variable_node app.of.op app.var
    pub own_within : app.own < length (steps symbols begin T).out

  abbrev pub AllPlaced : List App → Type 0
  AllPlaced [] = Unit {0}
  AllPlaced (app ∷ apps) = AppPlaced app × AllPlaced apps

  pub apps_placed : AllPlaced (steps symbols begin T).apps
  apps_placed = each (steps symbols begin T).apps final.apps
    where
      each : (apps : List App) → PlacedAll symbols T right (steps symbols begin T).images (steps symbols begin T).out apps → AllPlaced apps
      each [] a = tt
      each (app ∷ apps) a =
          let p = a.0 in
          let b = p.before in
          let l = images_length in (
            record {
              at = p.at;
              at_node = omega arith;
              of_node = p.of_node;
              is_an_app = p.is_an_app;
              image_at = p.image_at;
              own_node_is = p.own_node_is;
              own_within = p.own_within;
            },
            each apps a.1,
          )
