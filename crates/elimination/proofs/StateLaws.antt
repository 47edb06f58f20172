-- What the code has at hand stays right as a node is copied, repeated or one distinct application more. Assumes nothing.
use mathlib.Core.Path.{◌≡◌, refl, sym, ap, ap₂, ◌∙◌, subst}
use Prim.Native.Nat.{ℕ, suc, ◌+◌, ◌-◌, ◌<◌}
use native.Mathlib.Omega.{arith}
use native.Mathlib.Numerals.{add-one}
use mathlib.Core.List.{List, [], ◌∷◌, ◌++◌}
use borrow.Author.Count.{below_more}
use lib.ListN.{length, get_or, take, set, length-set, length-append}
use lib.Seq.{take-suc-set, get_or-set_same, get_or-set_other}
use Rattle.definitions.specs.Lists.{snoc}
use Rattle.definitions.specs.Problem.Node.{Node, node}
use Rattle.definitions.specs.Problem.Check.{symbols_of, nodes_of}
use Rattle.definitions.specs.Elimination.{App, State, last, node_on, images_of, applied, add_app, repeat, copy}
use Rattle.theorems.proofs.Elimination.Steps.{of_op}
use Rattle.elimination.specs.State.{state_at, no_app, app_at, new_app, no_application, noted, LaidAt, image_set, app_added}
use Rattle.elimination.specs.declared.laid.Application.{Application}
use Rattle.elimination.specs.declared.laid.Laid.{Laid}

-- what holds of each application before k, and of the one that is noted at k, holds of each up to k
noted_more : (P : ℕ → Application → Type 0) (xs : List Application) (k : ℕ) (x : Application) → k < length xs
    → ((j : ℕ) → j < k → P j (get_or xs j no_application)) → P k x
    → (j : ℕ) → j < k + 1 → P j (get_or (set xs k x) j no_application)
noted_more P xs k x h before here =
    below_more (λ j. P j (get_or (set xs k x) j no_application)) k
    (λ j l. subst (P j) (sym (get_or-set_other xs k j x no_application (λ e. omega arith))) (before j l))
    (subst (P k) (sym (get_or-set_same xs k x no_application h)) here)

-- one image more
image_more : (images is : List ℕ) (k image : ℕ) → length images ≡ 256 → k < 256 → take k images ≡ is
    → take (k + 1) (set images k image) ≡ snoc is image
image_more images is k image l h e =
    ap (λ m. take m (set images k image)) (add-one k) ∙ take-suc-set images k image (omega arith) ∙ ap (λ xs. xs ++ (image ∷ [])) e

module _ (s : List ℕ) (k : ℕ) (l : Laid) (before : LaidAt s k l) (small : k < 256) where
  -- the image of an earlier application stays
  image_kept : (image j : ℕ) → j < l.count → get_or (set l.images k image) (noted l j).node 0 ≡ (app_at s k j).image
  image_kept image j h =
      let b = before.app_before j h in
      get_or-set_other l.images k (noted l j).node image 0 (λ q. omega arith) ∙ before.app_image j h

  -- the applications are the same
  same_apps : (image nodes : ℕ) (F : State) → state_at s (k + 1) ≡ F → F.apps ≡ (state_at s k).apps → nodes ≡ length F.out
      → F.images ≡ snoc (state_at s k).images image → LaidAt s (k + 1) (image_set l k image nodes)
  same_apps image nodes F e a n i =
      let apps : (state_at s (k + 1)).apps ≡ (state_at s k).apps = ap (λ (G : State). G.apps) e ∙ a in
      let at : (j : ℕ) → app_at s (k + 1) j ≡ app_at s k j = λ j. ap (λ (older : List App). get_or older (length older - suc j) no_app) apps in
      record {
        images_long = length-set l.images k image ∙ before.images_long;
        applications_long = before.applications_long;
        images_are = image_more l.images (state_at s k).images k image before.images_long small before.images_are ∙ sym (ap (λ (G : State). G.images) e ∙ i);
        count_is = before.count_is ∙ ap (length {A = App}) (sym apps);
        functions_are = before.functions_are ∙ ap (λ older. length (of_op 0 older)) (sym apps);
        predicates_are = before.predicates_are ∙ ap (λ older. length (of_op 6 older)) (sym apps);
        nodes_are = n ∙ sym (ap (λ (G : State). length G.out) e);
        app_before = λ j h. let b = before.app_before j h in omega arith;
        app_of = λ j h. before.app_of j h ∙ ap (λ (app : App). app.of) (sym (at j));
        app_own = λ j h. before.app_own j h ∙ ap (λ (app : App). app.own) (sym (at j));
        app_image = λ j h. image_kept image j h ∙ ap (λ (app : App). app.image) (sym (at j));
      }

  pub laid_copy : (n : Node) → state_at s (k + 1) ≡ copy (symbols_of s) (state_at s k) n → LaidAt s (k + 1) (image_set l k l.nodes (l.nodes + 1))
  laid_copy n e =
      let out = (state_at s k).out in
      let made = node_on n.op (images_of (symbols_of s) (state_at s k).images n) in
      let len : length (snoc out made) ≡ l.nodes + 1 = (let a = length-append out (made ∷ []) in let b = before.nodes_are in omega arith) in
      same_apps l.nodes (l.nodes + 1) (copy (symbols_of s) (state_at s k) n) e refl (sym len)
      (ap (snoc (state_at s k).images) (let q : last (snoc out made) ≡ l.nodes = omega arith in q))

  pub laid_repeat : (n : Node) (image : ℕ) → state_at s (k + 1) ≡ repeat (state_at s k) n image → LaidAt s (k + 1) (image_set l k image l.nodes)
  laid_repeat n image e = same_apps image l.nodes (repeat (state_at s k) n image) e refl before.nodes_are refl

  -- an application more: the earlier ones keep their places, counted from the earliest
  earlier_kept : (older : List App) (a d : App) (j : ℕ) → j < length older → get_or (a ∷ older) (length (a ∷ older) - suc j) d ≡ get_or older (length older - suc j) d
  earlier_kept older a d j h = ap (λ m. get_or (a ∷ older) m d) (let e : suc (length older) - suc j ≡ suc (length older - suc j) = omega arith in e)

  latest_first : (older : List App) (a d : App) → get_or (a ∷ older) (length (a ∷ older) - suc (length older)) d ≡ a
  latest_first older a d = ap (λ m. get_or (a ∷ older) m d) (let e : suc (length older) - suc (length older) ≡ 0 = omega arith in e)

  module _ (n : Node) (is_node : n ≡ node (nodes_of s) k) (room : l.count < 40) (at : ℕ)
      (reached : at ≡ length (applied (symbols_of s) (state_at s k) n)) (functions predicates : ℕ) where
    abbrev this : App
    this = new_app (symbols_of s) (state_at s k) n

    abbrev older : List App
    older = (state_at s k).apps

    pub laid_app : state_at s (k + 1) ≡ add_app (symbols_of s) (state_at s k) n → functions ≡ length (of_op 0 (this ∷ older))
        → predicates ≡ length (of_op 6 (this ∷ older))
        → LaidAt s (k + 1) (image_set (app_added l k l.nodes functions predicates) k (at - 1) at)
    laid_app e f p =
        let apps : (state_at s (k + 1)).apps ≡ this ∷ older = ap (λ (G : State). G.apps) e in
        let count = before.count_is in
        let is_room : l.count < length l.applications = (let c = before.applications_long in omega arith) in
        let one : Application = record { node = k; own = l.nodes } in
        let more = λ (P : ℕ → Application → Type 0). noted_more P l.applications l.count one is_room in
        let known : (j : ℕ) → j < l.count → app_at s (k + 1) j ≡ app_at s k j =
        λ j h. ap (λ (xs : List App). get_or xs (length xs - suc j) no_app) apps ∙ earlier_kept older this no_app j (omega arith)
        in
        let newest : app_at s (k + 1) l.count ≡ this =
        ap₂ (λ (xs : List App) (j : ℕ). get_or xs (length xs - suc j) no_app) apps count ∙ latest_first older this no_app
        in
        record {
          images_long = length-set l.images k (at - 1) ∙ before.images_long;
          applications_long = length-set l.applications l.count one ∙ before.applications_long;
          images_are =
              image_more l.images (state_at s k).images k (at - 1) before.images_long small before.images_are
              ∙ ap (λ m. snoc (state_at s k).images (m - 1)) reached
              ∙ sym (ap (λ (G : State). G.images) e);
          count_is = (let c = ap (length {A = App}) apps in omega arith);
          functions_are = f ∙ ap (λ xs. length (of_op 0 xs)) (sym apps);
          predicates_are = p ∙ ap (λ xs. length (of_op 6 xs)) (sym apps);
          nodes_are = reached ∙ sym (ap (λ (G : State). length G.out) e);
          app_before = more (λ _ a. a.node < k + 1) (λ j b. let c = before.app_before j b in omega arith) (omega arith);
          app_of =
              more (λ j a. node (nodes_of s) a.node ≡ (app_at s (k + 1) j).of)
              (λ j b. before.app_of j b ∙ ap (λ (app : App). app.of) (sym (known j b)))
              (sym is_node ∙ ap (λ (app : App). app.of) (sym newest));
          app_own =
              more (λ j a. a.own ≡ (app_at s (k + 1) j).own)
              (λ j b. before.app_own j b ∙ ap (λ (app : App). app.own) (sym (known j b)))
              (before.nodes_are ∙ ap (λ (app : App). app.own) (sym newest));
          app_image =
              more (λ j a. get_or (set l.images k (at - 1)) a.node 0 ≡ (app_at s (k + 1) j).image)
              (λ j b. image_kept (at - 1) j b ∙ ap (λ (app : App). app.image) (sym (known j b)))
              (get_or-set_same l.images k (at - 1) 0 (let c = before.images_long in omega arith)
              ∙ ap (λ m. m - 1) reached ∙ ap (λ (app : App). app.image) (sym newest));
        }
