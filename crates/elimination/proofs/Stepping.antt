-- Taking node k of an accepted problem: which step it is, that there is room for what it lays, and that laying it makes the table
-- of k nodes that of k + 1. Assumes nothing.
use mathlib.Core.Path.{◌≡◌, refl, sym, ap, ◌∙◌}
use Prim.Native.Nat.{ℕ, ◌+◌, ◌-◌, ◌≤◌, ◌<◌}
use native.Mathlib.Omega.{arith}
use mathlib.Core.Bool.{Bool, true, false}
use mathlib.Core.List.{List, [], ◌∷◌}
use mathlib.Core.Logic.{◌⊎◌, inl, inr}
use mathlib.Core.Option.{none, some}
use lib.ListN.{length, get_or, take, length-append}
use lib.Seq.{get_or-take, length-take-le}
use Rattle.definitions.specs.Problem.Node.{Node, node, table_bytes}
use Rattle.definitions.specs.Problem.Ops.{op_of, is_app}
use Rattle.definitions.specs.Problem.Check.{node_count, symbols_of, nodes_of}
use Rattle.definitions.specs.Elimination.{State, earliest, images_of, node_on, copy, repeat, add_app}
use Rattle.definitions.specs.Operations.Buffers.{over}
use Rattle.theorems.proofs.Laws.Ops.{app_op}
use Rattle.theorems.proofs.Accepted.{Accepted}
use Rattle.problem.specs.Stages.{first_same}
use Rattle.problem.specs.Lays.{Lays}
use Rattle.elimination.specs.State.{state_at, LaidAt, StepLays}
use Rattle.elimination.specs.declared.laid.Laid.{Laid}
use Rattle.elimination.proofs.Prefix.{nodes_length, state_next, state_done, state_images, state_short}
use Rattle.elimination.proofs.Repeating.{scan_none, scan_some, step_copy, step_repeat, step_new}

-- a node is an application where its op is 0 or 6, and no other
pub is_application : (op : ℕ) → (op ≡ 0) ⊎ (op ≡ 6) → is_app (op_of op) ≡ true
is_application op (inl e) = rw e
is_application op (inr e) = rw e

pub no_application : (op : ℕ) → ((op ≡ 0) ⊎ (op ≡ 6) → ⊥) → is_app (op_of op) ≡ false
no_application op h = go (is_app (op_of op)) refl
  where
    go : (b : Bool) → is_app (op_of op) ≡ b → b ≡ false
    go true e = absurd (h (app_op op e))
    go false e = refl

-- what is laid makes the table of k nodes that of k + 1
pub step_lays : (s : List ℕ) (k : ℕ) {work work' : List ℕ} {i j : ℕ} (f : List Node → List Node) → length (state_at s k).out ≡ i
    → f (state_at s k).out ≡ (state_at s (k + 1)).out → Lays work work' i j f → StepLays s k work work'
step_lays s k f l e p = λ w q. p.lays (state_at s k).out w l q ∙ ap (λ t. over (table_bytes t) w) e

module _ (s : List ℕ) (ok : Accepted s) (k : ℕ) (h : k < node_count s) where
  abbrev n : Node
  n = node (nodes_of s) k

  abbrev st : State
  st = state_at s k

  among : k < length (nodes_of s)
  among = omega (arith, nodes_length s ok)

  pub next_copy : is_app (op_of n.op) ≡ false → state_at s (k + 1) ≡ copy (symbols_of s) st n
  next_copy p = state_next s k among ∙ step_copy (symbols_of s) st n p

  -- there is room for a copy
  pub copy_room : is_app (op_of n.op) ≡ false → length st.out + 1 ≤ 2632
  copy_room p =
      let made = node_on n.op (images_of (symbols_of s) st.images n) in
      let one = ap (λ (F : State). length F.out) (next_copy p) in
      let short = state_short s ok (k + 1) (omega arith) in
      omega (arith, length-append st.out (made ∷ []))

  -- as many images as nodes done
  pub images_done : length st.images ≡ length st.done
  images_done =
      let l = among in
      let done = ap (length {A = Node}) (state_done s k) in
      omega (arith, state_images s ok k (omega arith), length-take-le k (nodes_of s) (omega arith))

  -- the scan finds nothing: no earlier node is the same
  pub none_earlier : first_same n (take k (nodes_of s)) ≡ none → earliest n st.done st.images ≡ none
  none_earlier e = scan_none n 0 st.done st.images images_done (ap (first_same n) (state_done s k) ∙ e)

  pub next_app : is_app (op_of n.op) ≡ true → first_same n (take k (nodes_of s)) ≡ none
      → state_at s (k + 1) ≡ add_app (symbols_of s) st n
  next_app p e = state_next s k among ∙ step_new (symbols_of s) st n p (none_earlier e)

  -- the scan finds node j: an earlier one, whose image is taken
  module _ (j : ℕ) (e : first_same n (take k (nodes_of s)) ≡ some j) where
    pub found_before : j < k
    found_before =
        let found = scan_some n 0 st.done st.images j images_done (ap (first_same n) (state_done s k) ∙ e) in
        let high = found.high in
        omega (arith, images_done, state_images s ok k (omega arith))

    pub next_repeat : is_app (op_of n.op) ≡ true → (l : Laid) → LaidAt s k l
        → state_at s (k + 1) ≡ repeat st n (get_or l.images j 0)
    next_repeat p l at =
        let found = scan_some n 0 st.done st.images j images_done (ap (first_same n) (state_done s k) ∙ e) in
        let image : get_or st.images (j - 0) 0 ≡ get_or l.images j 0 =
        ap (λ m. get_or st.images m 0) (let q : j - 0 ≡ j = omega arith in q)
        ∙ ap (λ (is : List ℕ). get_or is j 0) (sym at.images_are)
        ∙ get_or-take k l.images j 0 found_before
        in
        state_next s k among
        ∙ step_repeat (symbols_of s) st n _ p found.image
        ∙ ap (repeat st n) image
