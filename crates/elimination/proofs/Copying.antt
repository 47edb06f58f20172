-- Taking a node that is no application: there is room for its copy, and what is at hand stays right. Assumes nothing.
use Rattle.std.proofs.Common.{◌≡◌, ℕ, ◌+◌, ◌≤◌, List, false, get_or, sym, ap, ap₂, ◌∙◌, arith}
use Rattle.definitions.specs.Lists.{snoc}
use Rattle.definitions.specs.Problem.Node.{Node, node}
use Rattle.definitions.specs.Problem.Ops.{op_of, is_app}
use Rattle.definitions.specs.Problem.Check.{symbols_of, nodes_of}
use Rattle.definitions.specs.Elimination.{State, copy}
use Rattle.problem.specs.Lays.{Lays}
use Rattle.elimination.specs.State.{state_at, LaidAt, StepLays, Taking, ImagesRead, image_set}
use Rattle.elimination.specs.declared.laid.Laid.{Laid}
use Rattle.elimination.proofs.StateLaws.{laid_copy}
use Rattle.elimination.proofs.Stepping.{step_lays, next_copy, copy_room}

-- a node of an op on three operands
abbrev on_three : ℕ → List ℕ → Node
on_three op xs = record { op = op; sym = 0; a = get_or xs 0 0; b = get_or xs 1 0; c = get_or xs 2 0 }

module _ {s : List ℕ} {k : ℕ} {l : Laid} {work : List ℕ} (t : Taking s k l work) (p : is_app (op_of (node (nodes_of s) k).op) ≡ false) where
  copied : state_at s (k + 1) ≡ copy (symbols_of s) (state_at s k) (node (nodes_of s) k)
  copied = next_copy s t.accepted k t.among p

  pub copy_fits : l.nodes + 1 ≤ 2632
  copy_fits = omega (arith, t.laid.nodes_are, copy_room s t.accepted k t.among p)

  pub copy_noted : LaidAt s (k + 1) (image_set l k l.nodes (l.nodes + 1))
  copy_noted =
      laid_copy s k l t.laid (let few = t.accepted.layout.few_nodes in let a = t.among in omega arith) (node (nodes_of s) k) copied

  pub copy_lays : (n m : Node) (xs work' : List ℕ) → n ≡ node (nodes_of s) k → ImagesRead s l k xs → m ≡ on_three n.op xs
      → Lays work work' l.nodes (l.nodes + 1) (λ u. snoc u m) → StepLays s k work work'
  copy_lays n m xs work' e x f =
      let images = (x k (omega arith) (let a = t.among in omega arith) t.laid.images_are).0 in
      step_lays s k _ (sym t.laid.nodes_are)
      (ap (snoc (state_at s k).out) (f ∙ ap₂ on_three (ap (λ (n : Node). n.op) e) images) ∙ sym (ap (λ (F : State). F.out) copied))
