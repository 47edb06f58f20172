-- Taking a node: an application that an earlier node repeats takes its image. Assumes nothing.
use Rattle.std.proofs.Common.{◌≡◌, ℕ, ◌+◌, ◌<◌, List, true, take, get_or, sym, ap, ◌∙◌, arith}
use Rattle.std.proofs.Math.Option.{some}
use Rattle.definitions.specs.Problem.Node.{Node, node, table_bytes}
use Rattle.definitions.specs.Problem.Ops.{op_of, is_app}
use Rattle.definitions.specs.Problem.Check.{nodes_of}
use Rattle.definitions.specs.Elimination.{State, repeat}
use Rattle.definitions.specs.Operations.Buffers.{over}
use Rattle.problem.specs.Stages.{first_same}
use Rattle.elimination.specs.State.{state_at, LaidAt, StepLays, Taking, image_set}
use Rattle.elimination.specs.declared.laid.Laid.{Laid}
use Rattle.elimination.proofs.StateLaws.{laid_repeat}
use Rattle.elimination.proofs.Stepping.{found_before, next_repeat}

module _ {s : List ℕ} {k : ℕ} {l : Laid} {work : List ℕ} (t : Taking s k l work) where
  abbrev n : Node
  n = node (nodes_of s) k

  module _ {j : ℕ} (found : first_same n (take k (nodes_of s)) ≡ some j) where
    pub repeat_before : j < k
    repeat_before = found_before s t.accepted k t.among j found

    module _ (application : is_app (op_of n.op) ≡ true) where
      repeated : state_at s (k + 1) ≡ repeat (state_at s k) n (get_or l.images j 0)
      repeated = next_repeat s t.accepted k t.among j found application l t.laid

      pub repeat_noted : LaidAt s (k + 1) (image_set l k (get_or l.images j 0) l.nodes)
      repeat_noted =
          laid_repeat s k l t.laid (let few = t.accepted.layout.few_nodes in let a = t.among in omega arith) n _ repeated

      pub repeat_lays : StepLays s k work work
      repeat_lays = λ w e. e ∙ ap (λ (F : State). over (table_bytes F.out) w) (sym repeated)
