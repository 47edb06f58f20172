-- What the code has at hand after k nodes, against the definition's elimination of the first k nodes. Assumes nothing.
use Rattle.std.specs.Prelude.{◌≡◌, ℕ, zero, suc, ◌+◌, ◌-◌, ◌<◌, ◌≤◌, List, [], ◌∷◌, true, length, get_or, take, set, replicate}
use Rattle.std.proofs.Math.Option.{none}
use Rattle.definitions.specs.Problem.Node.{Node, node, no_node, table_bytes}
use Rattle.definitions.specs.Problem.Ops.{op_of, is_app}
use Rattle.definitions.specs.Problem.Check.{symbols_of, nodes_of, node_count}
use Rattle.definitions.specs.Elimination.{App, State, begin, last, next_var, images_of, applied, steps}
use Rattle.definitions.specs.Operations.Buffers.{over}
use Rattle.theorems.proofs.Accepted.{Accepted}
use Rattle.theorems.proofs.Elimination.Steps.{of_op}
use Rattle.problem.specs.Stages.{first_same}
use Rattle.elimination.specs.declared.laid.Application.{Application}
use Rattle.elimination.specs.declared.laid.Laid.{Laid}

-- the state of the definition's elimination after k nodes
abbrev pub state_at : List ℕ → ℕ → State
state_at s k = steps (symbols_of s) begin (take k (nodes_of s))

-- application i, in node order; the definition has them latest first
abbrev pub no_app : App
no_app = record { of = no_node; var = 0; own = 0; image = 0 }

abbrev pub app_at : List ℕ → ℕ → ℕ → App
app_at s k i = get_or (state_at s k).apps (length (state_at s k).apps - suc i) no_app

-- the application that a node adds
abbrev pub new_app : List ℕ → State → Node → App
new_app symbols st n = record { of = n; var = next_var st n; own = length st.out; image = last (applied symbols st n) }

-- application i of those at hand: its problem node and its own variable node
abbrev pub no_application : Application
no_application = record { node = 0; own = 0 }

abbrev pub noted : Laid → ℕ → Application
noted l i = get_or l.applications i no_application

-- nothing is at hand
abbrev pub nothing_laid : Laid
nothing_laid =
    record {
      images = replicate 256 0;
      applications = replicate 40 no_application;
      count = 0;
      functions = 0;
      predicates = 0;
      nodes = 0;
    }

-- with nothing at hand, whatever stands in the arrays
abbrev pub cleared : Laid → Laid
cleared l = record l { count = 0; functions = 0; predicates = 0; nodes = 0 }

-- the number of the next variable: op 0 applies a function, any other a predicate
abbrev pub next_of : Laid → ℕ → ℕ
next_of l zero = l.functions
next_of l (suc op) = l.predicates

-- with one application more of an op
abbrev pub counted : Laid → ℕ → Laid
counted l zero = record l { count = l.count + 1; functions = l.functions + 1 }
counted l (suc op) = record l { count = l.count + 1; predicates = l.predicates + 1 }

pub record LaidAt (s : List ℕ) (k : ℕ) (l : Laid) : Type 0 where
  pub images_long : length l.images ≡ 256
  pub applications_long : length l.applications ≡ 40
  pub images_are : take k l.images ≡ (state_at s k).images
  pub count_is : l.count ≡ length (state_at s k).apps
  pub functions_are : l.functions ≡ length (of_op 0 (state_at s k).apps)
  pub predicates_are : l.predicates ≡ length (of_op 6 (state_at s k).apps)
  pub nodes_are : l.nodes ≡ length (state_at s k).out
  pub app_before : (i : ℕ) → i < l.count → (noted l i).node < k
  pub app_of : (i : ℕ) → i < l.count → node (nodes_of s) (noted l i).node ≡ (app_at s k i).of
  pub app_own : (i : ℕ) → i < l.count → (noted l i).own ≡ (app_at s k i).own
  pub app_image : (i : ℕ) → i < l.count → get_or l.images (noted l i).node 0 ≡ (app_at s k i).image

-- taking node k: where the table of k nodes stands at the start of the buffer, that of k + 1 stands there afterwards
abbrev pub StepLays : List ℕ → ℕ → List ℕ → List ℕ → Type 0
StepLays s k before after =
    (w : List ℕ) → before ≡ over (table_bytes (state_at s k).out) w → after ≡ over (table_bytes (state_at s (k + 1)).out) w

-- the whole table is laid
pub record AllLaid (s work : List ℕ) (l : Laid) (work' : List ℕ) : Type 0 where
  pub laid : LaidAt s (node_count s) l
  pub work_after_is : work' ≡ over (table_bytes (state_at s (node_count s)).out) work

-- what there is when node k is taken: an accepted problem, a buffer that is long enough, and k nodes taken
pub record Taking (s : List ℕ) (k : ℕ) (l : Laid) (work : List ℕ) : Type 0 where
  pub accepted : Accepted s
  pub among : k < node_count s
  pub long : 21056 ≤ length work
  pub laid : LaidAt s k l

-- node k is an application, and no earlier node is the same
pub record NewAt (s : List ℕ) (k : ℕ) : Type 0 where
  pub application : is_app (op_of (node (nodes_of s) k).op) ≡ true
  pub fresh : first_same (node (nodes_of s) k) (take k (nodes_of s)) ≡ none

-- with the image of node k, and so many nodes laid
abbrev pub image_set : Laid → ℕ → ℕ → ℕ → Laid
image_set l k image nodes = record l { images = set l.images k image; nodes = nodes }

-- with node k as one application more, its own variable node, and so many of each kind
abbrev pub app_added : Laid → ℕ → ℕ → ℕ → ℕ → Laid
app_added l k own functions predicates =
    record l {
      applications = set l.applications l.count (record { node = k; own = own });
      count = l.count + 1;
      functions = functions;
      predicates = predicates;
    }

-- the first three of a list, with 0 for those that it lacks
abbrev pub three : List ℕ → List ℕ
three xs = get_or xs 0 0 ∷ get_or xs 1 0 ∷ get_or xs 2 0 ∷ []

-- the images of node q's operands are read, whatever number of nodes is taken
abbrev pub ImagesRead : List ℕ → Laid → ℕ → List ℕ → Type 0
ImagesRead s l q xs =
    (k : ℕ) → q ≤ k → k ≤ node_count s → take k l.images ≡ (state_at s k).images
    → (xs ≡ three (images_of (symbols_of s) (state_at s k).images (node (nodes_of s) q)))
    × (get_or xs 0 0 < 2632) × (get_or xs 1 0 < 2632) × (get_or xs 2 0 < 2632)
