-- The function-free table: applications replaced by variables and nested choices (01, 'Elimination'; source document 000,
-- section 4.5). Assumes nothing.
use Rattle.std.specs.Prelude.{ℕ, zero, suc, ◌-◌, List, [], ◌∷◌, map, Bool, true, false, ◌&&◌, get_or, length, eqb}
use Rattle.std.proofs.Math.Option.{Option, none, some}
use Rattle.definitions.specs.Lists.{keep, snoc}
use Rattle.definitions.specs.Problem.Node.{Node, same, plain}
use Rattle.definitions.specs.Problem.Ops.{op_of, is_app, operands_of}
use Rattle.definitions.specs.Problem.Check.{symbols_of, nodes_of}

-- a distinct application: its problem node, its variable number, the output nodes of its own variable and of its image
pub record App : Type 0 where
  pub of : Node
  pub var : ℕ
  pub own : ℕ
  pub image : ℕ

-- what is at hand when a node is taken: the problem nodes done, the output nodes, the image of each done node, and the
-- distinct applications, latest first
pub record State : Type 0 where
  pub done : List Node
  pub out : List Node
  pub images : List ℕ
  pub apps : List App

abbrev pub begin : State
begin = record { done = []; out = []; images = []; apps = [] }

-- the images of a node's operands that are in use
abbrev pub images_of : List ℕ → List ℕ → Node → List ℕ
images_of symbols images n = map (λ k. get_or images k 0) (operands_of symbols n)

-- the number of the last output node
abbrev pub last : List Node → ℕ
last out = length out - 1

-- the arguments after the first: for each an equation, left this one's image, right the earlier one's; then an "and" whose
-- left operand is what stood before and whose right is this equation
abbrev pub further : List Node → List ℕ → List ℕ → List Node
further out [] ys = out
further out (x ∷ xs) [] = out
further out (x ∷ xs) (y ∷ ys) = further (snoc (snoc out (plain 2 x y 0)) (plain 4 (last out) (length out) 0)) xs ys

-- the condition that the arguments are equal in pairs: an equation for the first, then the further ones
abbrev pub condition : List Node → List ℕ → List ℕ → List Node
condition out [] ys = out
condition out (x ∷ xs) [] = out
condition out (x ∷ xs) (y ∷ ys) = further (snoc out (plain 2 x y 0)) xs ys

-- the op of a choice: 1 for op 0, between terms; 9 for op 6, between formulas
abbrev pub choice_op : ℕ → ℕ
choice_op zero = 1
choice_op (suc n) = 9

-- for each earlier application of the symbol, latest first: the condition that the arguments are its arguments, then the
-- choice of that condition, its own variable node, and what this application had so far, which is the last node
abbrev pub choices : ℕ → (Node → List ℕ) → List Node → List ℕ → List App → List Node
choices op args out xs [] = out
choices op args out xs (j ∷ js) =
    let conditioned = condition out xs (args j.of) in
    choices op args (snoc conditioned (plain (choice_op op) (last conditioned) j.own (last out))) xs js

abbrev pub same_symbol : Node → App → Bool
same_symbol n app = eqb app.of.op n.op && eqb app.of.sym n.sym

abbrev pub same_op : Node → App → Bool
same_op n app = eqb app.of.op n.op

-- the number of the next variable: how many distinct applications of the op there are already
abbrev pub next_var : State → Node → ℕ
next_var st n = length (keep (same_op n) st.apps)

abbrev pub variable_node : ℕ → ℕ → Node
variable_node op v = record { op = op; sym = v; a = 0; b = 0; c = 0 }

-- a distinct application: its own variable node, then the choices
abbrev pub applied : List ℕ → State → Node → List Node
applied symbols st n =
    choices n.op (images_of symbols st.images) (snoc st.out (variable_node n.op (next_var st n)))
    (images_of symbols st.images n) (keep (same_symbol n) st.apps)

-- the state after a node whose output nodes are laid: its image is the last of them
abbrev pub laid : State → Node → List Node → List App → State
laid st n out apps = record { done = snoc st.done n; out = out; images = snoc st.images (last out); apps = apps }

abbrev pub add_app : List ℕ → State → Node → State
add_app symbols st n =
    let out = applied symbols st n in
    laid st n out (record { of = n; var = next_var st n; own = length st.out; image = last out } ∷ st.apps)

-- a repeat lays nothing
abbrev pub repeat : State → Node → ℕ → State
repeat st n image = record { done = snoc st.done n; out = st.out; images = snoc st.images image; apps = st.apps }

-- the image of the earliest node with the same op, symbol and operand numbers
abbrev pub earliest : Node → List Node → List ℕ → Option ℕ
earliest n [] is = none
earliest n (m ∷ ms) [] = none
earliest n (m ∷ ms) (i ∷ is) = elim (same n m) [ true ↦ some i | false ↦ earliest n ms is ]

abbrev pub app_step : List ℕ → State → Node → Option ℕ → State
app_step symbols st n (some image) = repeat st n image
app_step symbols st n none = add_app symbols st n

-- a node with these operands, and 0 for those that the list lacks
abbrev pub node_on : ℕ → List ℕ → Node
node_on op ks = plain op (get_or ks 0 0) (get_or ks 1 0) (get_or ks 2 0)

-- one copy, operands replaced by their images
abbrev pub copy : List ℕ → State → Node → State
copy symbols st n = laid st n (snoc st.out (node_on n.op (images_of symbols st.images n))) st.apps

abbrev pub step : List ℕ → State → Node → State
step symbols st n =
    elim (is_app (op_of n.op)) [
      | true ↦ app_step symbols st n (earliest n st.done st.images)
      | false ↦ copy symbols st n
    ]

-- nodes are taken in order
abbrev pub steps : List ℕ → State → List Node → State
steps symbols st [] = st
steps symbols st (n ∷ ns) = steps symbols (step symbols st n) ns

-- the elimination of a problem, and its function-free table
unfoldable pub eliminated : List ℕ → State
eliminated s = steps (symbols_of s) begin (nodes_of s)

abbrev pub table_of : List ℕ → List Node
table_of s = (eliminated s).out

-- the root: the image of the last problem node
abbrev pub root_of : State → ℕ
root_of st = get_or st.images (length st.images - 1) 0
