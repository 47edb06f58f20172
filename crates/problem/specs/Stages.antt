-- How far conditions 1 to 7 have been tried, and what each stage answers. Assumes nothing.
use Rattle.std.specs.Prelude.{◌≡◌, ℕ, List, Bool, Option, Some, None, Result, Ok, Err, not, ◌&&◌, take, eqb}
use Rattle.std.proofs.Math.Option as math
use Rattle.std.proofs.Math.Option.{none, some}
use Rattle.definitions.specs.Lists.{first_failing}
use Rattle.definitions.specs.Problem.Node.{Node, same}
use Rattle.definitions.specs.Problem.Check.{layout_conditions, layout_refusal}
use Rattle.definitions.specs.Operations.Readings.{refusal_read}
use Rattle.definitions.specs.declared.Refusal.{Refusal}
use Rattle.theorems.proofs.Laws.First.{AllNone}
use Rattle.theorems.proofs.Accepted.{Layout}
use Rattle.problem.specs.declared.head.Problem.{Problem}

-- what a search finds, as the definitions have it
abbrev pub found_of : Option ℕ → math.Option ℕ
found_of (Some k) = some k
found_of None = none

-- none of the first k conditions holds
abbrev pub Passed : ℕ → List ℕ → Type 0
Passed k s = AllNone (take k (layout_conditions s))

-- this is the first of 1 to 7 whose condition holds
abbrev pub RefusedBy : List ℕ → Refusal → Type 0
RefusedBy s r = layout_refusal s ≡ some (refusal_read r)

-- the header of these bytes is read, with conditions 1 to 5 passed; or what refuses it
abbrev pub HeadRead : List ℕ → Result Problem Refusal → Type 0
HeadRead s (Ok p) = (p ≡ s) × Passed 5 s
HeadRead s (Err r) = RefusedBy s r

-- the table is well formed: all seven have passed; or what refuses it
abbrev pub LayoutRead : List ℕ → Result Problem Refusal → Type 0
LayoutRead s (Ok p) = (p ≡ s) × Layout s
LayoutRead s (Err r) = RefusedBy s r

-- two nodes are of the same op and the same symbol
abbrev pub one_symbol : Node → Node → Bool
one_symbol m n = eqb m.op n.op && eqb m.sym n.sym

-- the number of the first of some nodes that is the same as a node
abbrev pub first_same : Node → List Node → math.Option ℕ
first_same n ms = first_failing (λ m. not (same n m)) 0 ms
