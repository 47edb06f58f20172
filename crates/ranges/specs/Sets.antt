-- Sets of variables as numbers of 32 bits: bit v for variable v. Assumes nothing.
use Rattle.std.specs.Prelude.{◌≡◌, ℕ, suc, ◌/◌, ◌%◌, ◌^◌, ◌<◌, List, true, cond, get_or, eqb}
use Rattle.definitions.specs.Problem.Node.{Node}
use Rattle.definitions.specs.Ranges.{Variables, leaf, joined, how_many}

-- variable v is in the set
abbrev pub in_set : ℕ → Variables
in_set set v = eqb (set / 2 ^ v % 2) 1

-- a set is of the leaves of node k
abbrev pub LeafSet : List Node → ℕ → ℕ → Type 0
LeafSet t k set = (v : ℕ) → in_set set v ≡ leaf t k v

-- these sets are the leaves of the first k nodes of a table
abbrev pub LeavesAre : List Node → ℕ → List ℕ → Type 0
LeavesAre t k sets = (i : ℕ) → i < k → LeafSet t i (get_or sets i 0)

-- these sets are the components of the variables below N
abbrev pub ClassesAre : List Node → ℕ → List ℕ → Type 0
ClassesAre t N sets = (u v : ℕ) → u < N → v < N → in_set (get_or sets u 0) v ≡ joined t N u v

-- the position of a variable in its class, by number, from 1
abbrev pub rank_in : List ℕ → ℕ → ℕ
rank_in sets v = suc (how_many (in_set (get_or sets v 0)) v)

-- every variable is alone
abbrev pub Apart : List ℕ → Type 0
Apart sets = (u : ℕ) → u < 24 → (v : ℕ) → in_set (get_or sets u 0) v ≡ eqb u v

-- one of the variables below n that are in a set has v in its class
abbrev pub InUnion : List ℕ → ℕ → ℕ → ℕ → Type 0
InUnion sets these n v = (u : ℕ) × (u < n) × (in_set these u ≡ true) × (in_set (get_or sets u 0) v ≡ true)

-- the classes of the variables below n that are in a set, all in one
pub record UnionIs (sets : List ℕ) (these n all : ℕ) : Type 0 where
  pub in_union : (v : ℕ) → in_set all v ≡ true → InUnion sets these n v
  pub has_union : (v : ℕ) → InUnion sets these n v → in_set all v ≡ true

-- the classes with those of the variables in a set made one
pub record Merged (sets : List ℕ) (these : ℕ) (merged : List ℕ) : Type 0 where
  pub all : ℕ
  pub union : UnionIs sets these 24 all
  pub at : (v : ℕ) → v < 24 → get_or merged v 0 ≡ cond (in_set all v) all (get_or sets v 0)
