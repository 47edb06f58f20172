-- The thirteen conditions, each as a fact of the input (01, 'Refusal numbers'; 02, E2): what a refusal says. s are the problem bytes,
-- root the node named, work and room the lengths of the work buffer and of the witness buffer. That the definitions refuse exactly so is
-- proved (Refusing). Assumes nothing.
use Rattle.std.specs.Prelude.{◌≡◌, ℕ, ◌+◌, ◌*◌, ◌^◌, ◌≤◌, ◌<◌, Bool, true, false, List, ◌⊎◌, length, get_or, take, eqb}
use Rattle.definitions.specs.Bytes.{two_at, EQP}
use Rattle.definitions.specs.Problem.Node.{node}
use Rattle.definitions.specs.Problem.Ops.{node_right}
use Rattle.definitions.specs.Problem.Check.{
  symbol_count,
  node_count,
  symbols_of,
  nodes_of,
  stands,
  symbol_byte_right,
  is_term,
  functions_in,
  predicates_in,
}
use Rattle.definitions.specs.Problem.Asked.{asked}
use Rattle.definitions.specs.Ranges.{product}
use Rattle.definitions.specs.Operations.Readings.{refusal_read}
use Rattle.definitions.specs.declared.Refusal.{Refusal}
use Rattle.definitions.specs.declared.Refusal.TheVariants.{
  TooShort,
  NotEqp,
  BadVersion,
  BadCounts,
  BadLength,
  BadSymbol,
  BadNode,
  ManyFunctions,
  ManyPredicates,
  ShortWork,
  ShortWitness,
  BigProduct,
  WrongToken,
  TooDeep,
  WrongRoot,
  ShortProblem,
}

-- k is the first of n things that is not right
pub record FirstWrong (right : ℕ → Bool) (n k : ℕ) : Type 0 where
  pub within : k < n
  pub wrong : right k ≡ false
  pub before : (j : ℕ) → j < k → right j ≡ true

-- symbol k has a right byte; node k is right after the nodes before it
abbrev pub symbol_fine : List ℕ → ℕ → Bool
symbol_fine s k = symbol_byte_right (get_or (symbols_of s) k 0)

abbrev pub node_fine : List ℕ → ℕ → Bool
node_fine s k = node_right (symbols_of s) (take k (nodes_of s)) (node (nodes_of s) k)

-- the input meets the condition of a refusal; those of the text reader are none of decide's
abbrev pub Meets : List ℕ → ℕ → ℕ → ℕ → Refusal → Type 0
Meets s root work room TooShort = length s < 8
Meets s root work room NotEqp = stands s 0 EQP ≡ false
Meets s root work room BadVersion = two_at s 3 ≡ 1 → ⊥
Meets s root work room BadCounts = (32 < symbol_count s) ⊎ ((node_count s ≡ 0) ⊎ (256 < node_count s))
Meets s root work room BadLength = length s ≡ 8 + symbol_count s + 8 * node_count s → ⊥
Meets s root work room (BadSymbol k) = FirstWrong (symbol_fine s) (length (symbols_of s)) k
Meets s root work room (BadNode k) = FirstWrong (node_fine s) (length (nodes_of s)) k
Meets s root work room WrongRoot = (length (nodes_of s) ≤ root) ⊎ (is_term (node (nodes_of s) root) ≡ true)
Meets s root work room ManyFunctions = 24 < functions_in (nodes_of (asked s root))
Meets s root work room ManyPredicates = 16 < predicates_in (nodes_of (asked s root))
Meets s root work room ShortWork = work < 21056
Meets s root work room ShortWitness = room < 206
Meets s root work room BigProduct = 10 ^ 18 < product (asked s root)
Meets s root work room (WrongToken k) = ⊥
Meets s root work room (TooDeep k) = ⊥
Meets s root work room ShortProblem = ⊥

abbrev pub number : Refusal → ℕ
number x = (refusal_read x).number

abbrev pub place : Refusal → ℕ
place x = (refusal_read x).place

-- its place in the order tried, from 1: that of its number, but 16 stands where 8 stood
abbrev pub turn : Refusal → ℕ
turn x = elim (eqb (number x) 16) [ true ↦ 8 | false ↦ number x ]

-- it is the first in the order tried whose condition the input meets
abbrev pub Refuses : List ℕ → ℕ → ℕ → ℕ → Refusal → Type 0
Refuses s root work room x = Meets s root work room x × ((y : Refusal) → turn y < turn x → Meets s root work room y → ⊥)

-- the input passes the twelve conditions after which the table is laid, all but 13; it passes all thirteen
abbrev pub PassesTwelve : List ℕ → ℕ → ℕ → ℕ → Type 0
PassesTwelve s root work room = (x : Refusal) → turn x ≤ 12 → Meets s root work room x → ⊥

abbrev pub Passes : List ℕ → ℕ → ℕ → ℕ → Type 0
Passes s root work room = (x : Refusal) → Meets s root work room x → ⊥
