-- What each answer of read says of the text and of the problem buffer, in the order tried (02, E1: "23 problem buffer under 2,088 bytes,
-- place 0, tried first; 14 ..; 15 ..; each with its byte place, the earlier one, 14 if equal; then 01's 4, 9 and 10 on the result").
-- That it answers exactly so is proved (Text/Top). Assumes nothing.
use Rattle.std.specs.Prelude.{◌≡◌, ℕ, ◌≤◌, ◌<◌, List, ◌⊎◌, length}
use Rattle.definitions.specs.Problem.Check.{functions_in, predicates_in}
use Rattle.definitions.specs.Text.Grammar.{Script}
use Rattle.definitions.specs.Text.Nodes.{nodes_of_script, bytes_of_script}
use Rattle.definitions.specs.declared.Refusal.{Refusal}
use Rattle.definitions.specs.declared.Refusal.TheVariants.{
  TooShort,
  NotEqp,
  BadVersion,
  BadCounts,
  BadLength,
  BadSymbol,
  BadNode,
  ManyFunctions,
  ManyPredicates,
  ShortWork,
  ShortWitness,
  BigProduct,
  WrongToken,
  TooDeep,
  WrongRoot,
  ShortProblem,
}
use Rattle.theorems.specs.Texts.{ReadAs, StopsAt, EndsEarly, DeepAt}

-- 4 does not refuse the problem of a script; nor does 9; nor does 10
abbrev pub FewNodes : Script → Type 0
FewNodes s = (length (bytes_of_script s) ≤ 32) × (length (nodes_of_script s) ≤ 256)

abbrev pub FewFunctions : Script → Type 0
FewFunctions s = functions_in (nodes_of_script s) ≤ 24

abbrev pub FewPredicates : Script → Type 0
FewPredicates s = predicates_in (nodes_of_script s) ≤ 16

-- a problem is written: the buffer is long enough, the text is read as this script, and its problem is within the limits
pub record TakesText (text : List ℕ) (room : ℕ) (s : Script) : Type 0 where
  pub room_long : 2088 ≤ room
  pub reads : ReadAs text s
  pub few_nodes : FewNodes s
  pub few_functions : FewFunctions s
  pub few_predicates : FewPredicates s

-- the text is read as a script of which this holds
abbrev pub ReadWith : List ℕ → (Script → Type 0) → Type 0
ReadWith text P = (s : Script) × (ReadAs text s × P s)

-- a refusal comes; those of the other operations are none of read's
abbrev pub RefusesText : List ℕ → ℕ → Refusal → Type 0
RefusesText text room ShortProblem = room < 2088
RefusesText text room (WrongToken k) = (2088 ≤ room) × (StopsAt text k ⊎ ((k ≡ length text) × EndsEarly text))
RefusesText text room (TooDeep k) = (2088 ≤ room) × DeepAt text k
RefusesText text room BadCounts =
    (2088 ≤ room) × ReadWith text (λ s. (32 < length (bytes_of_script s)) ⊎ (256 < length (nodes_of_script s)))
RefusesText text room ManyFunctions = (2088 ≤ room) × ReadWith text (λ s. FewNodes s × (24 < functions_in (nodes_of_script s)))
RefusesText text room ManyPredicates =
    (2088 ≤ room) × ReadWith text (λ s. FewNodes s × FewFunctions s × (16 < predicates_in (nodes_of_script s)))
RefusesText text room TooShort = ⊥
RefusesText text room NotEqp = ⊥
RefusesText text room BadVersion = ⊥
RefusesText text room BadLength = ⊥
RefusesText text room (BadSymbol k) = ⊥
RefusesText text room (BadNode k) = ⊥
RefusesText text room WrongRoot = ⊥
RefusesText text room ShortWork = ⊥
RefusesText text room ShortWitness = ⊥
RefusesText text room BigProduct = ⊥
