-- What check, eliminate, ranges and decide answer of a problem s and a root, in the paper's numbers: the first refusal whose condition
-- holds, or the values, which are those of the problem asked (01, 'Refusal numbers', and the section of each operation; 02, E2).
-- Assumes nothing.
use Rattle.std.specs.Prelude.{ℕ, ◌^◌, List, [], ◌∷◌, length, replicate, ltb}
use Rattle.std.proofs.Math.Option.{Option, none, some}
use Rattle.definitions.specs.Lists.{first_of}
use Rattle.definitions.specs.Problem.Check.{nodes_of, functions_in, predicates_in, Refused, refuse_if}
use Rattle.definitions.specs.Problem.Asked.{asked, refusal_of}
use Rattle.definitions.specs.Elimination.{eliminated, table_of, root_of}
use Rattle.definitions.specs.Ranges.{tops_of, product, padded}
use Rattle.definitions.specs.Verdict.{Outcome, valid, falsified, stopped, outcome_of}
use Rattle.definitions.specs.Witness.{witness_at}

-- conditions 11 to 13, on the lengths of the work buffer and of the witness buffer, and on the product of the problem asked
abbrev pub short_work : ℕ → Option Refused
short_work work = refuse_if (ltb work 21056) 11

abbrev pub short_witness : ℕ → Option Refused
short_witness room = refuse_if (ltb room 206) 12

abbrev pub big_product : List ℕ → Option Refused
big_product a = refuse_if (ltb (10 ^ 18) (product a)) 13

-- check can give 1 to 7, 16, 9 and 10; eliminate 11 too; ranges 11 and 13; decide all. Laying the table can be refused by all but 13
unfoldable pub eliminate_refusal : List ℕ → ℕ → ℕ → Option Refused
eliminate_refusal s root work = first_of (refusal_of s root ∷ short_work work ∷ [])

unfoldable pub ranges_refusal : List ℕ → ℕ → ℕ → Option Refused
ranges_refusal s root work = first_of (eliminate_refusal s root work ∷ big_product (asked s root) ∷ [])

unfoldable pub buffers_refusal : List ℕ → ℕ → ℕ → ℕ → Option Refused
buffers_refusal s root work room = first_of (eliminate_refusal s root work ∷ short_witness room ∷ [])

unfoldable pub decide_refusal : List ℕ → ℕ → ℕ → ℕ → Option Refused
decide_refusal s root work room = first_of (buffers_refusal s root work room ∷ big_product (asked s root) ∷ [])

-- an answer: a refusal, which is its number and place and nothing else, or values
pub data Answer (A : Type 0) : Type 0 where
  refused : Refused → Answer A
  given : A → Answer A

abbrev pub unless : {A : Type 0} → Option Refused → A → Answer A
unless (some r) values = refused r
unless none values = given values

-- check: the counts of distinct function and predicate applications
pub record Counts : Type 0 where
  pub functions : ℕ
  pub predicates : ℕ

abbrev pub counts : List ℕ → Counts
counts a = record { functions = functions_in (nodes_of a); predicates = predicates_in (nodes_of a) }

unfoldable pub check_answer : List ℕ → ℕ → Answer Counts
check_answer s root = unless (refusal_of s root) (counts (asked s root))

-- eliminate: the count of function-free nodes, and the root
pub record Table : Type 0 where
  pub nodes : ℕ
  pub root : ℕ

abbrev pub laid : List ℕ → Table
laid a = record { nodes = length (table_of a); root = root_of (eliminated a) }

unfoldable pub eliminate_answer : List ℕ → ℕ → ℕ → Answer Table
eliminate_answer s root work = unless (eliminate_refusal s root work) (laid (asked s root))

-- ranges: 24 tops, which are all 0 in a refusal, and beside them the count of truth variables and the product
pub record Measure : Type 0 where
  pub truths : ℕ
  pub product : ℕ

pub record RangesAnswer : Type 0 where
  pub tops : List ℕ
  pub answer : Answer Measure

abbrev pub tops_unless : Option Refused → List ℕ → List ℕ
tops_unless (some r) ts = replicate 24 0
tops_unless none ts = padded ts

abbrev pub measured : List ℕ → Measure
measured a = record { truths = predicates_in (nodes_of a); product = product a }

unfoldable pub ranges_answer : List ℕ → ℕ → ℕ → RangesAnswer
ranges_answer s root work =
    record {
      tops = tops_unless (ranges_refusal s root work) (tops_of (asked s root));
      answer = unless (ranges_refusal s root work) (measured (asked s root));
    }

-- decide: verdict, tried, product and witness length, which is 0 unless falsified
pub data Verdict : Type 0 where
  isValid isFalsified isStopped : Verdict

pub record Decided : Type 0 where
  pub verdict : Verdict
  pub tried : ℕ
  pub product : ℕ
  pub written : ℕ

abbrev pub decided : List ℕ → Outcome → Decided
decided a (valid tried) = record { verdict = isValid; tried = tried; product = product a; written = 0 }
decided a (falsified tried) =
    record { verdict = isFalsified; tried = tried; product = product a; written = length (witness_at a tried) }
decided a (stopped tried) = record { verdict = isStopped; tried = tried; product = product a; written = 0 }

unfoldable pub decide_answer : List ℕ → ℕ → ℕ → ℕ → ℕ → Answer Decided
decide_answer s root budget work room =
    unless (decide_refusal s root work room) (decided (asked s root) (outcome_of (asked s root) budget))
