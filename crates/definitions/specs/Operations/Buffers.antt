-- What the lent buffers hold afterwards (01, 'Refusal numbers', below the table). Assumes nothing.
use Rattle.std.specs.Prelude.{ℕ, List, ◌++◌, length, drop}
use Rattle.std.proofs.Math.Option.{Option, none, some}
use Rattle.definitions.specs.Problem.Node.{table_bytes}
use Rattle.definitions.specs.Problem.Check.{Refused}
use Rattle.definitions.specs.Problem.Asked.{asked}
use Rattle.definitions.specs.Elimination.{table_of}
use Rattle.definitions.specs.Verdict.{Outcome, valid, falsified, stopped, outcome_of}
use Rattle.definitions.specs.Witness.{witness_at}
use Rattle.definitions.specs.Operations.Answers.{eliminate_refusal, buffers_refusal, decide_refusal}

-- a buffer with these bytes at its start, and the rest as it was
abbrev pub over : List ℕ → List ℕ → List ℕ
over bytes buffer = bytes ++ drop (length bytes) buffer

-- a buffer that a refusal leaves as it was
abbrev pub unless_refused : Option Refused → List ℕ → List ℕ → List ℕ
unless_refused (some r) before after = before
unless_refused none before after = after

-- the work buffer after eliminate and after ranges: every refusal but 13 leaves it as it was; refusal 13 and every accepted call
-- leave the function-free table of the problem asked at its start and the rest untouched
unfoldable pub work_after : List ℕ → ℕ → List ℕ → List ℕ
work_after s root work =
    unless_refused (eliminate_refusal s root (length work)) work (over (table_bytes (table_of (asked s root))) work)

-- the work buffer after decide, where refusal 12 leaves it as it was too; room is the length of the witness buffer
unfoldable pub work_after_decide : List ℕ → ℕ → List ℕ → ℕ → List ℕ
work_after_decide s root work room =
    unless_refused (buffers_refusal s root (length work) room) work (over (table_bytes (table_of (asked s root))) work)

-- only falsified writes the witness buffer; bytes past the witness stay
abbrev pub witness_written : List ℕ → Outcome → List ℕ → List ℕ
witness_written a (valid tried) witness = witness
witness_written a (falsified tried) witness = over (witness_at a tried) witness
witness_written a (stopped tried) witness = witness

-- the witness buffer after decide; work is the length of the work buffer
unfoldable pub witness_after : List ℕ → ℕ → ℕ → ℕ → List ℕ → List ℕ
witness_after s root budget work witness =
    unless_refused (decide_refusal s root work (length witness)) witness
    (witness_written (asked s root) (outcome_of (asked s root) budget) witness)
