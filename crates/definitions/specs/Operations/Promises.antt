-- What each public operation promises, for every input: the answer, read in the paper's numbers, and every lent buffer's whole
-- content afterwards (01, 'Promises and idle programs'). s are the problem bytes, root the node asked (02, E2). A name with a prime is
-- the content afterwards. Assumes nothing.
use Rattle.std.specs.Prelude.{ℕ, ◌≡◌, List, length, Result}
use Rattle.definitions.specs.Operations.Answers.{check_answer, eliminate_answer, ranges_answer, decide_answer}
use Rattle.definitions.specs.Operations.Buffers.{work_after, work_after_decide, witness_after}
use Rattle.definitions.specs.Operations.Readings.{checked_read, eliminated_read, ranges_read, decision_read, reading_read}
use Rattle.definitions.specs.Operations.Host.{host_outcome, read_outcome}
use Rattle.definitions.specs.Text.Nodes.{read_answer, read_buffer}
use Rattle.definitions.specs.declared.Refusal.{Refusal}
use Rattle.definitions.specs.declared.Counts.{Counts}
use Rattle.definitions.specs.declared.Table.{Table}
use Rattle.definitions.specs.declared.Ranges.{Ranges}
use Rattle.definitions.specs.declared.Decision.{Decision}

pub record CheckPromise (root : ℕ) (s : List ℕ) (r : Result Counts Refusal) : Type 0 where
  pub answers : checked_read r ≡ check_answer s root

pub record EliminatePromise (root : ℕ) (s work : List ℕ) (r : Result Table Refusal) (work' : List ℕ) : Type 0 where
  pub answers : eliminated_read r ≡ eliminate_answer s root (length work)
  pub work_after_is : work' ≡ work_after s root work

pub record RangesPromise (root : ℕ) (s work : List ℕ) (r : Result Ranges Refusal) (work' : List ℕ) : Type 0 where
  pub answers : ranges_read r ≡ ranges_answer s root (length work)
  pub work_after_is : work' ≡ work_after s root work

pub record DecidePromise (budget root : ℕ) (s work witness : List ℕ) (r : Result Decision Refusal) (work' witness' : List ℕ) : Type 0 where
  pub answers : decision_read r ≡ decide_answer s root budget (length work) (length witness)
  pub work_after_is : work' ≡ work_after_decide s root work (length witness)
  pub witness_after_is : witness' ≡ witness_after s root budget (length work) witness

pub record HostPromise (budget root : ℕ) (s work witness answer : List ℕ) (r : ℕ) (work' witness' answer' : List ℕ) : Type 0 where
  pub returns : r ≡ (host_outcome budget root s work witness answer).returned
  pub work_after_is : work' ≡ (host_outcome budget root s work witness answer).work
  pub witness_after_is : witness' ≡ (host_outcome budget root s work witness answer).witness
  pub answer_after : answer' ≡ (host_outcome budget root s work witness answer).answer

-- read (02, E1): the length of the problem written, or the refusal; and the problem buffer
pub record ReadPromise (text problem : List ℕ) (r : Result ℕ Refusal) (problem' : List ℕ) : Type 0 where
  pub answers : reading_read r ≡ read_answer text (length problem)
  pub problem_after : problem' ≡ read_buffer text problem

pub record HostReadPromise (text problem answer : List ℕ) (r : ℕ) (problem' answer' : List ℕ) : Type 0 where
  pub returns : r ≡ (read_outcome text problem answer).returned
  pub problem_after : problem' ≡ (read_outcome text problem answer).problem
  pub answer_after : answer' ≡ (read_outcome text problem answer).answer
