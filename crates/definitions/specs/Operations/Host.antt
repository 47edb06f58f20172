-- The calls from the overnight rig: what each returns, and what it writes into the answer buffer (01, 'The job'; 02, E1 and E2; the
-- layouts are docs/FORMAT.md, 'The host's answer'). Assumes nothing.
use Rattle.std.specs.Prelude.{ℕ, List, ◌∷◌, ◌++◌, true, false, length, replicate, ltb}
use Rattle.definitions.specs.Bytes.{bytes_of, two}
use Rattle.definitions.specs.Operations.Answers.{Answer, refused, given, Verdict, isValid, isFalsified, isStopped, Decided, decide_answer}
use Rattle.definitions.specs.Operations.Buffers.{over, work_after_decide, witness_after}
use Rattle.definitions.specs.Text.Nodes.{read_answer, read_buffer}

-- byte 0: 0 for a refusal
abbrev pub verdict_byte : Verdict → ℕ
verdict_byte isValid = 1
verdict_byte isFalsified = 2
verdict_byte isStopped = 3

-- verdict, refusal number, four zeros, witness length in 2 bytes; then place, tried and product in 8 bytes each
abbrev pub thirty_two : ℕ → ℕ → ℕ → ℕ → ℕ → ℕ → List ℕ
thirty_two verdict refusal written place tried product =
    verdict ∷ refusal ∷ replicate 4 0 ++ two written ++ bytes_of 8 place ++ bytes_of 8 tried ++ bytes_of 8 product

abbrev pub answer_bytes : Answer Decided → List ℕ
answer_bytes (refused r) = thirty_two 0 r.number 0 r.place 0 0
answer_bytes (given d) = thirty_two (verdict_byte d.verdict) 0 d.written 0 d.tried d.product

-- what a call leaves: the number returned, and the three buffers
pub record HostOutcome : Type 0 where
  pub returned : ℕ
  pub work : List ℕ
  pub witness : List ℕ
  pub answer : List ℕ

-- an answer buffer under 32 bytes returns 0 before anything else is tried, and changes no buffer
unfoldable pub host_outcome : ℕ → ℕ → List ℕ → List ℕ → List ℕ → List ℕ → HostOutcome
host_outcome budget root s work witness answer =
    elim (ltb (length answer) 32) [
      | true ↦ record { returned = 0; work = work; witness = witness; answer = answer }
      | false ↦
          record {
            returned = 1;
            work = work_after_decide s root work (length witness);
            witness = witness_after s root budget (length work) witness;
            answer = over (answer_bytes (decide_answer s root budget (length work) (length witness))) answer;
          }
    ]

-- the call that reads a text: 10 in byte 0, and the problem's length in the bytes of tried; or the refusal
abbrev pub read_bytes : Answer ℕ → List ℕ
read_bytes (refused r) = thirty_two 0 r.number 0 r.place 0 0
read_bytes (given written) = thirty_two 10 0 0 0 written 0

pub record ReadOutcome : Type 0 where
  pub returned : ℕ
  pub problem : List ℕ
  pub answer : List ℕ

unfoldable pub read_outcome : List ℕ → List ℕ → List ℕ → ReadOutcome
read_outcome text problem answer =
    elim (ltb (length answer) 32) [
      | true ↦ record { returned = 0; problem = problem; answer = answer }
      | false ↦
          record {
            returned = 1;
            problem = read_buffer text problem;
            answer = over (read_bytes (read_answer text (length problem))) answer;
          }
    ]
