-- What is done when a text is read out (02, E1: "then what joins the asserts and the one negation, last", "then 01's 4, 9 and 10 on the
-- result"). Assumes nothing.
use Rattle.std.specs.Prelude.{◌≡◌, ℕ, ◌≤◌, true, false, List, length, Option, Result, Err}
use Rattle.definitions.specs.Lists.{first_of}
use Rattle.definitions.specs.Problem.Node.{Node, problem_bytes}
use Rattle.definitions.specs.Problem.Check.{nodes_of}
use Rattle.definitions.specs.Operations.Answers.{unless}
use Rattle.definitions.specs.Operations.Buffers.{unless_refused}
use Rattle.definitions.specs.Operations.Buffers as buffers
use Rattle.definitions.specs.Operations.Readings.{reading_read}
use Rattle.definitions.specs.declared.Refusal.{Refusal}
use Rattle.terms.specs.Laying.{over, standing}
use Rattle.terms.proofs.ScriptLaws.{after_four}

-- the symbols and the nodes are as many as a problem may have, and the problem has room
pub record Deliverable (problem symbols : List ℕ) (t : Option (List Node)) : Type 0 where
  pub room : 2088 ≤ length problem
  pub symbols_few : length symbols ≤ 32
  pub some_nodes : over t ≡ false → 1 ≤ length (standing t)

-- 4 where there was no room for all nodes; else 9 or 10, or the problem's length; a refusal writes nothing
pub record Delivered (symbols : List ℕ) (t : Option (List Node)) (problem : List ℕ) (r : Result ℕ Refusal) (problem' : List ℕ) : Type 0 where
  pub few : over t ≡ false → length (standing t) ≤ 256
  pub four : over t ≡ true → (r ≡ Err Refusal.BadCounts) × (problem' ≡ problem)
  pub answers : over t ≡ false
      → reading_read r ≡ unless (first_of (after_four (nodes_of (problem_bytes symbols (standing t))))) (length (problem_bytes symbols (standing t)))
  pub problem_after : over t ≡ false
      → problem' ≡ unless_refused (first_of (after_four (nodes_of (problem_bytes symbols (standing t))))) problem (buffers.over (problem_bytes symbols (standing t)) problem)
