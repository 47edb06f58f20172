-- What the promise of read says of its answer and of the problem buffer (02, E1). Assumes nothing.
use mathlib.Core.Path.{◌≡◌, refl, sym, ap, ◌∙◌, subst}
use Prim.Native.Nat.{ℕ}
use mathlib.Core.List.{List}
use mathlib.Core.Logic.{◌↔◌}
use lib.ListN.{length, take, drop}
use lib.Seq.{take_at}
use Rattle.std.specs.Prelude.{Result, Ok, Err}
use Rattle.definitions.specs.Operations.Answers.{Answer, refused, given}
use Rattle.definitions.specs.Operations.Buffers.{over}
use Rattle.definitions.specs.Operations.Readings.{refusal_read, reading_read}
use Rattle.definitions.specs.Operations.Promises.{ReadPromise}
use Rattle.definitions.specs.Text.Grammar.{Script}
use Rattle.definitions.specs.Text.Reader.{script_read}
use Rattle.definitions.specs.Text.Nodes.{problem_of_script, taken, length_read, buffer_read, read_answer, read_buffer}
use Rattle.definitions.specs.declared.Refusal.{Refusal}
use Rattle.theorems.specs.ReadConditions.{TakesText, RefusesText}
use Rattle.theorems.proofs.Unique.{reading_apart}
use Rattle.theorems.proofs.Laws.Tests.{clash}
use Rattle.theorems.proofs.Text.Taken.Exactly.{read_means}
use Rattle.theorems.proofs.Text.Refused.{takes_exactly, refuses_exactly}

module _ (text problem : List ℕ) (r : Result ℕ Refusal) (problem' : List ℕ) (promise : ReadPromise text problem r problem') where
  -- the answer and the buffer, by what is taken
  answer_by : (a : Answer Script) → taken text (length problem) ≡ a → reading_read r ≡ length_read a
  unfolding read_answer
  answer_by a e = promise.answers ∙ ap length_read e

  buffer_by : (a : Answer Script) → taken text (length problem) ≡ a → problem' ≡ buffer_read a problem
  unfolding read_buffer
  buffer_by a e = promise.problem_after ∙ ap (λ (a : Answer Script). buffer_read a problem) e

  pub read_refused : (x : Refusal) → (r ≡ Err x) ↔ RefusesText text (length problem) x
  read_refused x = (
    λ e. (refuses_exactly text (length problem) x).0 (go (taken text (length problem)) refl (sym (ap reading_read e) ∙ answer_by (taken text (length problem)) refl)),
    λ m. reading_apart r (Err x) (answer_by (refused (refusal_read x)) ((refuses_exactly text (length problem) x).1 m)),
  )
    where
      go : (a : Answer Script) → taken text (length problem) ≡ a → refused (refusal_read x) ≡ length_read a → taken text (length problem) ≡ refused (refusal_read x)
      go (refused q) p e = cc
      go (given s) p e = clash (cc)

  pub refused_kept : (x : Refusal) → r ≡ Err x → problem' ≡ problem
  refused_kept x e = buffer_by (refused (refusal_read x)) ((refuses_exactly text (length problem) x).1 ((read_refused x).0 e))

  pub read_taken : (written : ℕ) → (r ≡ Ok written) ↔ ((s : Script) × (TakesText text (length problem) s × (written ≡ length (problem_of_script s))))
  read_taken written = (
    λ e. go (taken text (length problem)) refl (sym (ap reading_read e) ∙ answer_by (taken text (length problem)) refl),
    λ t.
        reading_apart r (Ok written)
        (answer_by (given t.0) ((takes_exactly text (length problem) t.0).1 t.1.0) ∙ ap given (sym t.1.1)),
  )
    where
      go : (a : Answer Script) → taken text (length problem) ≡ a → given written ≡ length_read a
          → (s : Script) × (TakesText text (length problem) s × (written ≡ length (problem_of_script s)))
      go (refused q) p e = clash (cc)
      go (given s) p e = (s, ((takes_exactly text (length problem) s).0 p, cc))

  pub taken_written : (s : Script) → TakesText text (length problem) s → problem' ≡ over (problem_of_script s) problem
  taken_written s t = buffer_by (given s) ((takes_exactly text (length problem) s).1 t)

-- where a problem is answered
module _ (text problem : List ℕ) (written : ℕ) (problem' : List ℕ) (promise : ReadPromise text problem (Ok written) problem') where
  found : (s : Script) × (TakesText text (length problem) s × (written ≡ length (problem_of_script s)))
  found = (read_taken text problem (Ok written) problem' promise written).0 refl

  pub script_read_lem : (s : Script) × (script_read text ≡ given s)
  script_read_lem = (found.0, (read_means text found.0).1 found.1.0.reads)

  module _ (s : Script) (reads : script_read text ≡ given s) where
    takes_this : TakesText text (length problem) s × (written ≡ length (problem_of_script s))
    takes_this = go found.0 found.1.0 found.1.1
      where
        go : (q : Script) → TakesText text (length problem) q → written ≡ length (problem_of_script q)
            → TakesText text (length problem) s × (written ≡ length (problem_of_script s))
        go q t w =
            let other = (read_means text q).1 t.reads in
            let same : q ≡ s = cc in
            subst (λ (x : Script). TakesText text (length problem) x × (written ≡ length (problem_of_script x))) same (t, w)

    pub script_takes : TakesText text (length problem) s
    script_takes = takes_this.0

    -- the bytes answered are its problem
    pub script_bytes : take written problem' ≡ problem_of_script s
    script_bytes =
        ap (λ (k : ℕ). take k problem') takes_this.1
        ∙ ap (take (length (problem_of_script s))) (taken_written text problem (Ok written) problem' promise s script_takes)
        ∙ take_at (problem_of_script s) (drop (length (problem_of_script s)) problem) (length (problem_of_script s)) refl
