-- Before the first command: nothing is declared, nothing is laid; and what a text that is refused at once promises (02, E1).
-- Assumes nothing.
use mathlib.Core.Path.{◌≡◌, refl, sym, ap, ◌∙◌}
use Prim.Native.Nat.{ℕ, ◌≤◌, ◌<◌}
use native.Mathlib.Omega.{arith}
use mathlib.Core.Bool.{Bool, false≢true}
use mathlib.Core.List.{List, []}
use lib.ListN.{length}
use borrow.Author.Tests.{lt-ltb, le-ltb}
use Rattle.std.specs.Prelude.{Err}
use Rattle.definitions.specs.Problem.Check.{refuse_if}
use Rattle.definitions.specs.Operations.Answers.{Answer, refused}
use Rattle.definitions.specs.Operations.Readings.{refusal_read}
use Rattle.definitions.specs.Operations.Promises.{ReadPromise}
use Rattle.definitions.specs.Text.Grammar.{Script}
use Rattle.definitions.specs.Text.Reader.{script_read}
use Rattle.definitions.specs.Text.Nodes.{if_room, within_limits, taken, length_read, buffer_read, read_answer, read_buffer}
use Rattle.definitions.specs.declared.Refusal.{Refusal}
use Rattle.terms.specs.Terms.{RefusedBy}
use Rattle.terms.specs.declared.declared.Shelved.{Shelved}
use Rattle.terms.specs.declared.prologue.Named.{Named}
use Rattle.text.specs.Readable.{Readable}
use Rattle.text.specs.Scripted.{Scripted, first_script}

pub first_scripted : {text problem : List ℕ} {n : Named} → Readable text problem n → (shelf : List Shelved) → Scripted text shelf (first_script n)
first_scripted r shelf =
    record {
      sound = record {
        declared_sound = record {
          sound = λ i o. absurd (omega (arith, o.0));
          command_inside = r.inside;
        };
        count_few = omega arith;
      };
      commands = [];
      so = record {
        symbols_so = record {
          sort_is_lem = refl;
          shelved = record { counted = refl; named = λ i o. absurd (omega (arith, o.0)); typed = λ i o. absurd (omega (arith, o.0)); inhabits = refl };
          reached = r.reached;
        };
        few_so = λ _. omega arith;
        bytes_so = λ _. refl;
        table_so = λ _. refl;
        roots_so = λ _. refl;
        over_so = λ e. absurd (false≢true e);
      };
    }

module _ (text problem : List ℕ) (refusal : Refusal) where
  -- a refusal writes nothing
  by_refusal : taken text (length problem) ≡ refused (refusal_read refusal) → ReadPromise text problem (Err refusal) problem
  unfolding read_answer read_buffer
  by_refusal e =
      record { answers = sym (ap length_read e); problem_after = sym (ap (λ (x : Answer Script). buffer_read x problem) e) }

  pub refused_promised : 2088 ≤ length problem → RefusedBy text refusal → ReadPromise text problem (Err refusal) problem
  unfolding taken
  refused_promised room e =
      by_refusal
      (ap (λ (b : Bool). if_room (refuse_if b 23) (within_limits (script_read text))) (le-ltb (length problem) 2088 room) ∙ ap within_limits e)

-- 23 comes first
pub short_promised : (text problem : List ℕ) → length problem < 2088 → ReadPromise text problem (Err Refusal.ShortProblem) problem
unfolding taken
short_promised text problem h =
    by_refusal text problem Refusal.ShortProblem
    (ap (λ (b : Bool). if_room (refuse_if b 23) (within_limits (script_read text))) (lt-ltb (length problem) 2088 h))
