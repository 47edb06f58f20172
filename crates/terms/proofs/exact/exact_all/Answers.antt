-- One token more.
use Rattle.std.proofs.Common.{◌+◌, List, drop, map, get_or, subst}
use Rattle.definitions.specs.Text.Reader.{goes, each}
use Rattle.definitions.specs.Text.Tokens as tokens
use Rattle.terms.specs.Reading.{Reached, Passes, due_read}
use Rattle.terms.specs.declared.exact.Due.{Due}
use Rattle.terms.proofs.LexemeLaws.{passed_on}
use Rattle.terms.proofs.ReachLaws.{dues_next, dues_end, level_each, exact_moves, exact_wrong}
use Rattle.terms.proofs.exact.exact_all.Goals as goal

pub returns-in_err-at : goal.returns-in_err-at
returns-in_err-at c =
    let text = c.args.text.now in
    let dues = c.args.dues.now in
    let at = c.loop-due.at in
    let k = c.loop-due.due-index in
    passed_on (Passes text c.args.from dues) _ _ c.from_residual.ensures.1
    (record {
      inside = tt;
      says = λ st then h r.
          exact_wrong text st at (due_read (get_or dues k Due.Opening)) (each (map due_read (drop (k + 1) dues)) then)
          (subst (λ (ts : List tokens.Token). Reached text (goes st (each ts then)) at) (dues_next dues k c.loop-due-test.true) (c.loop-due.invariant.1 st then h r)) _ c.in_err-at.ensures.0;
    })

pub loop-due-preserved : goal.loop-due-preserved
loop-due-preserved c =
    let text = c.args.text.now in
    let dues = c.args.dues.now in
    let at = c.loop-due.at in
    let k = c.loop-due.due-index in (
      c.in_ok-at.ensures.1,
      λ st then h r.
          exact_moves text st at (due_read (get_or dues k Due.Opening)) (each (map due_read (drop (k + 1) dues)) then)
          (subst (λ (ts : List tokens.Token). Reached text (goes st (each ts then)) at) (dues_next dues k c.loop-due-test.true) (c.loop-due.invariant.1 st then h r)) _
          (level_each (map due_read (drop (k + 1) dues)) then h) c.in_ok-at.ensures.0,
    )

pub returns : goal.returns
returns c =
    let text = c.args.text.now in
    let dues = c.args.dues.now in
    record {
      inside = c.loop-due.invariant.0;
      says = λ st then h r.
          subst (λ (ts : List tokens.Token). Reached text (goes st (each ts then)) c.loop-due.at) (dues_end dues c.loop-due.due-index c.loop-due-test.false)
          (c.loop-due.invariant.1 st then h r);
    }
