-- By the term, and by the bracket behind it. Assumes nothing.
use Rattle.std.proofs.Common.{refl, ap, [], arith, ◌≤◌}
use Rattle.std.proofs.lemmas.Result.{err_from_is_err_and}
use Rattle.definitions.specs.Text.Grammar.{end, one_formula}
use Rattle.terms.specs.Lexing.{lexeme_read}
use Rattle.terms.proofs.OtherLexemes.{not_closing}
use Rattle.terms.proofs.TermSteps.{closed_early}
use Rattle.text.proofs.AssertLaws.{formula_wanted, not_closed, closed_there}
use Rattle.text.proofs.asserting.read_assert.Goals as goal

pub returns-in-Closing : goal.returns-in-Closing
returns-in-Closing c i =
    let text = c.args.text.now in
    closed_early text c.args.script.now.declared.sort.now i.commands one_formula end [] c.args.at i.reached c.next-token.result c.next-token.ensures
    (ap lexeme_read c.in-Closing.is) refl

pub returns-in_err-term : goal.returns-in_err-term
returns-in_err-term c i =
    let p = err_from_is_err_and c.from_residual.result c.from_residual.ensures.1 in
    let text = c.args.text.now in
    let wanted = formula_wanted i c.next-token.result c.next-token.ensures (not_closing c.next-token.result.lexeme c.in_default.not-Closing) in
    rw (p.1, p.2) (c.in_err-term.ensures.says c.args.script.now.declared.sort.now i.commands one_formula end [] c.args.at wanted)

pub returns-in_err-closed : goal.returns-in_err-closed
returns-in_err-closed c i =
    let p = err_from_is_err_and c.from_residual-in_err-closed.result c.from_residual-in_err-closed.ensures.1 in
    let text = c.args.text.now in
    let wanted = formula_wanted i c.next-token.result c.next-token.ensures (not_closing c.next-token.result.lexeme c.in_default.not-Closing) in
    let read = c.in_ok-term.ensures.says c.args.script.now.declared.sort.now i.commands one_formula end [] c.args.at wanted in
    rw (p.1, p.2) (not_closed i read c.in_err-closed.field-0.0 c.in_err-closed.ensures.0)

pub returns : goal.returns
returns c i =
    let text = c.args.text.now in
    let wanted = formula_wanted i c.next-token.result c.next-token.ensures (not_closing c.next-token.result.lexeme c.in_default.not-Closing) in
    let read = c.in_ok-term.ensures.says c.args.script.now.declared.sort.now i.commands one_formula end [] c.args.at wanted in
    let onward : c.args.at ≤ c.in_ok-term.term.at = omega (arith, c.next-token.ensures.later, c.in_ok-term.ensures.sound.0) in
    closed_there i read c.in_ok-closed.closed c.in_ok-closed.ensures.0 onward c.keep.ensures
