-- The bytes that may stand between bars are passed, and a bar ends them or nothing does.
use Rattle.std.proofs.Common.{rules, tests, drop, ap, ◌∙◌, inl, inr, subst, sym}
use borrow.Author.Tests.{le-ltb}
use Rattle.std.proofs.lemmas.List.{take_rest}
use Rattle.std.proofs.lemmas.Iterator.{YieldsList-from_slice}
use Rattle.std.proofs.lemmas.Iterator.Search.{YieldsList-from_take_while}
use Rattle.std.proofs.lemmas.Iterator.Consumers.{count_from_yields_List}
use Rattle.std.specs.Slice.Iter.{iter_rest}
use Rattle.definitions.specs.Text.Tokens.{bar_byte}
use Rattle.terms.specs.Lexing.{BarredTo}
use Rattle.terms.proofs.LexLaws.{bars_to}
use Rattle.terms.proofs.tokens.bar_end.Goals as goal
use Rattle.terms.proofs.tokens.bar_end.Goals.{then-at-text, else-at-text}

pub returns : goal.returns
returns c =
    subst (BarredTo c.args.text.now c.args.from) (sym c.then_some.ensures)
    (bars_to c.args.text.now c.args.from c.count.result c.requires
    (count_from_yields_List _ _ c.count.ensures.ran
    (YieldsList-from_take_while _ bar_byte
    (YieldsList-from_slice (drop c.args.from c.args.text.now)
    (ap iter_rest c.take_while.ensures.source ∙ c.iter.ensures.rest ∙ take_rest c.args.text.now c.args.from)) c.take_while.ensures.closure
    c.take_while.ensures.done (λ x b q k. search (rules, tests)))) _
    (elim c.if-at-text.branch [ then-at-text w ↦ inl (w.if-at-text.true, w.then_some-is) | else-at-text w ↦ inr (w.if-at-text.false, w.then_some-is ∙ le-ltb _ _ w.if-at-text.false) ]))
