-- By the token that stands there.
use Rattle.std.proofs.Common.{sym, ap}
use Rattle.terms.specs.Lexing.{lexeme_read}
use Rattle.terms.proofs.OtherLexemes.{not_symbol}
use Rattle.terms.proofs.NameSteps.{sort_named, sort_taken, no_sort_lem}
use Rattle.terms.proofs.prologue.sort_name.Goals as goal

pub returns-in_default : goal.returns-in_default
returns-in_default c = no_sort_lem c.args.text.now c.args.at c.requires.0 c.next-token.result c.next-token.ensures (not_symbol _ c.in_default.not-Symbol)

pub returns-then-not-sort_free : goal.returns-then-not-sort_free
returns-then-not-sort_free c =
    sort_taken c.args.text.now c.args.at c.requires.0 c.next-token.result c.next-token.ensures _ (ap lexeme_read c.in-Symbol.is)
    (sym c.if-not-sort_free.ensures)

pub returns : goal.returns
returns c = (
  sort_named c.args.text.now c.args.at c.requires.0 c.next-token.result c.next-token.ensures _ (ap lexeme_read c.in-Symbol.is)
      (sym c.if-not-sort_free.ensures),
  c.next-token.ensures.inside,
)
