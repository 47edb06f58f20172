-- By the symbol that stands there, and the head that it names. Assumes nothing.
use Rattle.std.proofs.Common.{refl, ap, arith}
use Rattle.definitions.specs.Text.Tokens.{symbol}
use Rattle.terms.specs.Lexing.{lexeme_read}
use Rattle.problem.specs.Wanted.{sort_read}
use Rattle.terms.proofs.OtherLexemes.{not_symbol}
use Rattle.terms.proofs.RowLaws.{no_row_is}
use Rattle.terms.proofs.TermSteps.{bare_wrong}
use Rattle.terms.proofs.TermLaws.{nothing_bare, bare_read}
use Rattle.terms.proofs.terms.bare_term.Goals as goal

pub returns-in_default : goal.returns-in_default
returns-in_default c =
    let text = c.args.signature.text.now in
    let t = c.args.token in
    record {
      sound = tt;
      says = λ levels q sn cs w row outer at wanted.
          nothing_bare text sn cs w row outer at wanted.reached t wanted.lexed (sort_read c.args.sort) wanted.wanted
          (not_symbol t.lexeme c.in_default.not-Symbol) wanted.unclosed q;
    }

pub returns-in_default-head_of : goal.returns-in_default-head_of
returns-in_default-head_of c =
    let text = c.args.signature.text.now in
    let t = c.args.token in
    record {
      sound = tt;
      says = λ levels q sn cs w row outer at wanted.
          bare_wrong text sn cs w row outer at wanted.reached t wanted.lexed (sort_read c.args.sort) wanted.wanted
          (symbol c.in-Symbol.name.now) (ap lexeme_read c.in-Symbol.is) refl refl (c.in_default-head_of.ensures.head sn cs wanted.symbols);
    }

pub returns : goal.returns
returns c =
    let text = c.args.signature.text.now in
    record {
      sound = (omega arith, c.requires);
      says = λ levels q sn cs w row outer at wanted.
          bare_read c.in-Symbol.name.now _ wanted (ap lexeme_read c.in-Symbol.is) (c.in-Some.ensures.head sn cs wanted.symbols).0 (no_row_is c.new.ensures) c.finish.ensures;
    }
