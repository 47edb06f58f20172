-- By the token that stands there.
use Rattle.std.proofs.Common.{sym, ap, arith}
use Rattle.definitions.specs.Text.Tokens.{opening}
use Rattle.definitions.specs.Text.Reader.{taking}
use Rattle.terms.specs.Lexing.{lexeme_read}
use Rattle.terms.specs.Functions.{ReadsName}
use Rattle.terms.proofs.LexemeLaws.{exactly_later, passed_on}
use Rattle.terms.proofs.OtherLexemes.{not_symbol}
use Rattle.terms.proofs.ReachLaws.{exact_moves, exact_wrong}
use Rattle.terms.proofs.NameSteps.{name_read, function_named, function_taken, no_function}
use Rattle.terms.proofs.functions.function_name.Goals as goal

pub returns-in_default : goal.returns-in_default
returns-in_default c =
    record {
      sound = tt;
      says = λ sn cs symbols r.
          no_function c.args.signature.text.now sn cs c.args.at r c.next-token.result c.next-token.ensures (not_symbol _ c.in_default.not-Symbol);
    }

pub returns-then-not-free : goal.returns-then-not-free
returns-then-not-free c =
    record {
      sound = tt;
      says = λ sn cs symbols r.
          function_taken c.args.signature.text.now sn cs c.args.at r c.next-token.result c.next-token.ensures _ (ap lexeme_read c.in-Symbol.is)
          (sym (c.if-not-free.ensures sn cs symbols));
    }

pub returns-in_err-opened : goal.returns-in_err-opened
returns-in_err-opened c =
    let name = c.in-Symbol.name.now in
    passed_on (ReadsName c.args.signature.text.now c.args.signature.shelf.now c.args.signature.declared c.args.at) _ _ c.from_residual.ensures.1
    (record {
      sound = tt;
      says = λ sn cs symbols r.
          exact_wrong c.args.signature.text.now (name_read sn cs name) c.next-token.result.next opening (taking name 0)
          (function_named c.args.signature.text.now sn cs c.args.at r c.next-token.result c.next-token.ensures name (ap lexeme_read c.in-Symbol.is)
          (sym (c.if-not-free.ensures sn cs symbols))) _ c.in_err-opened.ensures.0;
    })

pub returns : goal.returns
returns c =
    let name = c.in-Symbol.name.now in
    record {
      sound = (
        c.in_ok-opened.ensures.1,
        omega (arith, c.next-token.ensures.later, exactly_later c.args.signature.text.now opening c.in_ok-opened.ensures.0),
      );
      says = λ sn cs symbols r. (
        exact_moves c.args.signature.text.now (name_read sn cs name) c.next-token.result.next opening (taking name 0)
            (function_named c.args.signature.text.now sn cs c.args.at r c.next-token.result c.next-token.ensures name (ap lexeme_read c.in-Symbol.is)
            (sym (c.if-not-free.ensures sn cs symbols))) _ (omega arith) c.in_ok-opened.ensures.0,
        sym (c.if-not-free.ensures sn cs symbols),
      );
    }
