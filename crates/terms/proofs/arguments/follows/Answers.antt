-- Any token but a closing bracket is an argument, if one may come. Assumes nothing.
use Rattle.std.proofs.Common.{sym}
use Rattle.terms.proofs.OtherLexemes.{some_token, not_closing}
use Rattle.terms.proofs.arguments.follows.Goals as goal

pub returns-in-Some : goal.returns-in-Some
returns-in-Some c =
    record {
      sound = some_token c.args.token.lexeme c.in_default.not-End;
      says = λ sig arity n seen.
          (not_closing c.args.token.lexeme c.in_default.not-Closing, sym (c.in-Some.ensures sig arity n seen));
    }
