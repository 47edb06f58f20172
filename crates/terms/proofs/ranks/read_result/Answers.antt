-- By the token that stands there.
use Rattle.terms.proofs.RankSteps.{given_sort, result_wrong}
use Rattle.terms.proofs.ranks.read_result.Goals as goal

pub returns-in-Some : goal.returns-in-Some
returns-in-Some c =
    record {
      sound = (c.next-token.ensures.inside, c.next-token.ensures.later);
      says = λ cs name k r. given_sort c.args.text.now _ cs name k c.args.at c.next-token.result c.next-token.ensures r c.in-Some.result c.in-Some.ensures;
    }

pub returns-in-None : goal.returns-in-None
returns-in-None c =
    record {
      sound = tt;
      says = λ cs name k r. result_wrong c.args.text.now _ cs name k c.args.at c.next-token.result c.next-token.ensures r c.in-None.ensures.0 c.in-None.ensures.1;
    }
