-- By the token that stands there.
use Rattle.std.proofs.Common.{sym, arith, inl}
use Rattle.definitions.specs.Text.Tokens.{closing, symbol}
use Rattle.terms.specs.Ranks.{ReadsArity}
use Rattle.terms.proofs.LexemeLaws.{token_is, exactly_later, passed_on}
use Rattle.terms.proofs.RankSteps.{arity_closes, sort_taken, arity_wrong, last_closes, last_wrong}
use Rattle.terms.proofs.ranks.read_arity.Goals as goal

pub returns-then-is_due : goal.returns-then-is_due
returns-then-is_due c =
    record {
      sound = (omega arith, c.next-token.ensures.inside, omega (arith, c.next-token.ensures.later));
      says = λ cs name r.
          arity_closes c.args.text.now _ cs name c.loop-arity.arity c.loop-arity.at c.next-token.result c.next-token.ensures (c.loop-arity.invariant.2 cs name r) (token_is closing _ (sym c.if-is_due.ensures));
    }

pub returns-then-not-is_due : goal.returns-then-not-is_due
returns-then-not-is_due c =
    record {
      sound = tt;
      says = λ cs name r.
          arity_wrong c.args.text.now _ cs name c.loop-arity.arity c.loop-arity.at c.next-token.result c.next-token.ensures (c.loop-arity.invariant.2 cs name r) (sym c.if-is_due.ensures) (inl (sym c.if-not-is_due.ensures));
    }

pub loop-arity-preserved : goal.loop-arity-preserved
loop-arity-preserved c = (
  c.next-token.ensures.inside,
  omega (arith, c.next-token.ensures.later),
  λ cs name r.
      sort_taken c.args.text.now _ cs name c.loop-arity.arity c.loop-arity.at c.next-token.result c.next-token.ensures (c.loop-arity.invariant.2 cs name r) (token_is (symbol c.args.sort.now) _ (sym c.if-not-is_due.ensures)) (omega arith),
)

pub returns-in_err-closed : goal.returns-in_err-closed
returns-in_err-closed c =
    passed_on (ReadsArity c.args.text.now c.args.from c.args.sort.now) _ _ c.from_residual.ensures.1
    (record {
      sound = tt;
      says = λ cs name r. last_wrong c.args.text.now _ cs name c.loop-arity.arity c.loop-arity.at (omega arith) (c.loop-arity.invariant.2 cs name r) c.in_err-closed.ensures.0;
    })

pub returns : goal.returns
returns c =
    record {
      sound = (omega arith, c.in_ok-closed.ensures.1, omega (arith, exactly_later c.args.text.now closing c.in_ok-closed.ensures.0));
      says = λ cs name r. last_closes c.args.text.now _ cs name c.loop-arity.arity c.loop-arity.at (omega arith) (c.loop-arity.invariant.2 cs name r) c.in_ok-closed.ensures.0;
    }
