-- The result, and the closing bracket.
use Rattle.std.proofs.Common.{arith}
use Rattle.definitions.specs.Text.Tokens.{opening, closing}
use Rattle.definitions.specs.Text.Reader.{exact, commanding, gave}
use Rattle.problem.specs.Wanted.{sort_read}
use Rattle.terms.specs.Ranks.{in_giving}
use Rattle.terms.specs.Functions.{ReadsRank}
use Rattle.terms.proofs.LexemeLaws.{exactly_later, passed_on}
use Rattle.terms.proofs.ReachLaws.{exact_moves, exact_wrong}
use Rattle.terms.proofs.RankSteps.{byte_small}
use Rattle.terms.proofs.functions.rank_of.Goals as goal

pub returns-in_err-given : goal.returns-in_err-given
returns-in_err-given c =
    passed_on (ReadsRank c.args.text.now c.args.at c.args.sort.now c.args.arity) _ _ c.from_residual.ensures.1
    (record { sound = tt; says = λ cs name r. c.in_err-given.ensures.says cs name c.args.arity r })

pub returns-in_err-closed : goal.returns-in_err-closed
returns-in_err-closed c =
    let k = c.args.arity in
    let sn = c.args.sort.now in
    let given = c.in_ok-given.given in
    passed_on (ReadsRank c.args.text.now c.args.at sn k) _ _ c.from_residual-in_err-closed.ensures.1
    (record {
      sound = tt;
      says = λ cs name r.
          exact_wrong c.args.text.now (gave (in_giving sn cs name k) name k (sort_read given.result)) given.at closing (exact opening commanding)
          (c.in_ok-given.ensures.says cs name k r) _ c.in_err-closed.ensures.0;
    })

pub returns : goal.returns
returns c =
    let k = c.args.arity in
    let sn = c.args.sort.now in
    let given = c.in_ok-given.given in
    record {
      sound = (
        byte_small k (sort_read given.result) _ c.requires.1 c.byte_of.ensures,
        c.in_ok-closed.ensures.1,
        omega (arith, c.in_ok-given.ensures.sound.1, exactly_later c.args.text.now closing c.in_ok-closed.ensures.0),
      );
      says = λ cs name r. (
        sort_read given.result,
        c.byte_of.ensures,
        exact_moves c.args.text.now (gave (in_giving sn cs name k) name k (sort_read given.result)) given.at closing (exact opening commanding)
            (c.in_ok-given.ensures.says cs name k r) _ (omega arith) c.in_ok-closed.ensures.0,
      );
    }
