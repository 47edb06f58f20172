-- `decide` answers as the definition does. Assumes nothing.
use Rattle.std.proofs.lemmas.Grind.{common_steps}
use Rattle.std.proofs.Common.{◌≡◌, arith, rules}
use Rattle.definitions.specs.Night.{said}
use Rattle.definitions.specs.Problem.Asked.{last_node}
use Rattle.definitions.specs.Operations.Answers.{decide_answer}
use Rattle.definitions.specs.Operations.Readings.{decision_read}
use Rattle.lines.proofs.Answering.{said_decided}
use Rattle.lines.proofs.job_line.Goals as goal

pub returns : goal.returns
returns c =
    let s = c.args.problem.now in
    let same : said (decision_read c.decide-answer.result) ≡ said (decide_answer s (last_node s) c.args.budget 21056 206) =
    said_decided c.last_node.ensures c.decide-answer.ensures (search rules) (search rules)
    in
    grind (arith, common_steps, same)
