-- The paper's number and values for each case of the answers (01, 'Where each form goes', last paragraph). The promises
-- go through these readings. Assumes nothing.
use Rattle.std.specs.Prelude.{ℕ, replicate, Result, Ok, Err}
use Rattle.definitions.specs.Problem.Check.{Refused, refuse}
use Rattle.definitions.specs.Operations.Answers.{Answer, refused, given, RangesAnswer, isValid, isFalsified, isStopped, Decided}
use Rattle.definitions.specs.Operations.Answers as paper
use Rattle.definitions.specs.declared.Refusal.{Refusal}
use Rattle.definitions.specs.declared.Refusal.TheVariants.{
  TooShort,
  NotEqp,
  BadVersion,
  BadCounts,
  BadLength,
  BadSymbol,
  BadNode,
  ManyFunctions,
  ManyPredicates,
  ShortWork,
  ShortWitness,
  BigProduct,
  WrongToken,
  TooDeep,
  WrongRoot,
  ShortProblem,
}
use Rattle.definitions.specs.declared.Counts.{Counts}
use Rattle.definitions.specs.declared.Table.{Table}
use Rattle.definitions.specs.declared.Ranges.{Ranges}
use Rattle.definitions.specs.declared.Verdict.{Verdict}
use Rattle.definitions.specs.declared.Decision.{Decision}

abbrev pub refusal_read : Refusal → Refused
refusal_read TooShort = refuse 1 0
refusal_read NotEqp = refuse 2 0
refusal_read BadVersion = refuse 3 0
refusal_read BadCounts = refuse 4 0
refusal_read BadLength = refuse 5 0
refusal_read (BadSymbol k) = refuse 6 k
refusal_read (BadNode k) = refuse 7 k
refusal_read ManyFunctions = refuse 9 0
refusal_read ManyPredicates = refuse 10 0
refusal_read ShortWork = refuse 11 0
refusal_read ShortWitness = refuse 12 0
refusal_read BigProduct = refuse 13 0
refusal_read (WrongToken k) = refuse 14 k
refusal_read (TooDeep k) = refuse 15 k
refusal_read WrongRoot = refuse 16 0
refusal_read ShortProblem = refuse 23 0

abbrev pub checked_read : Result Counts Refusal → Answer paper.Counts
checked_read (Ok c) = given (record { functions = c.functions; predicates = c.predicates })
checked_read (Err r) = refused (refusal_read r)

abbrev pub eliminated_read : Result Table Refusal → Answer paper.Table
eliminated_read (Ok t) = given (record { nodes = t.nodes; root = t.root })
eliminated_read (Err r) = refused (refusal_read r)

abbrev pub ranges_read : Result Ranges Refusal → RangesAnswer
ranges_read (Ok r) = record { tops = r.tops; answer = given (record { truths = r.truths; product = r.product }) }
ranges_read (Err r) = record { tops = replicate 24 0; answer = refused (refusal_read r) }

abbrev pub verdict_read : Verdict → paper.Verdict
verdict_read Verdict.Valid = isValid
verdict_read (Verdict.Falsified written) = isFalsified
verdict_read Verdict.Stopped = isStopped

abbrev pub written_read : Verdict → ℕ
written_read Verdict.Valid = 0
written_read (Verdict.Falsified written) = written
written_read Verdict.Stopped = 0

abbrev pub decision_read : Result Decision Refusal → Answer Decided
decision_read (Ok d) =
    given (record { verdict = verdict_read d.verdict; tried = d.tried; product = d.product; written = written_read d.verdict })
decision_read (Err r) = refused (refusal_read r)

abbrev pub reading_read : Result ℕ Refusal → Answer ℕ
reading_read (Ok written) = given written
reading_read (Err r) = refused (refusal_read r)
