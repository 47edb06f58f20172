-- The bytes that pass, from the first on, are the run.
use Rattle.std.proofs.Common.{rules, tests, drop, ap, ◌∙◌}
use Rattle.std.proofs.lemmas.List.{take_rest}
use Rattle.std.proofs.lemmas.Iterator.{YieldsList-from_slice}
use Rattle.std.proofs.lemmas.Iterator.Search.{YieldsList-from_take_while}
use Rattle.std.proofs.lemmas.Iterator.Consumers.{count_from_yields_List}
use Rattle.std.specs.Slice.Iter.{iter_rest}
use Rattle.definitions.specs.Text.Tokens.{word_byte}
use Rattle.terms.proofs.LexLaws.{runs_to}
use Rattle.terms.proofs.tokens.word_end.Goals as goal

pub returns : goal.returns
returns c =
    runs_to c.args.text.now c.args.from c.requires c.count.result
    (count_from_yields_List _ _ c.count.ensures.ran
    (YieldsList-from_take_while _ word_byte (YieldsList-from_slice (drop c.args.from c.args.text.now) (ap iter_rest c.take_while.ensures.source ∙ c.iter.ensures.rest ∙ take_rest c.args.text.now c.args.from)) c.take_while.ensures.closure c.take_while.ensures.done
    (λ x b q k. search (rules, tests))))
