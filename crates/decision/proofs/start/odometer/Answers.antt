-- The sizes one by one, and every digit 0.
use Rattle.decision.proofs.Beginning.{are_laid, sized, turning, beginning}
use Rattle.decision.proofs.start.odometer.Goals as goal

pub invariant_of-result : goal.invariant_of-result
invariant_of-result c =
    let few = c.requires.1 in
    let fewer = c.requires.2 in
    let long = c.requires.0 in
    record {
      turning =
          turning
          (sized c.args.tops c.args.shape few fewer long c.requires.3 _
          (are_laid c.args.tops c.args.shape few fewer long c.copy_from_slice.new.self c.fill.new.self c.copy_from_slice.ensures.after (c.fill.ensures.after (λ y e. e))));
    }

pub returns : goal.returns
returns c =
    let few = c.requires.1 in
    let fewer = c.requires.2 in
    let long = c.requires.0 in
    beginning
    (sized c.args.tops c.args.shape few fewer long c.requires.3 _
    (are_laid c.args.tops c.args.shape few fewer long c.copy_from_slice.new.self c.fill.new.self c.copy_from_slice.ensures.after (c.fill.ensures.after (λ y e. e)))) _
