use Rattle.std.proofs.Common.{refl, sym, ap, ◌∙◌, arith}
use Rattle.definitions.specs.Problem.Ops.{arity}
use Rattle.elimination.proofs.Choosing.{choosing_last}
use Rattle.elimination.proofs.Applying.{choices_begin, place_small, choices_pass, choice_fits, arguments_fit, choices_next}
use Rattle.elimination.proofs.laid.Laid.lay_choices.Goals as goal

pub loop-i-init : goal.loop-i-init
loop-i-init c = choices_begin c.requires.0 c.requires.1

pub offset_bounds-self-i : goal.offset_bounds-self-i
offset_bounds-self-i c = omega (arith, place_small c.requires.0 c.requires.1 c.loop-i.invariant (omega arith))

pub bounds-self-i : goal.bounds-self-i
bounds-self-i c = place_small c.requires.0 c.requires.1 c.loop-i.invariant (omega arith)

pub loop-i-preserved-then-same_symbol : goal.loop-i-preserved-then-same_symbol
loop-i-preserved-then-same_symbol c =
    choices_next c.requires.0 c.requires.1 c.loop-i.invariant c.loop-i-test.true c.from-q.ensures
    (sym c.same_symbol.ensures ∙ c.if-same_symbol.true) c.node-node.ensures (c.arity-arity.ensures.0 ∙ ap (arity _) c.from.ensures) c.images_of-xs.ensures c.images_of-ys.ensures
    _ _ c.choice_op-choice.ensures refl c.lay_choice-at.ensures.0 c.lay_choice-at.ensures.1 c.lay_choice-at.ensures.2 c.lay_choice-at.auto.work

pub loop-i-preserved : goal.loop-i-preserved
loop-i-preserved c =
    choices_pass c.requires.0 c.requires.1 c.loop-i.invariant c.loop-i-test.true c.from-q.ensures
    (sym c.same_symbol.ensures ∙ c.if-same_symbol.false)

pub returns : goal.returns
returns c =
    let inv = c.loop-i.invariant in
    (choosing_last _ _ _ _ _ _ _ inv (omega arith), omega (arith, inv.more), omega (arith, inv.room))

pub slice_bounds-xs-end : goal.slice_bounds-xs-end
slice_bounds-xs-end c =
    let fit = arguments_fit c.requires.0 c.requires.1 c.loop-i.invariant c.loop-i-test.true c.from-q.ensures
    (sym c.same_symbol.ensures ∙ c.if-same_symbol.true) c.node-node.ensures (c.arity-arity.ensures.0 ∙ ap (arity _) c.from.ensures) c.images_of-xs.ensures c.images_of-ys.ensures in
    omega (arith, fit.1)

pub slice_bounds-lay_choice-end : goal.slice_bounds-lay_choice-end
slice_bounds-lay_choice-end c =
    let fit = arguments_fit c.requires.0 c.requires.1 c.loop-i.invariant c.loop-i-test.true c.from-q.ensures
    (sym c.same_symbol.ensures ∙ c.if-same_symbol.true) c.node-node.ensures (c.arity-arity.ensures.0 ∙ ap (arity _) c.from.ensures) c.images_of-xs.ensures c.images_of-ys.ensures in
    sym fit.2

pub slice_bounds-ys-end : goal.slice_bounds-ys-end
slice_bounds-ys-end c =
    let fit = arguments_fit c.requires.0 c.requires.1 c.loop-i.invariant c.loop-i-test.true c.from-q.ensures
    (sym c.same_symbol.ensures ∙ c.if-same_symbol.true) c.node-node.ensures (c.arity-arity.ensures.0 ∙ ap (arity _) c.from.ensures) c.images_of-xs.ensures c.images_of-ys.ensures in
    omega (arith, fit.1)

pub slice_bounds-lay_choice-end-then-same_symbol : goal.slice_bounds-lay_choice-end-then-same_symbol
slice_bounds-lay_choice-end-then-same_symbol c =
    let fit = arguments_fit c.requires.0 c.requires.1 c.loop-i.invariant c.loop-i-test.true c.from-q.ensures
    (sym c.same_symbol.ensures ∙ c.if-same_symbol.true) c.node-node.ensures (c.arity-arity.ensures.0 ∙ ap (arity _) c.from.ensures) c.images_of-xs.ensures c.images_of-ys.ensures in
    sym fit.3

pub lay_choice-at-requires : goal.lay_choice-at-requires
lay_choice-at-requires c =
    let fit = arguments_fit c.requires.0 c.requires.1 c.loop-i.invariant c.loop-i-test.true c.from-q.ensures
    (sym c.same_symbol.ensures ∙ c.if-same_symbol.true) c.node-node.ensures (c.arity-arity.ensures.0 ∙ ap (arity _) c.from.ensures) c.images_of-xs.ensures c.images_of-ys.ensures in
    let inv = c.loop-i.invariant in
    let room =
    choice_fits c.requires.0 c.requires.1 c.loop-i.invariant c.loop-i-test.true c.from-q.ensures
    (sym c.same_symbol.ensures ∙ c.if-same_symbol.true) in (
      omega (arith, inv.more),
      omega (arith, fit.0, fit.2),
      omega (arith, fit.1, fit.2),
      fit.3 ∙ sym fit.2,
      room,
      omega (arith, inv.long, c.requires.0.long),
    )
