use Rattle.std.proofs.Common.{get_or, ap, ◌∙◌, arith}
use Rattle.definitions.specs.Problem.Ops.{arity}
use Rattle.definitions.specs.Witness.{row_bytes}
use Rattle.decision.proofs.RowLaws.{rows_room, image_fits, images_fit, row_read_lem}
use Rattle.decision.proofs.witness.row.Goals as goal

pub offset_bounds-laid-i : goal.offset_bounds-laid-i
offset_bounds-laid-i c = omega (arith, rows_room c.requires.0 c.requires.1 c.requires.2)

pub bounds-laid-i : goal.bounds-laid-i
bounds-laid-i c = rows_room c.requires.0 c.requires.1 c.requires.2

pub argument-requires : goal.argument-requires
argument-requires c =
    omega (arith, images_fit c.requires.0 c.requires.1 c.requires.2 c.from-application.ensures c.images_of-images.ensures 0 c.args.values.now 0 (omega arith), c.requires.3)

pub argument-requires-2 : goal.argument-requires-2
argument-requires-2 c =
    omega (arith, images_fit c.requires.0 c.requires.1 c.requires.2 c.from-application.ensures c.images_of-images.ensures 0 c.args.values.now 1 (omega arith), c.requires.3)

pub argument-requires-3 : goal.argument-requires-3
argument-requires-3 c =
    omega (arith, images_fit c.requires.0 c.requires.1 c.requires.2 c.from-application.ensures c.images_of-images.ensures 0 c.args.values.now 2 (omega arith), c.requires.3)

pub bounds-values-from : goal.bounds-values-from
bounds-values-from c =
    omega (arith, c.from-2.ensures, image_fits c.requires.0 c.requires.1 c.requires.2 c.from-application.ensures, c.requires.3)

pub returns : goal.returns
returns c p are =
    ap row_bytes
    (row_read_lem c.requires.0 c.requires.1 c.requires.2 c.from-application.ensures c.images_of-images.ensures p c.args.values.now
    c.node-node.ensures (c.arity-arity.ensures.0 ∙ ap (arity _) c.from.ensures) c.argument.ensures c.argument-2.ensures c.argument-3.ensures
    (ap (λ n. get_or c.args.values.now n 0) c.from-2.ensures) are)
