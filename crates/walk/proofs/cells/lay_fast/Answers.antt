-- One fast digit more is laid, in runs of all lanes where it has a single value.
use Rattle.std.proofs.Common.{◌<◌, inl, inr, arith, ◌∙◌, get_or-take}
use native.Mathlib.Nat.{mul-le-mul_right}
use Rattle.walk.proofs.Filling.{least_small}
use Rattle.walk.proofs.Fast.{fast_length, digit_fits, laid_fits, digit_room, digit_more, run_after}
use Rattle.walk.proofs.cells.lay_fast.Goals as goal
use Rattle.walk.proofs.cells.lay_fast.Goals.{then-size-eq1, else-size-eq1}

pub lay_digit-requires : goal.lay_digit-requires
lay_digit-requires c =
    let p = c.requires in
    let q = c.requires.0 in
    let long = fast_length _ _ q in
    let h : c.loop-v.v < c.args.parts.fast = omega arith in
    let f = digit_fits _ _ q c.loop-v.v h c.loop-v.run c.loop-v.invariant.run_is in
    let g = digit_room _ _ q c.loop-v.v h c.loop-v.run c.loop-v.invariant.run_is in
    let e = least_small c.args.variables c.loop-v.v in
    let k = c.least.ensures in
    let s =
    laid_fits _ _ q c.loop-v.v h c.loop-v.run c.loop-v.invariant.run_is c.if-size-eq1.same
    (elim c.if-size-eq1.branch [ then-size-eq1 w ↦ inl w.same-is | else-size-eq1 w ↦ inr w.same-is ])
    in
    (s.0, s.1, f.2, s.2, f.4, omega arith, omega arith)

pub overflow_mul-run : goal.overflow_mul-run
overflow_mul-run c =
    let p = c.requires in
    let q = c.requires.0 in
    let long = fast_length _ _ q in
    let h : c.loop-v.v < c.args.parts.fast = omega arith in
    let f = digit_fits _ _ q c.loop-v.v h c.loop-v.run c.loop-v.invariant.run_is in
    let m = mul-le-mul_right c.from-run.result f.1 in
    let e = c.from-run.ensures ∙ get_or-take c.args.parts.fast c.args.start.now.sizes c.loop-v.v 0 h in
    let s = c.args.start.now.turning.sizes_small c.loop-v.v in
    record { fits = omega arith }

pub loop-v-preserved : goal.loop-v-preserved
loop-v-preserved c =
    let p = c.requires in
    let q = c.requires.0 in
    let long = fast_length _ _ q in
    let h : c.loop-v.v < c.args.parts.fast = omega arith in
    record {
      laid =
          digit_more _ _ q c.loop-v.v h c.loop-v.run c.loop-v.invariant.run_is _ _ _ _ c.loop-v.invariant.laid _ c.least.ensures _
          (elim c.if-size-eq1.branch [ then-size-eq1 w ↦ inl w.if-size-eq1.true | else-size-eq1 w ↦ inr w.same-is ]) c.lay_digit.ensures;
      run_is = run_after _ _ q c.loop-v.v h c.loop-v.run c.loop-v.invariant.run_is _ c.from-run.ensures;
    }
