use Rattle.std.proofs.Common.{◌≡◌, suc, ◌-◌, subst, arith}
use Rattle.asked.proofs.Walking.{Walking, walk_begins, walk_marked, walk_passed, walk_ends}
use Rattle.asked.proofs.reach.reach.Goals as goal

pub loop-k-init : goal.loop-k-init
loop-k-init c = (omega arith, walk_begins c.requires.0 c.args.root c.requires.1 _ c.requires.2)

pub loop-k-preserved-then-marks-k-eq1 : goal.loop-k-preserved-then-marks-k-eq1
loop-k-preserved-then-marks-k-eq1 c =
    let l = c.loop-k in
    let up : l.k ≡ suc (l.k - 1) = omega arith in
    let v = subst (λ j. Walking c.args.problem.now c.args.root l.marks l.count j) up l.invariant.1 in (
      omega arith,
      walk_marked c.requires.0 c.args.root c.requires.1 _ _ _ (l.k - 1) v c.if-marks-k-eq1.true c.mark_operands.ensures c.mark_operands.array_long,
    )

pub loop-k-preserved : goal.loop-k-preserved
loop-k-preserved c =
    let l = c.loop-k in
    let up : l.k ≡ suc (l.k - 1) = omega arith in
    let v = subst (λ j. Walking c.args.problem.now c.args.root l.marks l.count j) up l.invariant.1 in
    (omega arith, walk_passed c.requires.0 c.args.root c.requires.1 _ _ (l.k - 1) v c.if-marks-k-eq1.false)

pub returns : goal.returns
returns c =
    let l = c.loop-k in
    let zero_left : l.k ≡ 0 = omega arith in
    walk_ends c.requires.0 c.args.root c.requires.1 _ _ (subst (λ j. Walking c.args.problem.now c.args.root l.marks l.count j) zero_left l.invariant.1)
