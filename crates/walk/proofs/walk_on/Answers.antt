-- From block to block: what each call asks is there, and what it gives is the walk's next step.
use Rattle.std.proofs.Common.{ℕ, ◌*◌, ◌+◌, ◌∙◌, length, refl, sym, subst, arith, length-take}
use Rattle.walk.specs.Cells.{LaneCopied}
use Rattle.walk.specs.Reading.{positions_in}
use Rattle.walk.proofs.Arranging.{in_order}
use Rattle.walk.proofs.Slow.{slow_part, small_part}
use Rattle.walk.proofs.Calling.{ready_all, digits_small, digits_fit, root_fits, root_small}
use Rattle.walk.proofs.Found.{FirstLane, found_some, found_none}
use Rattle.walk.proofs.Going.{all_fresh, turned_next, turned_few, goes_on, ends_there, ends_spent}
use Rattle.walk.proofs.Walking.{lanes_few, falsifies}
use Rattle.walk.proofs.walk_on.Goals as goal

pub loop-tried-init : goal.loop-tried-init
loop-tried-init c = record { block = 0; walking = c.requires.0.walking c.args.budget; room = refl }

pub evaluate-requires : goal.evaluate-requires
evaluate-requires c =
    let b = c.requires.0 in
    let v = c.loop-tried.invariant in
    let few = v.walking.from_few in
    let room = v.room in
    let p = c.args.plan.now.planned in
    let n = c.args.plan.now.table.well_formed.few_nodes in
    let long = b.setting.branches_long in
    (omega arith, omega arith, p.parts_are.parted.chunks_few, rw long (omega arith), ready_all _ _ _ _ b.setting)

pub overflow_add-begun : goal.overflow_add-begun
overflow_add-begun c =
    let few = root_small c.requires.0 in
    let many = (lanes_few _ _ _ c.lanes_in-many.ensures).0 in
    let p = c.args.plan.now.planned.parts_are.parted in
    let a = p.lanes_fit in
    let b = p.chunks_few in
    record { fits = omega arith }

pub slice_bounds-first_false-end : goal.slice_bounds-first_false-end
slice_bounds-first_false-end c =
    root_fits c.requires.0 _ _ c.evaluate.new.cells c.lanes_in-many.ensures (let d = c.evaluate.auto.cells in let r = c.loop-tried.invariant.room in omega arith)

pub values_of-requires : goal.values_of-requires
values_of-requires c =
    let b = c.requires.0 in
    let e = b.setting in
    let p = c.args.plan.now.planned in
    let room = c.loop-tried.invariant.room in
    let d = c.evaluate.auto.cells in
    let long = e.positions_long in
    let many = (lanes_few _ _ _ c.lanes_in-many.ensures).0 in
    let fit = p.parts_are.parted.lanes_fit in
    let f =
    (found_some c.evaluate.new.cells c.args.begun.now.root c.lanes_in-many.result (root_fits b _ _ _ c.lanes_in-many.ensures (omega arith)) _
    (sym c.first_false.ensures ∙ c.in-Some.is)).1
    in
    (in_order _ _ c.args.plan.now.table.well_formed _ _ _ _ e.arranged long, omega arith, p.parts_are.parted.chunks_few, rw long (omega arith), omega arith, omega arith)

pub shape_of-cells-in-Some : goal.shape_of-cells-in-Some
shape_of-cells-in-Some c = c.evaluate.auto.cells ∙ c.loop-tried.invariant.room

pub returns-in-Some : goal.returns-in-Some
returns-in-Some c =
    let b = c.requires.0 in
    let e = b.setting in
    let v = c.loop-tried.invariant in
    let room = v.room in
    let d = c.evaluate.auto.cells in
    let long = e.positions_long in
    let vl = c.values_of.auto.values in
    let many = lanes_few _ _ _ c.lanes_in-many.ensures in
    let f =
    found_some c.evaluate.new.cells c.args.begun.now.root c.lanes_in-many.result (root_fits b _ _ _ c.lanes_in-many.ensures (omega arith)) c.in-Some.lane
    (sym c.first_false.ensures ∙ c.in-Some.is)
    in
    falsifies _ _ _ _ e v.block _ (all_fresh _ _ _ _ e _ _ _ _ _ v.block v.walking _ c.evaluate.ensures) c.lanes_in-many.result c.in-Some.lane many.0
    (subst (λ (a : ℕ). FirstLane c.evaluate.new.cells a c.lanes_in-many.result c.in-Some.lane) b.root_is f.0) c.loop-tried.tried
    (v.walking.going c.loop-tried-test.true) v.walking.held c.args.budget v.walking.block_inside many.1 f.1 _ (omega arith)
    (subst (λ (n : ℕ). LaneCopied (16 * c.args.plan.now.parts.chunks) (positions_in c.args.positions.now) c.evaluate.new.cells c.in-Some.lane n c.values_of.new.values) long
    c.values_of.ensures)

pub returns-in_default-turned : goal.returns-in_default-turned
returns-in_default-turned c =
    let b = c.requires.0 in
    let v = c.loop-tried.invariant in
    let room = v.room in
    let d = c.evaluate.auto.cells in
    let many = lanes_few _ _ _ c.lanes_in-many.ensures in
    let f =
    found_none c.evaluate.new.cells c.args.begun.now.root c.lanes_in-many.result (root_fits b _ _ _ c.lanes_in-many.ensures (omega arith))
    (sym c.first_false.ensures ∙ c.in_default.is)
    in
    ends_there _ _ _ _ b.setting _ _ _ _ _ v.block v.walking _ c.evaluate.ensures c.loop-tried-test.true _ many.0 many.1 many.2
    (subst (λ (a : ℕ). FirstLane c.evaluate.new.cells a c.lanes_in-many.result c.lanes_in-many.result) b.root_is f) _
    (turned_next c.in_default-turned.is c.next-step.ensures) _

pub lay_slow-requires : goal.lay_slow-requires
lay_slow-requires c =
    let b = c.requires.0 in
    let v = c.loop-tried.invariant in
    let room = v.room in
    let d = c.evaluate.auto.cells in
    let n = turned_next c.in-Some-turned.is c.next-step.ensures in
    let m = length-take (c.in-Some-turned.turned + 1) c.next-step.result.odometer.digits in
    let few = turned_few _ _ _ _ b.setting _ _ _ _ _ v.block v.walking _ _ n in
    let u = digits_fit (16 * c.args.plan.now.parts.chunks) c.args.plan.now.table.shape.nodes (length c.args.cells.now) c.requires.3 in
    (omega arith, c.args.plan.now.planned.parts_are.parted.chunks_few, omega arith, small_part _ _ (digits_small c.next-step.result.odometer))

pub bounds-begun-parts : goal.bounds-begun-parts
bounds-begun-parts c =
    let v = c.loop-tried.invariant in
    let few = turned_few _ _ _ _ c.requires.0.setting _ _ _ _ _ v.block v.walking _ _ (turned_next c.in-Some-turned.is c.next-step.ensures) in
    omega arith

pub loop-tried-preserved : goal.loop-tried-preserved
loop-tried-preserved c =
    let b = c.requires.0 in
    let v = c.loop-tried.invariant in
    let room = v.room in
    let d = c.evaluate.auto.cells in
    let n = turned_next c.in-Some-turned.is c.next-step.ensures in
    let long = c.next-step.result.odometer.turning.digits_long in
    let many = lanes_few _ _ _ c.lanes_in-many.ensures in
    let few = turned_few _ _ _ _ b.setting _ _ _ _ _ v.block v.walking _ _ n in
    let f =
    found_none c.evaluate.new.cells c.args.begun.now.root c.lanes_in-many.result (root_fits b _ _ _ c.lanes_in-many.ensures (omega arith))
    (sym c.first_false.ensures ∙ c.in_default.is)
    in
    record {
      block = v.block + 1;
      walking =
          goes_on _ _ _ _ b.setting _ _ _ _ _ v.block v.walking _ c.evaluate.ensures c.loop-tried-test.true _ many.0 many.1 many.2
          (subst (λ (a : ℕ). FirstLane c.evaluate.new.cells a c.lanes_in-many.result c.lanes_in-many.result) b.root_is f) _ _ n _
          (slow_part _ _ _ _ _ _ _ (omega arith) c.lay_slow.ensures) _ c.from-from.ensures;
      room = c.lay_slow.auto.cells ∙ d ∙ room;
    }

pub shape_of-cells : goal.shape_of-cells
shape_of-cells c = c.loop-tried.invariant.room

pub returns : goal.returns
returns c =
    let v = c.loop-tried.invariant in
    ends_spent _ _ _ _ c.requires.0.setting _ _ _ _ _ v.block v.walking c.loop-tried-test.false _
