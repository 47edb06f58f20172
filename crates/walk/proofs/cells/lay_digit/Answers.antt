-- One run more is laid: it has room, with what is too much.
use Rattle.std.proofs.Common.{arith}
use Rattle.std.proofs.lemmas.Grind.{div_ceil_times}
use Rattle.walk.proofs.Runs.{run_fits, run_more}
use Rattle.walk.proofs.cells.lay_digit.Goals as goal

pub fill-requires : goal.fill-requires
fill-requires c =
    let i = c.loop-lane.invariant in
    let r = run_fits c.args.lanes c.args.run i.runs c.loop-lane.lane c.requires.3 i.runs_are c.loop-lane-test.true in
    let d = div_ceil_times c.args.run 16 (omega arith) in
    let e = c.div_ceil-chunks.ensures in
    let p = c.requires in
    (omega arith, omega arith, omega arith)

pub loop-lane-preserved : goal.loop-lane-preserved
loop-lane-preserved c =
    let d = div_ceil_times c.args.run 16 (omega arith) in
    let e = c.div_ceil-chunks.ensures in
    run_more _ _ _ _ _ _ _ _ _ _ _ c.loop-lane.invariant c.requires.4 c.requires.3 c.loop-lane-test.true (omega arith) c.fill.ensures _ c.following-digit.ensures
