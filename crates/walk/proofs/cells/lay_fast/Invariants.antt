-- The first fast digits are laid, and a run is as long as they have assignments.
use Rattle.std.proofs.Common.{◌≡◌, ◌*◌, take}
use Rattle.definitions.specs.Lists.{product_of}
use Rattle.walk.specs.Laid.{FastLaid}
use Rattle.walk.proofs.cells.lay_fast.Given as goal

abbrev pub invariant-loop-v : goal.invariant-loop-v
invariant-loop-v l =
    record {
      laid : FastLaid (16 * l.parts.chunks) l.variables (take l.parts.fast l.start.sizes) l.v l.initial.cells l.cells;
      run_is : l.run ≡ product_of (take l.v (take l.parts.fast l.start.sizes));
    }
