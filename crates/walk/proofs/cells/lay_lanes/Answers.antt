-- As many digits are laid as are fast.
use Rattle.walk.proofs.Fast.{lanes_ready, fast_many}
use Rattle.walk.proofs.cells.lay_lanes.Goals as goal

pub returns : goal.returns
returns c =
    lanes_ready _ _ _ _ (fast_many _ _ c.requires.0) _ _ _ _ c.fill.ensures c.fill-2.ensures c.lay_fast.ensures
