-- The words that begin the last line. Assumes nothing.
use Rattle.std.specs.Prelude.{ℕ, List}
use Rattle.definitions.specs.Night.{END, CUT}
use Rattle.lines.specs.declared.Ending.{Ending}
use Rattle.lines.specs.declared.Ending.TheVariants.{Whole, Cut}

abbrev pub ending_word : Ending → List ℕ
ending_word Whole = END
ending_word Cut = CUT
