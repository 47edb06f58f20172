-- The text is read up to a command, and each command begins further on. Assumes nothing.
use Rattle.std.proofs.Common.{◌-◌, length}
use Rattle.text.specs.Scripted.{Scripted}
use Rattle.text.proofs.whole.read_commands.Given as goal

abbrev pub invariant-loop-begun : goal.invariant-loop-begun
invariant-loop-begun l = Scripted l.fn.text l.shelf l.script

abbrev pub decreases-loop-begun : goal.decreases-loop-begun
decreases-loop-begun l = length l.fn.text - l.script.declared.command
