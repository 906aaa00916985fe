use Rattle.std.proofs.Common.{take}
use Rattle.bz_complete.specs.Completing.{Gains}
use Rattle.bz_complete.proofs.completing.play.Given as goal

abbrev pub invariant-loop-place : goal.invariant-loop-place
invariant-loop-place l = Gains l.fn.net l.net (take l.place l.moves)
