use Rattle.std.proofs.Common.{take}
use Rattle.bz_waits.specs.Waiting.{AreWaitsOf}
use Rattle.bz_waits.proofs.graph.waits_among.Given as goal

abbrev pub invariant-loop-place : goal.invariant-loop-place
invariant-loop-place l = AreWaitsOf l.core.wiring.sites l.core.state (take l.place l.comps) l.waits.items
