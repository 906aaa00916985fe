use Rattle.std.proofs.Common.{◌+◌}
use Rattle.bz_waits.specs.Adding.{WaitsBefore}
use Rattle.bz_waits.proofs.graph.waits_of.Given as goal

abbrev pub invariant-loop-place : goal.invariant-loop-place
invariant-loop-place l = WaitsBefore l.core.wiring.sites l.core.state (l.place + 1) l.waits.items
