use Rattle.bz_waits.specs.Cycles.{AreCycles}
use Rattle.bz_waits.proofs.cycles.find_cycles.Given as goal

abbrev pub invariant-loop-place : goal.invariant-loop-place
invariant-loop-place l = AreCycles l.waits l.found.items
