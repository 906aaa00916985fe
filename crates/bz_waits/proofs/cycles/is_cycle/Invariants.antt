use Rattle.bz_waits.proofs.Around.{LinksUpTo}
use Rattle.bz_waits.proofs.cycles.is_cycle.Given as goal

abbrev pub invariant-loop-place : goal.invariant-loop-place
invariant-loop-place l = LinksUpTo l.waits l.cycle l.place
