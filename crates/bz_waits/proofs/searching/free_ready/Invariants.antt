use Rattle.bz_waits.specs.Freeing.{Frees}
use Rattle.bz_waits.proofs.searching.free_ready.Given as goal

abbrev pub invariant-loop-place : goal.invariant-loop-place
invariant-loop-place l = Frees l.core.wiring l.core.state l.members.items l.freed.items
