use Rattle.bz_waits.specs.Freeing.{Frees}
use Rattle.bz_waits.proofs.searching.free.Given as goal

abbrev pub invariant-loop-turn : goal.invariant-loop-turn
invariant-loop-turn l = Frees l.core.wiring l.core.state l.members.items l.freed.items
