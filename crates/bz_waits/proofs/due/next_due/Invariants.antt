use Rattle.bz_waits.specs.Waiting.{IsDue}
use Rattle.bz_waits.proofs.Passed.{NonePast}
use Rattle.bz_waits.proofs.due.next_due.Given as goal

abbrev pub invariant-loop-place : goal.invariant-loop-place
invariant-loop-place l = NonePast (IsDue l.core.wiring.sites l.core.state l.comp l.mv) l.fn.past l.place
