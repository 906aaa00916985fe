use Rattle.bz_waits.proofs.Passed.{NonePast, OwesAt}
use Rattle.bz_waits.proofs.due.owed_chan.Given as goal

abbrev pub invariant-loop-place : goal.invariant-loop-place
invariant-loop-place l = NonePast (OwesAt l.core.wiring.sites l.core.state l.comp) 0 l.place
