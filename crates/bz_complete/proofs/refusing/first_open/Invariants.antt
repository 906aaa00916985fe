use Rattle.bz_complete.proofs.Refusals.{QuietTo}
use Rattle.bz_complete.proofs.refusing.first_open.Given as goal

abbrev pub invariant-loop-place : goal.invariant-loop-place
invariant-loop-place l = QuietTo l.net.wiring.sites l.net.state l.comp l.place
