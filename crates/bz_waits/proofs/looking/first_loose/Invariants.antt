use Rattle.bz_waits.specs.Holding.{CompsHold}
use Rattle.bz_waits.specs.Stuck.{is_member}
use Rattle.bz_waits.proofs.looking.first_loose.Given as goal

abbrev pub invariant-loop-place : goal.invariant-loop-place
invariant-loop-place l = CompsHold l.core.wiring l.core.state (is_member l.members) l.place
