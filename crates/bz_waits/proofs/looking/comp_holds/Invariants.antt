use Rattle.bz_waits.specs.Holding.{PortsHold}
use Rattle.bz_waits.specs.Stuck.{is_member}
use Rattle.bz_waits.proofs.looking.comp_holds.Given as goal

abbrev pub invariant-loop-place : goal.invariant-loop-place
invariant-loop-place l = PortsHold l.core.wiring l.core.state (is_member l.members) l.comp l.place
