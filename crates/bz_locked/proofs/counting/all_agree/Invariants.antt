use Rattle.std.proofs.Common.{take}
use Rattle.bz_locked.specs.Counting.{HaveMet, HaveFired}
use Rattle.bz_locked.proofs.counting.all_agree.Given as goal

abbrev pub invariant-loop-entry : goal.invariant-loop-entry
invariant-loop-entry g l = record { met : HaveMet l.sessions (take l.entry-index l.journal) l.met; fired : HaveFired (take l.entry-index l.journal) l.fired }
