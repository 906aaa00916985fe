use Rattle.std.proofs.Common.{◌≡◌, ◌+◌, length}
use Rattle.bz_flat.specs.Flats.{sites_of}
use Rattle.bz_elab.specs.Seats.{Seated, Passed}
use Rattle.bz_elab.proofs.ends.table.Given as goal

abbrev pub invariant-loop-i : goal.invariant-loop-i
invariant-loop-i l = record { len : length l.ends.items ≡ l.chans; seated : Seated (sites_of l.comps) (Passed (l.i + 1) 0) l.ends.items l.least }
