use Rattle.std.proofs.Common.{List}
use Rattle.bz_model.specs.Nets.{Site}
use Rattle.bz_flat.specs.Flats.{site_of}
use Rattle.bz_elab.specs.Seats.{Seated, IsHere, Passed}
use Rattle.bz_elab.proofs.ends.seat_comp.Given as goal

abbrev pub invariant-loop-i : goal.invariant-loop-i
invariant-loop-i l = (sites : List Site) → IsHere sites l.number (site_of l.comp) → Seated sites (Passed l.number 0) l.initial.ends l.fn.clash → Seated sites (Passed l.number l.i) l.ends l.least
