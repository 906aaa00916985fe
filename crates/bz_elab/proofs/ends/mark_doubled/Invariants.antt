use Rattle.std.proofs.Common.{◌≡◌, List, length}
use Rattle.bz_model.specs.Nets.{Site}
use Rattle.bz_flat.specs.Flats.{site_of}
use Rattle.bz_elab.specs.Seats.{IsHere, Passed}
use Rattle.bz_elab.specs.EndFaults.{AreDoubled, AreEnds, AreMarked}
use Rattle.bz_elab.proofs.ends.mark_doubled.Given as goal

abbrev pub invariant-loop-i : goal.invariant-loop-i
invariant-loop-i l = record {
  same : length l.marks ≡ length l.fn.marks;
  doubled : (sites : List Site) → IsHere sites l.number (site_of l.comp) → AreEnds sites l.ends → AreDoubled sites l.fn.marks → AreDoubled sites l.marks;
  all : (sites : List Site) → IsHere sites l.number (site_of l.comp) → AreMarked sites (Passed l.number 0) l.ends l.fn.marks → AreMarked sites (Passed l.number l.i) l.ends l.marks;
}
