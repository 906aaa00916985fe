use Rattle.std.proofs.Common.{◌≡◌, ◌+◌, length}
use Rattle.bz_flat.specs.Flats.{sites_of}
use Rattle.bz_elab.specs.Seats.{Passed}
use Rattle.bz_elab.specs.EndFaults.{AreDoubled, AreMarked}
use Rattle.bz_elab.proofs.ends.doubled.Given as goal

abbrev pub invariant-loop-i : goal.invariant-loop-i
invariant-loop-i l = record {
  len : length l.marks.items ≡ length l.ends;
  doubled : AreDoubled (sites_of l.comps) l.marks.items;
  all : AreMarked (sites_of l.comps) (Passed (l.i + 1) 0) l.ends l.marks.items;
}
