use Rattle.std.proofs.Common.{◌≡◌, take}
use Rattle.bz_elab.specs.Refusals.{widths_of}
use Rattle.bz_elab.proofs.component.have_widths.Given as goal

abbrev pub invariant-loop-i : goal.invariant-loop-i
invariant-loop-i l = widths_of (take l.i l.chans) ≡ widths_of (take l.i l.asked)
