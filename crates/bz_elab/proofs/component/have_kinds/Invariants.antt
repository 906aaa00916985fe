use Rattle.std.proofs.Common.{◌≡◌, take}
use Rattle.bz_elab.specs.Refusals.{kinds_of}
use Rattle.bz_elab.proofs.component.have_kinds.Given as goal

abbrev pub invariant-loop-i : goal.invariant-loop-i
invariant-loop-i l = kinds_of (take l.i l.chans) ≡ kinds_of (take l.i l.asked)
