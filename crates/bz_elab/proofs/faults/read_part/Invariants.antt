use Rattle.std.proofs.Common.{◌≡◌, List, Bool, true, None, take}
use Rattle.bz_elab.specs.Numbers.{is_marked}
use Rattle.bz_elab.specs.Least.{IsLeastFault, Upto}
use Rattle.bz_elab.specs.Readings.{AreRead, told}
use Rattle.bz_elab.proofs.faults.read_part.Given as goal

abbrev pub invariant-loop-place : goal.invariant-loop-place
invariant-loop-place l = record {
  least : (marks : List Bool) → is_marked marks l.number ≡ true → IsLeastFault l.parts (Upto marks l.number 0) l.fn.before → IsLeastFault l.parts (Upto marks l.number l.place) l.least;
  kept : l.least ≡ None → l.fn.before ≡ None;
  read : l.least ≡ None → AreRead l.parts l.part.channels.items (take l.place l.component-items) (told l.reading);
}
