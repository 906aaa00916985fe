use Rattle.std.proofs.Common.{◌≡◌, None, length}
use Rattle.bz_elab.specs.Least.{IsLeastFault, Upto}
use Rattle.bz_elab.proofs.Items.{ReadUpto}
use Rattle.bz_elab.proofs.faults.read_parts.Given as goal

abbrev pub invariant-loop-number : goal.invariant-loop-number
invariant-loop-number l = record {
  least : IsLeastFault l.parts (Upto l.marks l.number 0) l.least;
  len : length l.readings.items ≡ l.number;
  read : l.least ≡ None → ReadUpto l.parts l.marks l.number l.readings.items;
}
