use Rattle.std.proofs.Common.{◌≡◌, length, take}
use Rattle.bz_bench.specs.Tallies.{Tells}
use Rattle.bz_bench.proofs.tally.tallies_of.Given as goal

abbrev pub invariant-loop-entry : goal.invariant-loop-entry
invariant-loop-entry l = record {
  count : length l.tallies.items ≡ l.ports;
  told : Tells (take l.entry-index l.entries) l.tallies.items;
}
