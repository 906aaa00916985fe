use Rattle.std.proofs.Common.{◌≡◌, length}
use Rattle.std.specs.List.{All}
use Rattle.bz_bench.proofs.Telling.{IsEmpty}
use Rattle.bz_bench.proofs.tally.no_tallies.Given as goal

abbrev pub invariant-loop-place : goal.invariant-loop-place
invariant-loop-place l = record {
  count : length l.tallies.items ≡ l.place;
  empty : All IsEmpty l.tallies.items;
}
