use Rattle.std.proofs.Common.{◌≡◌, ◌≤◌, ◌-◌, ◌^◌, length}
use Rattle.std.specs.Prelude.{slice_set}
use Rattle.bz_explore_net.specs.Counted.{leaf_of}
use Rattle.bz_explore_net.proofs.Counting.{Mends}
use Rattle.bz_explore_net.proofs.counted.CountedRow.set.Given as goal

abbrev pub invariant-loop : goal.invariant-loop
invariant-loop l = record {
  mends : Mends l.self-inside.bits.items l.self-inside.sums.items l.self-inside.levels l.counter (l.self-inside.levels - l.counter) l.node;
  bits : l.self-inside.bits.items ≡ slice_set l.fn.self l.place l.bit;
  few : leaf_of 1 l.self-inside.levels ≤ 2 ^ 30;
  room : length l.self-inside.bits.items ≤ leaf_of 1 l.self-inside.levels;
  all : l.end ≡ l.self-inside.levels;
  within : l.counter ≤ l.self-inside.levels;
}
