use Rattle.std.proofs.Common.{◌-◌}
use Rattle.bz_explore_net.proofs.Counting.{Searches}
use Rattle.bz_explore_net.proofs.counted.CountedRow.nth.Given as goal

abbrev pub invariant-loop : goal.invariant-loop
invariant-loop l = Searches l.self-inside.bits.items l.self-inside.sums.items l.self-inside.levels l.before (l.self-inside.levels - l.counter) l.node l.left
