use Rattle.std.proofs.Common.{◌≡◌, ◌≤◌}
use Rattle.bz_explore_net.specs.Counted.{leaf_of}
use Rattle.bz_explore_net.proofs.counted.tree_for.Given as goal

abbrev pub invariant-loop-levels : goal.invariant-loop-levels
invariant-loop-levels l = record {
  leaves : l.leaves ≡ leaf_of 1 l.levels;
  few : l.levels ≤ 30;
}
