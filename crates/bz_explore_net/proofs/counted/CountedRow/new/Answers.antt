use Rattle.std.proofs.Common.{arith}
use Rattle.bz_explore_net.proofs.Counting.{none_counted}
use Rattle.bz_explore_net.proofs.counted.CountedRow.new.Goals as goal

pub invariant_of-result : goal.invariant_of-result
invariant_of-result c =
    let tree = c.tree_for-leaves.ensures in let levels = c.tree_for-leaves.result.1 in
    let room = tree.room in let few = tree.few in let leaves = tree.leaves in
    rw (c.in_ok-bits.ensures.items_if_clones_equal, c.in_ok-sums.ensures.items_if_clones_equal, leaves)
    (none_counted c.args.len levels (omega (arith, room, leaves)) (omega (arith, few, leaves)))
