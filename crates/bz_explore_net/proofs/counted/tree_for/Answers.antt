use Rattle.std.proofs.Common.{arith}
use Rattle.bz_explore_net.proofs.Counting.{few_leaves, leaf_next}
use Rattle.bz_explore_net.proofs.counted.tree_for.Goals as goal

pub returns-then-len-leaves-clause-few : goal.returns-then-len-leaves-clause-few
returns-then-len-leaves-clause-few c =
    let is = c.loop-levels.invariant.leaves in let few = few_leaves c.loop-levels.levels c.loop-levels.invariant.few in
    omega (arith, is, few)

pub loop-levels-preserved : goal.loop-levels-preserved
loop-levels-preserved c =
    let is = c.loop-levels.invariant.leaves in let lt = c.loop-levels-test.true in
    record {
      leaves = let more = leaf_next c.loop-levels.levels in omega (arith, is, more);
      few = omega (arith, lt);
    }
