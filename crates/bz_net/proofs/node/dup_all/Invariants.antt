use Rattle.std.proofs.Common.{◌≡◌, take}
use Rattle.bz_net.proofs.node.dup_all.Given as goal

abbrev pub invariant-loop-place : goal.invariant-loop-place
invariant-loop-place l = l.same ≡ take l.place l.nodes
