use Rattle.std.proofs.Common.{◌≡◌, take}
use Rattle.bz_net.specs.Nodes.{procs_of}
use Rattle.bz_net.proofs.same.first_other.Given as goal

abbrev pub invariant-loop-place : goal.invariant-loop-place
invariant-loop-place l = take l.place (procs_of l.nodes) ≡ take l.place (procs_of l.others)
