use Rattle.std.proofs.Common.{◌≡◌, take}
use Rattle.bz_net.proofs.same.is_same_phases.Given as goal

abbrev pub invariant-loop-place : goal.invariant-loop-place
invariant-loop-place l = take l.place l.phases ≡ take l.place l.others
