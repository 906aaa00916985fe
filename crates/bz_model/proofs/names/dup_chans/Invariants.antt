use Rattle.std.proofs.Common.{◌≡◌, take}
use Rattle.bz_model.proofs.names.dup_chans.Given as goal

abbrev pub invariant-loop-place : goal.invariant-loop-place
invariant-loop-place l = l.same ≡ take l.place l.chans
