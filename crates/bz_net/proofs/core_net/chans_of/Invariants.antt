use Rattle.std.proofs.Common.{◌≡◌, take}
use Rattle.bz_net.proofs.core_net.chans_of.Given as goal

-- the channels so far
abbrev pub invariant-loop-place : goal.invariant-loop-place
invariant-loop-place l = l.chans ≡ take l.place l.names.chans
