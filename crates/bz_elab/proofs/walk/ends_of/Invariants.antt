use Rattle.std.proofs.Common.{◌≡◌, ◌≤◌, take}
use Rattle.bz_elab.specs.Refusals.{most_ends}
use Rattle.bz_elab.specs.Readings.{ends_of}
use Rattle.bz_elab.proofs.walk.ends_of.Given as goal

abbrev pub invariant-loop-place : goal.invariant-loop-place
invariant-loop-place l = record { so_far : l.ends ≡ ends_of (take l.place l.comps); few : l.ends ≤ most_ends }
