use Rattle.std.proofs.Common.{◌≡◌, map, take}
use Rattle.bz_flat.specs.Flats.{site_of}
use Rattle.bz_flat.proofs.flat.dup_comps.Given as goal

abbrev pub invariant-loop-place : goal.invariant-loop-place
invariant-loop-place l = map site_of l.same ≡ map site_of (take l.place l.comps)
