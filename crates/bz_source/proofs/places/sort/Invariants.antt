use Rattle.std.proofs.Common.{◌≡◌, map}
use Rattle.bz_source.specs.Found.{located}
use Rattle.bz_source.specs.Views.{find_of}
use Rattle.bz_source.proofs.places.sort.Given as goal

abbrev pub invariant-loop-find : goal.invariant-loop-find
invariant-loop-find l = l.places ≡ located (map find_of l.yielded)
