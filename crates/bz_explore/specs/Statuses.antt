-- The exit status of a session's end.
use Rattle.std.specs.Prelude.{ℕ}
use Rattle.bz_explore.specs.declared.explored.Ending.{Ending}
use Rattle.bz_explore.specs.declared.explored.Ending.TheVariants.{Well, Differed, Bad}

abbrev pub status_of : Ending → ℕ
status_of Well = 0
status_of Differed = 1
status_of Bad = 2
