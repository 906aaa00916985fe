use Rattle.bz_past.specs.Moments.{moment}
use Rattle.bz_past.proofs.past.Past.halt.Given as goal

abbrev pub ghosts-halt_to : goal.ghosts-halt_to
ghosts-halt_to a = record { moment = moment a.net.now a.stopped a.keeper.now.now.turns }
