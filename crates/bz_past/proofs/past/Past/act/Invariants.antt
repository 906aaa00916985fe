use Rattle.std.proofs.Common.{length}
use Rattle.bz_past.specs.Moments.{moment}
use Rattle.bz_past.specs.Standings.{turned}
use Rattle.bz_past.proofs.past.Past.act.Given as goal

abbrev pub ghosts-act_to : goal.ghosts-act_to
ghosts-act_to a = record { moment = moment a.net.now a.stopped (turned a.keeper.now.now.turns a.owner.now.who (length a.net.now.journal) a.turn) }
