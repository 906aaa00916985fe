use Rattle.bz_complete.proofs.Gaining.{made_still}
use Rattle.bz_complete.proofs.command.rested.Goals as goal

pub returns-in-Ok-None : goal.returns-in-Ok-None
returns-in-Ok-None c = λ w moves made. made_still w _ _ moves made c.in-Ok-None.ensures.gains
