use Rattle.bz_laws.proofs.Together as together
use Rattle.bz_laws.proofs.kinds.concur_waits_for_all.Goals as goal

pub returns : goal.returns
returns c = together.all_ended
