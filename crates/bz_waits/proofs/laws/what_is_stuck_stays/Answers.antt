use Rattle.bz_waits.proofs.Staying.{stuck_stays}
use Rattle.bz_waits.proofs.laws.what_is_stuck_stays.Goals as goal

pub returns : goal.returns
returns c = stuck_stays
