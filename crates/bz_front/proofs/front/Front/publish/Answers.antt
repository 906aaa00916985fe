use Rattle.std.proofs.Common.{rules}
use Rattle.bz_front.proofs.Steps.{raises}
use Rattle.bz_front.proofs.front.Front.publish.Goals as goal

pub fetch_max-requires : goal.fetch_max-requires
fetch_max-requires c = (search rules, search rules, raises _ _ _ _ _ c.seat.invariant.1)
