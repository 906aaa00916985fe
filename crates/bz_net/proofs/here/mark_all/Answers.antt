use Rattle.bz_net.proofs.Opening.{marks_more}
use Rattle.bz_net.proofs.here.mark_all.Goals as goal

pub loop-place-preserved : goal.loop-place-preserved
loop-place-preserved c = marks_more _ _ _ _ c.loop-place.place c.loop-place.invariant c.mark.ensures
