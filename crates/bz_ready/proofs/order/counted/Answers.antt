use Rattle.bz_ready.proofs.Orders.{counted_more}
use Rattle.bz_ready.proofs.order.counted.Goals as goal

pub loop-number-preserved : goal.loop-number-preserved
loop-number-preserved g c = counted_more c.loop-number.number _ _ c.in_ok-push.ensures.items c.loop-number.invariant
