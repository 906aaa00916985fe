use Rattle.std.proofs.Common.{arith, refl}
use Rattle.bz_waits.proofs.Around.{links_more}
use Rattle.bz_waits.proofs.cycles.is_cycle.Goals as goal

pub loop-place-preserved : goal.loop-place-preserved
loop-place-preserved c =
    links_more c.args.waits.now c.args.cycle.now c.loop-place.place (omega arith) c.loop-place.invariant (c.if-not-waits_for.ensures refl)
