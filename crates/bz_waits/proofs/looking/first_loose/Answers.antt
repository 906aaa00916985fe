use Rattle.std.proofs.Common.{arith}
use Rattle.bz_waits.specs.Stuck.{is_member}
use Rattle.bz_waits.proofs.Holding.{comps_all, comps_more}
use Rattle.bz_waits.proofs.looking.first_loose.Goals as goal

pub loop-place-preserved : goal.loop-place-preserved
loop-place-preserved c =
    let n = c.args.core.now in
    comps_more n.wiring n.state (is_member c.args.members.now) c.loop-place.place c.loop-place.invariant c.if-is_loose.ensures

pub returns : goal.returns
returns c =
    let n = c.args.core.now in
    comps_all n.wiring n.state (is_member c.args.members.now) c.loop-place.place (omega arith) c.loop-place.invariant
