use Rattle.std.proofs.Common.{◌≡◌, length, arith}
use Rattle.bz_waits.proofs.Gathered.{before_all}
use Rattle.bz_waits.proofs.graph.waits_of.Goals as goal

pub returns : goal.returns
returns c =
    let n = c.args.core.now in
    let all : c.loop-place.place ≡ length n.wiring.sites = omega arith in
    before_all n.wiring.sites n.state c.loop-place.place c.loop-place.waits.items all c.loop-place.invariant
