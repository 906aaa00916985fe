use Rattle.bz_waits.proofs.Freeing.{covers_less, fewer, free_loose}
use Rattle.bz_waits.proofs.searching.settle.Goals as goal

pub settling-preserved : goal.settling-preserved
settling-preserved c =
    let n = c.args.core.now in
    let row = c.settling.members.items in
    let loose = rw c.as_slice.ensures.value at c.in-Some.ensures in
    covers_less n.wiring n.state row c.settling.invariant c.in-Some.comp (free_loose n.wiring n.state row c.settling.invariant c.in-Some.comp loose)

pub settling-smaller : goal.settling-smaller
settling-smaller c =
    let loose = rw c.as_slice.ensures.value at c.in-Some.ensures in
    fewer c.settling.members.items c.in-Some.comp loose.2
