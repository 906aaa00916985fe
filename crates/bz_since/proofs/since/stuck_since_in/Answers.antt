use Rattle.bz_since.proofs.OfRuns.{since_of_text}
use Rattle.bz_since.proofs.since.stuck_since_in.Goals as goal

pub returns-in-Ok : goal.returns-in-Ok
returns-in-Ok c =
    let says = rw c.deref.ensures.value at c.in-Ok.ensures in
    since_of_text c.args.flat.wiring c.in_ok-net.net c.names.result.now c.args.text.now c.in_ok-entries.entries.items c.in-Ok.found c.in_ok-net.ensures.ok.wiring c.names.ensures.value c.names.ensures.wired c.in_ok-entries.ensures.right says
