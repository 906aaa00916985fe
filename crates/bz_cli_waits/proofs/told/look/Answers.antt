use Rattle.bz_since.proofs.Halves.{counted}
use Rattle.bz_cli_waits.proofs.told.look.Goals as goal

pub returns : goal.returns
returns c =
    let set = c.in_ok-stuck in
    counted c.args.net.now.wiring c.args.net.now.state set.stuck c.len.result set.ensures.comps set.ensures.stuck set.ensures.greatest c.len.ensures
