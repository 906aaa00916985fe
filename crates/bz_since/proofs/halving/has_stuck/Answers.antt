use Rattle.bz_since.proofs.Halves.{counted}
use Rattle.bz_since.proofs.halving.has_stuck.Goals as goal

pub returns : goal.returns
returns c =
    let set = c.in_ok-set in
    counted c.args.core.now.wiring c.args.core.now.state set.set c.len.result set.ensures.comps set.ensures.stuck set.ensures.greatest c.len.ensures
