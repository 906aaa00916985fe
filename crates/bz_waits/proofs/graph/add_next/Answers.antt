use Rattle.std.proofs.Common.{◌+◌}
use Rattle.bz_waits.specs.Adding.{AddsComp, WaitsBefore}
use Rattle.bz_waits.proofs.Ends.{if_ok}
use Rattle.bz_waits.proofs.Gathered.{before_more}
use Rattle.bz_waits.proofs.graph.add_next.Goals as goal

pub returns : goal.returns
returns c =
    let n = c.args.core.now in let old = c.args.waits.now.items in let new = c.add_comp.new.waits.items in
    if_ok (AddsComp n.wiring.sites n.state c.args.comp old new) (WaitsBefore n.wiring.sites n.state (c.args.comp + 1) new) c.add_comp.result c.add_comp.ensures
    (before_more n.wiring.sites n.state c.args.comp old new c.requires.before)
