use Rattle.bz_waits.proofs.Ends.{if_ok}
use Rattle.bz_waits.proofs.Gathered.{listed_more}
use Rattle.bz_waits.proofs.graph.add_listed.Goals as goal

pub returns : goal.returns
returns c =
    let n = c.args.core.now in
    if_ok _ _ c.add_if_there.result c.add_if_there.ensures
    (listed_more n.wiring.sites n.state c.args.comps.now c.args.place _ c.args.waits.now.items c.add_if_there.new.waits.items c.requires.within c.requires.so)
