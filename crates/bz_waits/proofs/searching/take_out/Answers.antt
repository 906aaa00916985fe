use Rattle.bz_waits.proofs.Freeing.{frees_more}
use Rattle.bz_waits.proofs.searching.take_out.Goals as goal

pub returns : goal.returns
returns c =
    let n = c.args.core.now in
    rw c.in_ok-push.ensures.items (frees_more n.wiring n.state c.args.members.now.items c.args.freed.now.items c.args.comp c.requires.frees c.requires.free)
