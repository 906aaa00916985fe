use Rattle.bz_explore_net.proofs.Offering.{offers_skip}
use Rattle.bz_explore_net.proofs.offers.add_comp.Goals as goal

pub returns-then-not-is_ready : goal.returns-then-not-is_ready
returns-then-not-is_ready c = offers_skip c.args.net.now.wiring.sites c.args.net.now.state c.args.comp c.args.offers.now.items c.requires.before c.if-not-is_ready.ensures
