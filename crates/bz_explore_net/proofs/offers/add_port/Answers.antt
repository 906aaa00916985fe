use Rattle.std.proofs.Common.{refl}
use Rattle.bz_explore_net.proofs.Offering.{offers_none, offers_one}
use Rattle.bz_explore_net.proofs.offers.add_port.Goals as goal

pub returns-in-None : goal.returns-in-None
returns-in-None c =
    let n = c.args.net.now in
    let none = c.in-None.ensures in
    offers_none n.wiring.sites n.state c.args.comp c.args.port c.args.offers.now.items c.requires none

pub returns-in_ok-push-in-Some : goal.returns-in_ok-push-in-Some
returns-in_ok-push-in-Some c =
    let n = c.args.net.now in
    let some = c.in-Some.ensures in
    rw c.in_ok-push-in-Some.ensures.items
    (offers_one n.wiring.sites n.state c.args.comp c.args.port c.args.offers.now.items c.requires _ refl refl some)
