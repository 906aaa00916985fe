use Rattle.std.proofs.Common.{◌≡◌, length, arith}
use Rattle.bz_waits.proofs.Linking.{link_found, links_all, links_more}
use Rattle.bz_waits.proofs.rings.close.Goals as goal

pub loop-place-preserved : goal.loop-place-preserved
loop-place-preserved c =
    let n = c.args.core.now in
    let row = c.args.members.now in
    let comps = c.args.comps.now in
    let place = c.loop-place.place in
    let found = c.in-Some.ensures in
    rw c.in_ok-push-in-Some.ensures.items
    (links_more n.wiring n.state row comps place c.loop-place.links.items c.loop-place.invariant c.in-Some.link
    (link_found n.wiring n.state row comps place c.next_of.result c.in-Some.link found.0 found.1 found.2 found.3 c.next_of.ensures.next c.next_of.ensures.back))

pub returns : goal.returns
returns c =
    let n = c.args.core.now in
    let all : c.loop-place.place ≡ length c.args.comps.now = omega arith in
    links_all n.wiring n.state c.args.members.now c.args.comps.now c.loop-place.place c.loop-place.links.items c.loop-place.invariant all
