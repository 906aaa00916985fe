use Rattle.std.proofs.Common.{map}
use Rattle.bz_flat.specs.Flats.{site_of}
use Rattle.bz_net.specs.Nodes.{comps_of}
use Rattle.bz_net.proofs.Nodes.{comp_read}
use Rattle.bz_net.proofs.Foreseeing.{sole_due, tells_due}
use Rattle.bz_net.proofs.moves.due_at.Goals as goal

pub returns-in-Some-clause-due : goal.returns-in-Some-clause-due
returns-in-Some-clause-due c =
    let nodes = c.args.nodes.now in let x = c.get.result.now in let comp = c.args.comp in
    let (port, on) = c.in-Some.ensures in
    tells_due (map site_of c.args.sites.now) c.args.phases.now (comps_of nodes) comp c.args.port x.comp c.requires.comps_len port
    (comp_read nodes comp c.node_id.result x c.node_id.ensures c.get.ensures) c.next.result c.next.ensures.some c.next.ensures.only

pub returns-in-Some-clause-sole : goal.returns-in-Some-clause-sole
returns-in-Some-clause-sole c =
    let nodes = c.args.nodes.now in let x = c.get.result.now in let comp = c.args.comp in
    let (port, on) = c.in-Some.ensures in
    sole_due (map site_of c.args.sites.now) c.args.phases.now (comps_of nodes) comp c.args.port x.comp c.requires.comps_len port
    (comp_read nodes comp c.node_id.result x c.node_id.ensures c.get.ensures) c.next.result c.next.ensures.only
