use Rattle.std.proofs.Common.{◌≤◌, map, sym, subst}
use Rattle.std.proofs.lemmas.List.{length-map}
use Rattle.bz_flat.specs.Flats.{site_of}
use Rattle.bz_net.specs.Nodes.{comps_of, heres_of}
use Rattle.bz_net.proofs.Nodes.{comp_read, bits_read}
use Rattle.bz_net.proofs.Telling.{lowest_read, room_read, few_read}
use Rattle.bz_net.proofs.here.lowest_port.Goals as goal

pub returns-in-Some : goal.returns-in-Some
returns-in-Some c =
    let nodes = c.args.nodes.now in let x = c.get-node.result.now in let comp = c.args.comp in
    let at = c.node_id.ensures in let is = c.get-node.ensures in
    let found = lowest_read (map site_of c.args.sites.now) c.args.phases.now (comps_of nodes) (heres_of nodes) c.requires.sighted comp c.requires.from
    (subst (λ n. comp ≤ n) (sym (length-map c.args.sites.now site_of)) c.requires.to) x.comp x.here (comp_read nodes comp c.node_id.result x at is) (bits_read nodes comp c.node_id.result x at is)
    c.lowest_of.result c.lowest_of.ensures.lowest c.lowest_of.ensures.turning in
    rw c.in-Some.is at found

pub returns-in-None : goal.returns-in-None
returns-in-None c =
    let nodes = c.args.nodes.now in let x = c.get-node.result.now in let comp = c.args.comp in
    let at = c.node_id.ensures in let is = c.get-node.ensures in
    let found = lowest_read (map site_of c.args.sites.now) c.args.phases.now (comps_of nodes) (heres_of nodes) c.requires.sighted comp c.requires.from
    (subst (λ n. comp ≤ n) (sym (length-map c.args.sites.now site_of)) c.requires.to) x.comp x.here (comp_read nodes comp c.node_id.result x at is) (bits_read nodes comp c.node_id.result x at is)
    c.lowest_of.result c.lowest_of.ensures.lowest c.lowest_of.ensures.turning in
    rw c.in-None.is at found

pub lowest_of-requires-clause-room : goal.lowest_of-requires-clause-room
lowest_of-requires-clause-room c =
    let nodes = c.args.nodes.now in let x = c.get-node.result.now in let comp = c.args.comp in
    let at = c.node_id.ensures in let is = c.get-node.ensures in
    room_read (map site_of c.args.sites.now) c.args.phases.now (comps_of nodes) (heres_of nodes) c.requires.sighted comp c.requires.from
    (subst (λ n. comp ≤ n) (sym (length-map c.args.sites.now site_of)) c.requires.to) x.comp x.here (comp_read nodes comp c.node_id.result x at is) (bits_read nodes comp c.node_id.result x at is)

pub lowest_of-requires-clause-few : goal.lowest_of-requires-clause-few
lowest_of-requires-clause-few c =
    let nodes = c.args.nodes.now in let x = c.get-node.result.now in let comp = c.args.comp in
    let at = c.node_id.ensures in let is = c.get-node.ensures in
    few_read (map site_of c.args.sites.now) c.args.phases.now (comps_of nodes) (heres_of nodes) c.requires.sighted comp c.requires.from
    (subst (λ n. comp ≤ n) (sym (length-map c.args.sites.now site_of)) c.requires.to) x.comp x.here (comp_read nodes comp c.node_id.result x at is) (bits_read nodes comp c.node_id.result x at is)
