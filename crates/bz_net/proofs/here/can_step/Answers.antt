use Rattle.std.proofs.Common.{◌≤◌, map, sym, subst}
use Rattle.std.proofs.lemmas.List.{length-map}
use Rattle.bz_flat.specs.Flats.{site_of}
use Rattle.bz_net.specs.Nodes.{comps_of, heres_of}
use Rattle.bz_net.proofs.Nodes.{comp_read, bits_read}
use Rattle.bz_net.proofs.Telling.{moves_read, room_read, few_read}
use Rattle.bz_net.proofs.here.can_step.Goals as goal

pub returns : goal.returns
returns c =
    let nodes = c.args.nodes.now in let x = c.get-node.result.now in let comp = c.args.comp in
    let at = c.node_id.ensures in let is = c.get-node.ensures in
    moves_read (map site_of c.args.sites.now) c.args.phases.now (comps_of nodes) (heres_of nodes) c.requires.sighted comp c.requires.from
    (subst (λ n. comp ≤ n) (sym (length-map c.args.sites.now site_of)) c.requires.to) x.comp x.here (comp_read nodes comp c.node_id.result x at is) (bits_read nodes comp c.node_id.result x at is)
    c.can_go.result c.can_go.ensures.goes c.can_go.ensures.turning

pub can_go-requires-clause-room : goal.can_go-requires-clause-room
can_go-requires-clause-room c =
    let nodes = c.args.nodes.now in let x = c.get-node.result.now in let comp = c.args.comp in
    let at = c.node_id.ensures in let is = c.get-node.ensures in
    room_read (map site_of c.args.sites.now) c.args.phases.now (comps_of nodes) (heres_of nodes) c.requires.sighted comp c.requires.from
    (subst (λ n. comp ≤ n) (sym (length-map c.args.sites.now site_of)) c.requires.to) x.comp x.here (comp_read nodes comp c.node_id.result x at is) (bits_read nodes comp c.node_id.result x at is)

pub can_go-requires-clause-few : goal.can_go-requires-clause-few
can_go-requires-clause-few c =
    let nodes = c.args.nodes.now in let x = c.get-node.result.now in let comp = c.args.comp in
    let at = c.node_id.ensures in let is = c.get-node.ensures in
    few_read (map site_of c.args.sites.now) c.args.phases.now (comps_of nodes) (heres_of nodes) c.requires.sighted comp c.requires.from
    (subst (λ n. comp ≤ n) (sym (length-map c.args.sites.now site_of)) c.requires.to) x.comp x.here (comp_read nodes comp c.node_id.result x at is) (bits_read nodes comp c.node_id.result x at is)
