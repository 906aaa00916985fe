use Rattle.std.proofs.Common.{◌≡◌, map, arith}
use Rattle.bz_model.specs.Nets.{chan_at}
use Rattle.bz_flat.specs.Flats.{site_of}
use Rattle.bz_net.specs.Keeping.{state_of}
use Rattle.bz_net.specs.Nodes.{comps_of, heres_of}
use Rattle.bz_net.proofs.Nodes.{bits_read, comp_read}
use Rattle.bz_net.proofs.Telling.{few_read, goes_read, may_stands, port_read, room_read}
use Rattle.bz_net.proofs.node_moves.move_comp.Goals as goal

pub port_of-port-requires-clause-room : goal.port_of-port-requires-clause-room
port_of-port-requires-clause-room c =
    let sites = map site_of c.args.sites.now in let nodes = c.args.nodes.now in let phases = c.args.phases.now in
    let stands = may_stands sites (state_of phases (comps_of nodes)) c.args.comp c.args.at c.requires.may in let above = stands.0 in let below = stands.1 in
    let x = c.get.result.now in let i = c.node_id.result in let at = c.node_id.ensures in let is = c.get.ensures in
    let x_is = comp_read nodes c.args.comp i x at is in let h_is = bits_read nodes c.args.comp i x at is in
    room_read sites phases (comps_of nodes) (heres_of nodes) c.requires.sighted c.args.comp above below x.comp x.here x_is h_is

pub port_of-port-requires-clause-few : goal.port_of-port-requires-clause-few
port_of-port-requires-clause-few c =
    let sites = map site_of c.args.sites.now in let nodes = c.args.nodes.now in let phases = c.args.phases.now in
    let stands = may_stands sites (state_of phases (comps_of nodes)) c.args.comp c.args.at c.requires.may in let above = stands.0 in let below = stands.1 in
    let x = c.get.result.now in let i = c.node_id.result in let at = c.node_id.ensures in let is = c.get.ensures in
    let x_is = comp_read nodes c.args.comp i x at is in let h_is = bits_read nodes c.args.comp i x at is in
    few_read sites phases (comps_of nodes) (heres_of nodes) c.requires.sighted c.args.comp above below x.comp x.here x_is h_is

pub port_of-port-requires-clause-goes : goal.port_of-port-requires-clause-goes
port_of-port-requires-clause-goes c =
    let sites = map site_of c.args.sites.now in let nodes = c.args.nodes.now in let phases = c.args.phases.now in
    let stands = may_stands sites (state_of phases (comps_of nodes)) c.args.comp c.args.at c.requires.may in let above = stands.0 in let below = stands.1 in
    let x = c.get.result.now in let i = c.node_id.result in let at = c.node_id.ensures in let is = c.get.ensures in
    let x_is = comp_read nodes c.args.comp i x at is in let h_is = bits_read nodes c.args.comp i x at is in
    goes_read sites phases (comps_of nodes) (heres_of nodes) c.requires.sighted c.args.comp above below x.comp x.here x_is h_is c.args.at c.requires.may

pub link-link-requires : goal.link-link-requires
link-link-requires c =
    let sites = map site_of c.args.sites.now in let nodes = c.args.nodes.now in let phases = c.args.phases.now in
    let stands = may_stands sites (state_of phases (comps_of nodes)) c.args.comp c.args.at c.requires.may in let above = stands.0 in let below = stands.1 in
    let x = c.get.result.now in let i = c.node_id.result in let at = c.node_id.ensures in let is = c.get.ensures in
    let x_is = comp_read nodes c.args.comp i x at is in let h_is = bits_read nodes c.args.comp i x at is in
    let p = c.port_of-port.result in
    let found = port_read sites phases (comps_of nodes) (heres_of nodes) c.requires.sighted c.args.comp above below x.comp x.here x_is h_is c.args.at p c.requires.may c.port_of-port.ensures.goes in let steps = found.0 in
    (sites, c.args.ends.now, steps.is_port, c.requires.links c.args.comp p steps.is_port)

pub overflow_sub-chan : goal.overflow_sub-chan
overflow_sub-chan c =
    let sites = map site_of c.args.sites.now in let nodes = c.args.nodes.now in let phases = c.args.phases.now in
    let stands = may_stands sites (state_of phases (comps_of nodes)) c.args.comp c.args.at c.requires.may in let above = stands.0 in let below = stands.1 in
    let x = c.get.result.now in let i = c.node_id.result in let at = c.node_id.ensures in let is = c.get.ensures in
    let x_is = comp_read nodes c.args.comp i x at is in let h_is = bits_read nodes c.args.comp i x at is in
    let p = c.port_of-port.result in
    let found = port_read sites phases (comps_of nodes) (heres_of nodes) c.requires.sighted c.args.comp above below x.comp x.here x_is h_is c.args.at p c.requires.may c.port_of-port.ensures.goes in let steps = found.0 in
    let k = c.link-link.result.now.chan in
    let chan_is : k ≡ chan_at sites c.args.comp p = (c.link-link.ensures sites c.args.ends.now (c.requires.links c.args.comp p steps.is_port)).on in
    let from = c.requires.placed.chan_from c.args.comp p steps.is_port in let to = c.requires.placed.chan_to c.args.comp p steps.is_port in
    omega (arith, chan_is, from, to)

pub next_riding-next-requires : goal.next_riding-next-requires
next_riding-next-requires c =
    let sites = map site_of c.args.sites.now in let nodes = c.args.nodes.now in let phases = c.args.phases.now in
    let stands = may_stands sites (state_of phases (comps_of nodes)) c.args.comp c.args.at c.requires.may in let above = stands.0 in let below = stands.1 in
    let x = c.get.result.now in let i = c.node_id.result in let at = c.node_id.ensures in let is = c.get.ensures in
    let x_is = comp_read nodes c.args.comp i x at is in let h_is = bits_read nodes c.args.comp i x at is in
    let p = c.port_of-port.result in
    let found = port_read sites phases (comps_of nodes) (heres_of nodes) c.requires.sighted c.args.comp above below x.comp x.here x_is h_is c.args.at p c.requires.may c.port_of-port.ensures.goes in let steps = found.0 in
    let k = c.link-link.result.now.chan in
    let chan_is : k ≡ chan_at sites c.args.comp p = (c.link-link.ensures sites c.args.ends.now (c.requires.links c.args.comp p steps.is_port)).on in
    let from = c.requires.placed.chan_from c.args.comp p steps.is_port in let to = c.requires.placed.chan_to c.args.comp p steps.is_port in
    omega (arith, chan_is, from, to)

pub move_as-carries-requires-clause-stays : goal.move_as-carries-requires-clause-stays
move_as-carries-requires-clause-stays c =
    c.requires.stays c.port_of-port.result

pub move_as-carries-requires-clause-steps : goal.move_as-carries-requires-clause-steps
move_as-carries-requires-clause-steps c =
    let sites = map site_of c.args.sites.now in let nodes = c.args.nodes.now in let phases = c.args.phases.now in
    let stands = may_stands sites (state_of phases (comps_of nodes)) c.args.comp c.args.at c.requires.may in let above = stands.0 in let below = stands.1 in
    let x = c.get.result.now in let i = c.node_id.result in let at = c.node_id.ensures in let is = c.get.ensures in
    let x_is = comp_read nodes c.args.comp i x at is in let h_is = bits_read nodes c.args.comp i x at is in
    let p = c.port_of-port.result in
    let found = port_read sites phases (comps_of nodes) (heres_of nodes) c.requires.sighted c.args.comp above below x.comp x.here x_is h_is c.args.at p c.requires.may c.port_of-port.ensures.goes in let steps = found.0 in
    steps

pub move_as-carries-requires-clause-link : goal.move_as-carries-requires-clause-link
move_as-carries-requires-clause-link c =
    let sites = map site_of c.args.sites.now in let nodes = c.args.nodes.now in let phases = c.args.phases.now in
    let stands = may_stands sites (state_of phases (comps_of nodes)) c.args.comp c.args.at c.requires.may in let above = stands.0 in let below = stands.1 in
    let x = c.get.result.now in let i = c.node_id.result in let at = c.node_id.ensures in let is = c.get.ensures in
    let x_is = comp_read nodes c.args.comp i x at is in let h_is = bits_read nodes c.args.comp i x at is in
    let p = c.port_of-port.result in
    let found = port_read sites phases (comps_of nodes) (heres_of nodes) c.requires.sighted c.args.comp above below x.comp x.here x_is h_is c.args.at p c.requires.may c.port_of-port.ensures.goes in let steps = found.0 in
    c.link-link.ensures sites c.args.ends.now (c.requires.links c.args.comp p steps.is_port)

pub move_as-carries-requires-in-Take-clause-stays : goal.move_as-carries-requires-in-Take-clause-stays
move_as-carries-requires-in-Take-clause-stays c =
    c.requires.stays c.port_of-port.result

pub move_as-carries-requires-in-Take-clause-steps : goal.move_as-carries-requires-in-Take-clause-steps
move_as-carries-requires-in-Take-clause-steps c =
    let sites = map site_of c.args.sites.now in let nodes = c.args.nodes.now in let phases = c.args.phases.now in
    let stands = may_stands sites (state_of phases (comps_of nodes)) c.args.comp c.args.at c.requires.may in let above = stands.0 in let below = stands.1 in
    let x = c.get.result.now in let i = c.node_id.result in let at = c.node_id.ensures in let is = c.get.ensures in
    let x_is = comp_read nodes c.args.comp i x at is in let h_is = bits_read nodes c.args.comp i x at is in
    let p = c.port_of-port.result in
    let found = port_read sites phases (comps_of nodes) (heres_of nodes) c.requires.sighted c.args.comp above below x.comp x.here x_is h_is c.args.at p c.requires.may c.port_of-port.ensures.goes in let steps = found.0 in
    steps

pub move_as-carries-requires-in-Take-clause-link : goal.move_as-carries-requires-in-Take-clause-link
move_as-carries-requires-in-Take-clause-link c =
    let sites = map site_of c.args.sites.now in let nodes = c.args.nodes.now in let phases = c.args.phases.now in
    let stands = may_stands sites (state_of phases (comps_of nodes)) c.args.comp c.args.at c.requires.may in let above = stands.0 in let below = stands.1 in
    let x = c.get.result.now in let i = c.node_id.result in let at = c.node_id.ensures in let is = c.get.ensures in
    let x_is = comp_read nodes c.args.comp i x at is in let h_is = bits_read nodes c.args.comp i x at is in
    let p = c.port_of-port.result in
    let found = port_read sites phases (comps_of nodes) (heres_of nodes) c.requires.sighted c.args.comp above below x.comp x.here x_is h_is c.args.at p c.requires.may c.port_of-port.ensures.goes in let steps = found.0 in
    c.link-link.ensures sites c.args.ends.now (c.requires.links c.args.comp p steps.is_port)

pub move_as-carries-requires-in-Reply-clause-stays : goal.move_as-carries-requires-in-Reply-clause-stays
move_as-carries-requires-in-Reply-clause-stays c =
    c.requires.stays c.port_of-port.result

pub move_as-carries-requires-in-Reply-clause-steps : goal.move_as-carries-requires-in-Reply-clause-steps
move_as-carries-requires-in-Reply-clause-steps c =
    let sites = map site_of c.args.sites.now in let nodes = c.args.nodes.now in let phases = c.args.phases.now in
    let stands = may_stands sites (state_of phases (comps_of nodes)) c.args.comp c.args.at c.requires.may in let above = stands.0 in let below = stands.1 in
    let x = c.get.result.now in let i = c.node_id.result in let at = c.node_id.ensures in let is = c.get.ensures in
    let x_is = comp_read nodes c.args.comp i x at is in let h_is = bits_read nodes c.args.comp i x at is in
    let p = c.port_of-port.result in
    let found = port_read sites phases (comps_of nodes) (heres_of nodes) c.requires.sighted c.args.comp above below x.comp x.here x_is h_is c.args.at p c.requires.may c.port_of-port.ensures.goes in let steps = found.0 in
    steps

pub move_as-carries-requires-in-Reply-clause-link : goal.move_as-carries-requires-in-Reply-clause-link
move_as-carries-requires-in-Reply-clause-link c =
    let sites = map site_of c.args.sites.now in let nodes = c.args.nodes.now in let phases = c.args.phases.now in
    let stands = may_stands sites (state_of phases (comps_of nodes)) c.args.comp c.args.at c.requires.may in let above = stands.0 in let below = stands.1 in
    let x = c.get.result.now in let i = c.node_id.result in let at = c.node_id.ensures in let is = c.get.ensures in
    let x_is = comp_read nodes c.args.comp i x at is in let h_is = bits_read nodes c.args.comp i x at is in
    let p = c.port_of-port.result in
    let found = port_read sites phases (comps_of nodes) (heres_of nodes) c.requires.sighted c.args.comp above below x.comp x.here x_is h_is c.args.at p c.requires.may c.port_of-port.ensures.goes in let steps = found.0 in
    c.link-link.ensures sites c.args.ends.now (c.requires.links c.args.comp p steps.is_port)

pub move_as-carries-requires-in-Got-clause-stays : goal.move_as-carries-requires-in-Got-clause-stays
move_as-carries-requires-in-Got-clause-stays c =
    c.requires.stays c.port_of-port.result

pub move_as-carries-requires-in-Got-clause-steps : goal.move_as-carries-requires-in-Got-clause-steps
move_as-carries-requires-in-Got-clause-steps c =
    let sites = map site_of c.args.sites.now in let nodes = c.args.nodes.now in let phases = c.args.phases.now in
    let stands = may_stands sites (state_of phases (comps_of nodes)) c.args.comp c.args.at c.requires.may in let above = stands.0 in let below = stands.1 in
    let x = c.get.result.now in let i = c.node_id.result in let at = c.node_id.ensures in let is = c.get.ensures in
    let x_is = comp_read nodes c.args.comp i x at is in let h_is = bits_read nodes c.args.comp i x at is in
    let p = c.port_of-port.result in
    let found = port_read sites phases (comps_of nodes) (heres_of nodes) c.requires.sighted c.args.comp above below x.comp x.here x_is h_is c.args.at p c.requires.may c.port_of-port.ensures.goes in let steps = found.0 in
    steps

pub move_as-carries-requires-in-Got-clause-link : goal.move_as-carries-requires-in-Got-clause-link
move_as-carries-requires-in-Got-clause-link c =
    let sites = map site_of c.args.sites.now in let nodes = c.args.nodes.now in let phases = c.args.phases.now in
    let stands = may_stands sites (state_of phases (comps_of nodes)) c.args.comp c.args.at c.requires.may in let above = stands.0 in let below = stands.1 in
    let x = c.get.result.now in let i = c.node_id.result in let at = c.node_id.ensures in let is = c.get.ensures in
    let x_is = comp_read nodes c.args.comp i x at is in let h_is = bits_read nodes c.args.comp i x at is in
    let p = c.port_of-port.result in
    let found = port_read sites phases (comps_of nodes) (heres_of nodes) c.requires.sighted c.args.comp above below x.comp x.here x_is h_is c.args.at p c.requires.may c.port_of-port.ensures.goes in let steps = found.0 in
    c.link-link.ensures sites c.args.ends.now (c.requires.links c.args.comp p steps.is_port)

pub returns-in-Ask-clause-port : goal.returns-in-Ask-clause-port
returns-in-Ask-clause-port c =
    let sites = map site_of c.args.sites.now in let nodes = c.args.nodes.now in let phases = c.args.phases.now in
    let stands = may_stands sites (state_of phases (comps_of nodes)) c.args.comp c.args.at c.requires.may in let above = stands.0 in let below = stands.1 in
    let x = c.get.result.now in let i = c.node_id.result in let at = c.node_id.ensures in let is = c.get.ensures in
    let x_is = comp_read nodes c.args.comp i x at is in let h_is = bits_read nodes c.args.comp i x at is in
    (port_read sites phases (comps_of nodes) (heres_of nodes) c.requires.sighted c.args.comp above below x.comp x.here x_is h_is c.args.at c.port_of-port.result c.requires.may c.port_of-port.ensures.goes).1

pub returns-in-Take-clause-port : goal.returns-in-Take-clause-port
returns-in-Take-clause-port c =
    let sites = map site_of c.args.sites.now in let nodes = c.args.nodes.now in let phases = c.args.phases.now in
    let stands = may_stands sites (state_of phases (comps_of nodes)) c.args.comp c.args.at c.requires.may in let above = stands.0 in let below = stands.1 in
    let x = c.get.result.now in let i = c.node_id.result in let at = c.node_id.ensures in let is = c.get.ensures in
    let x_is = comp_read nodes c.args.comp i x at is in let h_is = bits_read nodes c.args.comp i x at is in
    (port_read sites phases (comps_of nodes) (heres_of nodes) c.requires.sighted c.args.comp above below x.comp x.here x_is h_is c.args.at c.port_of-port.result c.requires.may c.port_of-port.ensures.goes).1

pub returns-in-Reply-clause-port : goal.returns-in-Reply-clause-port
returns-in-Reply-clause-port c =
    let sites = map site_of c.args.sites.now in let nodes = c.args.nodes.now in let phases = c.args.phases.now in
    let stands = may_stands sites (state_of phases (comps_of nodes)) c.args.comp c.args.at c.requires.may in let above = stands.0 in let below = stands.1 in
    let x = c.get.result.now in let i = c.node_id.result in let at = c.node_id.ensures in let is = c.get.ensures in
    let x_is = comp_read nodes c.args.comp i x at is in let h_is = bits_read nodes c.args.comp i x at is in
    (port_read sites phases (comps_of nodes) (heres_of nodes) c.requires.sighted c.args.comp above below x.comp x.here x_is h_is c.args.at c.port_of-port.result c.requires.may c.port_of-port.ensures.goes).1

pub returns-in-Got-clause-port : goal.returns-in-Got-clause-port
returns-in-Got-clause-port c =
    let sites = map site_of c.args.sites.now in let nodes = c.args.nodes.now in let phases = c.args.phases.now in
    let stands = may_stands sites (state_of phases (comps_of nodes)) c.args.comp c.args.at c.requires.may in let above = stands.0 in let below = stands.1 in
    let x = c.get.result.now in let i = c.node_id.result in let at = c.node_id.ensures in let is = c.get.ensures in
    let x_is = comp_read nodes c.args.comp i x at is in let h_is = bits_read nodes c.args.comp i x at is in
    (port_read sites phases (comps_of nodes) (heres_of nodes) c.requires.sighted c.args.comp above below x.comp x.here x_is h_is c.args.at c.port_of-port.result c.requires.may c.port_of-port.ensures.goes).1
