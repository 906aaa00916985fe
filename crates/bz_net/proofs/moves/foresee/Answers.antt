use Rattle.std.proofs.Common.{map}
use Rattle.bz_flat.specs.Flats.{site_of}
use Rattle.bz_net.specs.Nodes.{comps_of}
use Rattle.bz_net.proofs.Nodes.{comp_read}
use Rattle.bz_net.proofs.Foreseeing.{foreseen, not_foreseen, one_head}
use Rattle.bz_net.proofs.moves.foresee.Goals as goal

pub returns-in_default-clause-seen : goal.returns-in_default-clause-seen
returns-in_default-clause-seen c = λ steps. c.in_default.ensures steps.is_port

pub returns-in-None-clause-seen : goal.returns-in-None-clause-seen
returns-in-None-clause-seen c =
    let nodes = c.args.nodes.now in let x = c.get.result.now in let comp = c.args.comp in
    let (port, on) = c.in-Some.ensures in
    not_foreseen (map site_of c.args.sites.now) c.args.phases.now (comps_of nodes) comp c.args.port x.comp c.requires.comps_len port
    (comp_read nodes comp c.node_id.result x c.node_id.ensures c.get.ensures) c.in-Some.chan on
    (rw c.get-phase.ensures at c.in-None.ensures.moves)

pub returns-in-Some-foresee-clause-seen : goal.returns-in-Some-foresee-clause-seen
returns-in-Some-foresee-clause-seen c =
    let nodes = c.args.nodes.now in let x = c.get.result.now in let comp = c.args.comp in
    let (port, on) = c.in-Some.ensures in
    let (rest, moves) = rw c.get-phase.ensures at c.in-Some-foresee.ensures.moves in
    foreseen (map site_of c.args.sites.now) c.args.phases.now (comps_of nodes) comp c.args.port x.comp c.requires.comps_len port
    (comp_read nodes comp c.node_id.result x c.node_id.ensures c.get.ensures) c.in-Some.chan on
    c.in-Some-foresee.mv c.in-Some-foresee.value rest moves

pub returns-in-Some-foresee-clause-one : goal.returns-in-Some-foresee-clause-one
returns-in-Some-foresee-clause-one c =
    let nodes = c.args.nodes.now in let x = c.get.result.now in let comp = c.args.comp in
    let (port, on) = c.in-Some.ensures in
    one_head (map site_of c.args.sites.now) c.args.phases.now (comps_of nodes) comp c.args.port x.comp c.requires.comps_len port
    (comp_read nodes comp c.node_id.result x c.node_id.ensures c.get.ensures) c.in-Some-foresee.ensures.one
