use Rattle.std.proofs.Common.{◌-◌, map, subst, arith}
use Rattle.std.proofs.lemmas.List.{get_or_read, length-map}
use Rattle.bz_flat.specs.Flats.{site_of}
use Rattle.bz_net.specs.Keeping.{no_comp}
use Rattle.bz_net.specs.Nodes.{comp_of, comps_of, heres_of}
use Rattle.bz_net.specs.Told.{IsTurning}
use Rattle.bz_net.proofs.Nodes.{comp_read, bits_read}
use Rattle.bz_net.proofs.Telling.{step_read}
use Rattle.bz_net.proofs.here.has_step.Goals as goal

pub returns-clause-steps : goal.returns-clause-steps
returns-clause-steps c =
    let sites = map site_of c.args.sites.now in let nodes = c.args.nodes.now in let x = c.get-node.result.now in let comp = c.args.comp in
    let at = c.node_id.ensures in let is = c.get-node.ensures in
    let nodes_len = length-map nodes comp_of in let len = c.requires.comps_len in
    step_read sites c.args.phases.now (comps_of nodes) (heres_of nodes) c.requires comp (omega arith) (omega (arith, nodes_len, len)) x.comp x.here
    (comp_read nodes comp c.node_id.result x at is) (bits_read nodes comp c.node_id.result x at is)
    c.args.port c.goes_at.result c.goes_at.ensures.goes c.goes_at.ensures.held c.goes_at.ensures.turning

pub returns-clause-turning : goal.returns-clause-turning
returns-clause-turning c t =
    let nodes = c.args.nodes.now in let x = c.get-node.result.now in let comp = c.args.comp in
    let nodes_len = length-map nodes comp_of in
    subst IsTurning (get_or_read (comps_of nodes) (comp - 1) x.comp (omega (arith, nodes_len)) (comp_read nodes comp c.node_id.result x c.node_id.ensures c.get-node.ensures) no_comp) c.goes_at.ensures.turning
