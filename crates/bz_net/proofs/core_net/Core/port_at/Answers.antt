use Rattle.std.proofs.Common.{map, subst}
use Rattle.bz_model.specs.Nets.{Wiring}
use Rattle.bz_flat.specs.Flats.{site_of}
use Rattle.bz_net.specs.Sides.{answers}
use Rattle.bz_net.specs.Core.{Standing}
use Rattle.bz_net.specs.Ends.{TellsPort, IsSolePort}
use Rattle.bz_net.proofs.Soles.{sole_port}
use Rattle.bz_net.proofs.Stands.{tells_port}
use Rattle.bz_net.specs.Nodes.{comps_of}
use Rattle.bz_net.proofs.core_net.Core.port_at.Goals as goal

told : (c : goal.After-port_in) → TellsPort (map site_of c.self.inside.sites) c.args.chan (answers c.args.mv) c.args.comp c.port_in.result
told c =
    let n = c.self.inside in
    let w : Wiring = record { chans = n.names.chans; sites = map site_of n.sites; ports = n.names.ports } in
    tells_port w n.ends.items c.args.chan (answers c.args.mv) c.args.comp c.port_in.result c.self.invariant.0.wired c.self.invariant.0.ends_of
    (rw (c.deref.ensures.value, c.answers.ensures) at c.port_in.ensures)

pub returns-clause-end : goal.returns-clause-end
returns-clause-end c = subst (λ (v : Standing). TellsPort v.wiring.sites c.args.chan (answers c.args.mv) c.args.comp c.port_in.result) c.self.view_is (told c)

pub returns-clause-sole : goal.returns-clause-sole
returns-clause-sole c =
    let n = c.self.inside in
    let w : Wiring = record { chans = n.names.chans; sites = map site_of n.sites; ports = n.names.ports } in
    subst (λ (v : Standing). IsSolePort v.wiring.sites v.state c.args.comp c.args.chan c.args.mv c.port_in.result) c.self.view_is
    (sole_port w n.phases (comps_of n.nodes) c.args.comp c.args.chan c.args.mv c.port_in.result c.self.invariant.0.wired c.self.invariant.0.tied (told c))
