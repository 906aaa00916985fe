use Rattle.std.proofs.Common.{map}
use Rattle.bz_model.specs.Nets.{Wiring}
use Rattle.bz_flat.specs.Flats.{site_of}
use Rattle.bz_net.proofs.Cores.{core_sighted}
use Rattle.bz_net.specs.Nodes.{comps_of, heres_of}
use Rattle.bz_net.proofs.core_net.Core.can_fire.Goals as goal

pub has_step-requires : goal.has_step-requires
has_step-requires c =
    let n = c.self.inside in
    let w : Wiring = record { chans = n.names.chans; sites = map site_of n.sites; ports = n.names.ports } in
    (core_sighted w n.phases (comps_of n.nodes) (heres_of n.nodes) n.ends.items n.ready c.self.invariant.0)
