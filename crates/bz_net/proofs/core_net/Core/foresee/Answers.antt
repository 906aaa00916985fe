use Rattle.std.proofs.Common.{map, subst}
use Rattle.bz_model.specs.Nets.{Wiring}
use Rattle.bz_flat.specs.Flats.{site_of}
use Rattle.bz_net.proofs.Cores.{core_placed}
use Rattle.bz_net.specs.Core.{Standing}
use Rattle.bz_net.specs.Due.{Foresees}
use Rattle.bz_net.specs.Nodes.{comps_of, heres_of}
use Rattle.bz_net.proofs.core_net.Core.foresee.Goals as goal

pub foresee-requires : goal.foresee-requires
foresee-requires c =
    let n = c.self.inside in
    let w : Wiring = record { chans = n.names.chans; sites = map site_of n.sites; ports = n.names.ports } in
    (core_placed w n.phases (comps_of n.nodes) (heres_of n.nodes) n.ends.items n.ready c.self.invariant.0)

pub returns : goal.returns
returns c = subst (λ (v : Standing). Foresees v.wiring.sites v.state c.args.comp c.args.port c.foresee.result) c.self.view_is c.foresee.ensures.seen
