use Rattle.std.proofs.Common.{Some, map, sym, subst}
use Rattle.bz_model.specs.Nets.{Wiring}
use Rattle.bz_flat.specs.Flats.{site_of}
use Rattle.bz_net.specs.Core.{Standing}
use Rattle.bz_net.specs.Due.{GivesAsSteps}
use Rattle.bz_net.specs.Ends.{IsSolePort}
use Rattle.bz_net.specs.Foretelling.{IsForetold}
use Rattle.bz_net.specs.Nodes.{comps_of}
use Rattle.bz_net.proofs.Soles.{sole_port, step_end}
use Rattle.bz_net.proofs.core_net.Core.carries.Goals as goal

pub carries_told-requires-clause-given : goal.carries_told-requires-clause-given
carries_told-requires-clause-given c =
    let t = c.args.told in
    subst (λ (v : Standing). GivesAsSteps v.wiring.sites v.state t.comp t.chan t.mv c.args.value) (sym c.self.view_is) c.requires.given

pub returns-clause-sole : goal.returns-clause-sole
returns-clause-sole c =
    let n = c.self.inside in let t = c.args.told in
    let w : Wiring = record { chans = n.names.chans; sites = map site_of n.sites; ports = n.names.ports } in
    let (value, (next, step)) = subst (λ (v : Standing). IsForetold v.wiring.sites v.state t) (sym c.self.view_is) c.requires.foretold in
    let end = step_end w n.phases (comps_of n.nodes) t.comp t.port t.chan t.mv value next c.self.invariant.0.tied step in
    subst (λ (v : Standing). IsSolePort v.wiring.sites v.state t.comp t.chan t.mv (Some t.port)) c.self.view_is
    (sole_port w n.phases (comps_of n.nodes) t.comp t.chan t.mv (Some t.port) c.self.invariant.0.wired c.self.invariant.0.tied end)
