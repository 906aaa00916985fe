use Rattle.std.proofs.Common.{suc, map, subst}
use Rattle.std.specs.Prelude.{IfNone, IfSome}
use Rattle.bz_model.specs.Nets.{Wiring}
use Rattle.bz_model.specs.Runs.{CanStep, IsNext}
use Rattle.bz_flat.specs.Flats.{site_of}
use Rattle.bz_net.specs.Core.{Standing}
use Rattle.bz_net.specs.Keeping.{state_of}
use Rattle.bz_net.specs.Near.{NoneAfter}
use Rattle.bz_net.proofs.Readiness.{next_near, none_after}
use Rattle.bz_net.specs.Nodes.{comps_of}
use Rattle.bz_net.proofs.core_net.Core.next_after.Goals as goal

pub returns-clause-some : goal.returns-clause-some
returns-clause-some c =
    let n = c.self.inside in
    let w : Wiring = record { chans = n.names.chans; sites = map site_of n.sites; ports = n.names.ports } in
    subst (λ (v : Standing). IfSome c.next_after.result (IsNext (CanStep v.wiring.sites v.state) (suc c.args.last))) c.self.view_is
    (next_near w (state_of n.phases (comps_of n.nodes)) n.ready (suc c.args.last) c.next_after.result c.self.invariant.0.ready c.next_after.ensures.some)

pub returns-clause-none : goal.returns-clause-none
returns-clause-none c =
    let n = c.self.inside in
    let w : Wiring = record { chans = n.names.chans; sites = map site_of n.sites; ports = n.names.ports } in
    subst (λ (v : Standing). IfNone c.next_after.result (NoneAfter (CanStep v.wiring.sites v.state) c.args.last)) c.self.view_is
    (none_after w (state_of n.phases (comps_of n.nodes)) n.ready c.args.last c.next_after.result c.self.invariant.0.ready c.next_after.ensures.none)
