use Rattle.std.proofs.Common.{suc, map, subst, sym}
use Rattle.std.specs.Prelude.{MatchOption}
use Rattle.bz_model.specs.Nets.{Wiring}
use Rattle.bz_model.specs.Runs.{CanStep, IsNext, Rest}
use Rattle.bz_flat.specs.Flats.{site_of}
use Rattle.bz_net.specs.Core.{Standing}
use Rattle.bz_net.specs.Keeping.{state_of}
use Rattle.bz_net.specs.Near.{NoneAfter}
use Rattle.bz_net.proofs.Readiness.{next_ready, none_marked_after}
use Rattle.bz_net.specs.Nodes.{comps_of}
use Rattle.bz_net.proofs.core_net.Core.next_past.Goals as goal

pub returns : goal.returns
returns c =
    let n = c.self.inside in
    let w : Wiring = record { chans = n.names.chans; sites = map site_of n.sites; ports = n.names.ports } in
    subst (λ (v : Standing). MatchOption c.next_past.result (Rest v.wiring.sites v.state) (IsNext (CanStep v.wiring.sites v.state) (suc c.args.last))) c.self.view_is
    (next_ready w (state_of n.phases (comps_of n.nodes)) n.ready (suc c.args.last) c.next_past.result c.self.invariant.0.ready c.next_past.ensures)

pub next_past-requires : goal.next_past-requires
next_past-requires c =
    let n = c.self.inside in
    let w : Wiring = record { chans = n.names.chans; sites = map site_of n.sites; ports = n.names.ports } in
    none_marked_after w (state_of n.phases (comps_of n.nodes)) n.ready c.args.last c.self.invariant.0.ready
    (subst (λ (v : Standing). NoneAfter (CanStep v.wiring.sites v.state) c.args.last) (sym c.self.view_is) c.requires)
