use Rattle.std.proofs.Common.{◌<◌, ◌≤◌, ℕ, length, map, sym, subst}
use Rattle.bz_model.specs.Nets.{Wiring, Step}
use Rattle.bz_flat.specs.Flats.{site_of}
use Rattle.bz_flat.specs.Wires.{ends_in}
use Rattle.bz_kinds.specs.Riding.{held}
use Rattle.bz_net.specs.Core.{Standing}
use Rattle.bz_net.specs.Keeping.{RefreshedEnds, state_of}
use Rattle.bz_net.specs.Told.{MayMove, MovesAt, Turned}
use Rattle.bz_net.specs.Noted.{AskedBefore}
use Rattle.bz_net.proofs.Cores.{core_met, core_placed, core_sighted, core_stays, core_moved, core_sole, core_step}
use Rattle.bz_net.proofs.Opening.{unless_moved}
use Rattle.bz_net.proofs.Telling.{all_are_ends}
use Rattle.bz_net.specs.Nodes.{comps_of, heres_of}
use Rattle.bz_net.proofs.core_net.Core.fire.Goals as goal

pub move_comp-requires-clause-sighted : goal.move_comp-requires-clause-sighted
move_comp-requires-clause-sighted c =
    let n = c.self.inside in
    (core_sighted (record { chans = n.names.chans; sites = map site_of n.sites; ports = n.names.ports }) n.phases (comps_of n.nodes) (heres_of n.nodes) n.ends.items n.ready c.self.invariant.0)

pub move_comp-requires-clause-stays : goal.move_comp-requires-clause-stays
move_comp-requires-clause-stays c p =
    let n = c.self.inside in
    (core_stays (record { chans = n.names.chans; sites = map site_of n.sites; ports = n.names.ports }) n.phases (comps_of n.nodes) (heres_of n.nodes) n.ends.items n.ready c.self.invariant.0 c.args.comp p)

pub invariant_of-self : goal.invariant_of-self
invariant_of-self c =
    let n = c.self.inside in let d = c.move_comp.new in let r = c.move_comp.result in
    let w : Wiring = record { chans = n.names.chans; sites = map site_of n.sites; ports = n.names.ports } in
    let told : Turned w.sites n.phases (comps_of n.nodes) (heres_of n.nodes) d.phases (comps_of d.nodes) (heres_of d.nodes) c.args.comp r.3 r.0 r.1 (held r.2 c.move_comp.new.value) =
    c.move_comp.ensures.told in
    let refreshed : RefreshedEnds w.sites (state_of d.phases (comps_of d.nodes)) n.ready d.ready (ends_in n.ends.items r.0) =
    rw c.deref.ensures.value at c.move_comp.ensures.refreshed in (
      core_moved w n.phases (comps_of n.nodes) (heres_of n.nodes) n.ends.items n.ready c.self.invariant.0 d.phases (comps_of d.nodes) (heres_of d.nodes) d.ready c.args.comp r.3 r.0 r.1 (held r.2 c.move_comp.new.value) told refreshed,
      c.self.invariant.1,
      c.self.invariant.2,
      rw told.comps_is (unless_moved w.chans w.sites (comps_of n.nodes) n.moved.items c.args.comp told.rest told.steps_at.is_port.comp_from told.steps_at.is_port.comp_to c.self.invariant.3),
    )

pub returns-clause-step : goal.returns-clause-step
returns-clause-step c =
    let n = c.self.inside in let d = c.move_comp.new in let r = c.move_comp.result in
    let w : Wiring = record { chans = n.names.chans; sites = map site_of n.sites; ports = n.names.ports } in
    let told : Turned w.sites n.phases (comps_of n.nodes) (heres_of n.nodes) d.phases (comps_of d.nodes) (heres_of d.nodes) c.args.comp r.3 r.0 r.1 (held r.2 c.move_comp.new.value) =
    c.move_comp.ensures.told in
    let refreshed : RefreshedEnds w.sites (state_of d.phases (comps_of d.nodes)) n.ready d.ready (ends_in n.ends.items r.0) =
    rw c.deref.ensures.value at c.move_comp.ensures.refreshed in
    let step : Step w.sites (state_of n.phases (comps_of n.nodes)) c.args.comp r.3 r.0 r.1 (held r.2 c.move_comp.new.value) (state_of d.phases (comps_of d.nodes)) =
    core_step w n.phases (comps_of n.nodes) (heres_of n.nodes) n.ends.items n.ready c.self.invariant.0 d.phases (comps_of d.nodes) (heres_of d.nodes) d.ready c.args.comp r.3 r.0 r.1 (held r.2 c.move_comp.new.value) told refreshed in
    (subst (λ (v : Standing). Step v.wiring.sites v.state c.args.comp r.3 r.0 r.1 (held r.2 c.move_comp.new.value) (state_of d.phases (comps_of d.nodes))) c.self.view_is step)

pub returns-clause-sole : goal.returns-clause-sole
returns-clause-sole c j mw other next step =
    let n = c.self.inside in let d = c.move_comp.new in let r = c.move_comp.result in
    let w : Wiring = record { chans = n.names.chans; sites = map site_of n.sites; ports = n.names.ports } in
    let told : Turned w.sites n.phases (comps_of n.nodes) (heres_of n.nodes) d.phases (comps_of d.nodes) (heres_of d.nodes) c.args.comp r.3 r.0 r.1 (held r.2 c.move_comp.new.value) =
    c.move_comp.ensures.told in
    let refreshed : RefreshedEnds w.sites (state_of d.phases (comps_of d.nodes)) n.ready d.ready (ends_in n.ends.items r.0) =
    rw c.deref.ensures.value at c.move_comp.ensures.refreshed in
    let back : Step w.sites (state_of n.phases (comps_of n.nodes)) c.args.comp r.3 j mw other next =
    subst (λ (v : Standing). Step v.wiring.sites v.state c.args.comp r.3 j mw other next) (sym c.self.view_is) step in
    let same = core_sole w n.phases (comps_of n.nodes) (heres_of n.nodes) n.ends.items n.ready c.self.invariant.0 d.phases (comps_of d.nodes) (heres_of d.nodes) d.ready c.args.comp r.3 r.0 r.1 (held r.2 c.move_comp.new.value) told refreshed j mw other next back in
    (same.chan, same.move, same.value_is, same.next_is)

pub returns-clause-from : goal.returns-clause-from
returns-clause-from c =
    let n = c.self.inside in let d = c.move_comp.new in let r = c.move_comp.result in
    let w : Wiring = record { chans = n.names.chans; sites = map site_of n.sites; ports = n.names.ports } in
    let told : Turned w.sites n.phases (comps_of n.nodes) (heres_of n.nodes) d.phases (comps_of d.nodes) (heres_of d.nodes) c.args.comp r.3 r.0 r.1 (held r.2 c.move_comp.new.value) =
    c.move_comp.ensures.told in
    subst (λ (k : ℕ). 0 < k) (sym told.chan_is) (c.self.invariant.0.wired.chan_from c.args.comp r.3 told.steps_at.is_port)

pub returns-clause-to : goal.returns-clause-to
returns-clause-to c =
    let n = c.self.inside in let d = c.move_comp.new in let r = c.move_comp.result in
    let w : Wiring = record { chans = n.names.chans; sites = map site_of n.sites; ports = n.names.ports } in
    let told : Turned w.sites n.phases (comps_of n.nodes) (heres_of n.nodes) d.phases (comps_of d.nodes) (heres_of d.nodes) c.args.comp r.3 r.0 r.1 (held r.2 c.move_comp.new.value) =
    c.move_comp.ensures.told in
    subst (λ (v : Standing). r.0 ≤ length v.wiring.chans) c.self.view_is
    (subst (λ (k : ℕ). k ≤ length w.chans) (sym told.chan_is) (c.self.invariant.0.wired.chan_to c.args.comp r.3 told.steps_at.is_port))

pub move_comp-requires-clause-placed : goal.move_comp-requires-clause-placed
move_comp-requires-clause-placed c =
    let n = c.self.inside in
    (core_placed (record { chans = n.names.chans; sites = map site_of n.sites; ports = n.names.ports }) n.phases (comps_of n.nodes) (heres_of n.nodes) n.ends.items n.ready c.self.invariant.0)

pub move_comp-requires-clause-are_ends : goal.move_comp-requires-clause-are_ends
move_comp-requires-clause-are_ends c =
    let n = c.self.inside in
    let w : Wiring = record { chans = n.names.chans; sites = map site_of n.sites; ports = n.names.ports } in
    rw c.deref.ensures.value (all_are_ends w n.ends.items c.self.invariant.0.ends_of)

pub move_comp-requires-clause-links : goal.move_comp-requires-clause-links
move_comp-requires-clause-links c = rw c.deref.ensures.value c.self.invariant.1

pub move_comp-requires-clause-exact : goal.move_comp-requires-clause-exact
move_comp-requires-clause-exact c = c.self.invariant.0.ready.exact

pub returns-clause-met : goal.returns-clause-met
returns-clause-met c =
    let n = c.self.inside in let d = c.move_comp.new in let r = c.move_comp.result in
    let w : Wiring = record { chans = n.names.chans; sites = map site_of n.sites; ports = n.names.ports } in
    let told : Turned w.sites n.phases (comps_of n.nodes) (heres_of n.nodes) d.phases (comps_of d.nodes) (heres_of d.nodes) c.args.comp r.3 r.0 r.1 (held r.2 c.move_comp.new.value) =
    c.move_comp.ensures.told in
    let refreshed : RefreshedEnds w.sites (state_of d.phases (comps_of d.nodes)) n.ready d.ready (ends_in n.ends.items r.0) =
    rw c.deref.ensures.value at c.move_comp.ensures.refreshed in
    subst (λ (v : Standing). AskedBefore v.wiring.sites v.state.phases d.phases r.1) c.self.view_is
    (core_met w n.phases (comps_of n.nodes) (heres_of n.nodes) n.ends.items n.ready c.self.invariant.0 d.phases (comps_of d.nodes) (heres_of d.nodes) d.ready c.args.comp r.3 r.0 r.1 (held r.2 c.move_comp.new.value) told refreshed)

pub move_comp-requires-clause-may : goal.move_comp-requires-clause-may
move_comp-requires-clause-may c = subst (λ (v : Standing). MayMove v.wiring.sites v.state c.args.comp c.args.at) (sym c.self.view_is) c.requires

pub returns-clause-port : goal.returns-clause-port
returns-clause-port c = subst (λ (v : Standing). MovesAt v.wiring.sites v.state c.args.comp c.args.at c.move_comp.result.3) c.self.view_is c.move_comp.ensures.port

pub returns-clause-unbroken : goal.returns-clause-unbroken
returns-clause-unbroken c =
    let n = c.self.inside in let d = c.move_comp.new in let r = c.move_comp.result in
    let w : Wiring = record { chans = n.names.chans; sites = map site_of n.sites; ports = n.names.ports } in
    let told : Turned w.sites n.phases (comps_of n.nodes) (heres_of n.nodes) d.phases (comps_of d.nodes) (heres_of d.nodes) c.args.comp r.3 r.0 r.1 (held r.2 c.move_comp.new.value) =
    c.move_comp.ensures.told in
    let refreshed : RefreshedEnds w.sites (state_of d.phases (comps_of d.nodes)) n.ready d.ready (ends_in n.ends.items r.0) =
    rw c.deref.ensures.value at c.move_comp.ensures.refreshed in
    (core_moved w n.phases (comps_of n.nodes) (heres_of n.nodes) n.ends.items n.ready c.self.invariant.0 d.phases (comps_of d.nodes) (heres_of d.nodes) d.ready c.args.comp r.3 r.0 r.1 (held r.2 c.move_comp.new.value) told refreshed).tied.kept
