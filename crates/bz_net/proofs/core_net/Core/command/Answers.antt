use Rattle.std.proofs.Common.{◌≡◌, ◌≤◌, None, length, map, sym, ap, subst, arith}
use Rattle.bz_model.specs.Nets.{Wiring}
use Rattle.bz_model.specs.Hosts.{HostStep, refusal_at, host_after}
use Rattle.bz_flat.specs.Flats.{site_of}
use Rattle.bz_net.specs.Core.{Standing}
use Rattle.bz_net.specs.Keeping.{CommandedAt, phase_in, state_of}
use Rattle.bz_net.specs.Told.{Retold}
use Rattle.bz_net.proofs.Cores.{core_sighted, core_host, core_commanded, core_host_step}
use Rattle.bz_net.proofs.Telling.{all_are_ends}
use Rattle.bz_net.specs.Nodes.{comps_of, heres_of}
use Rattle.bz_net.proofs.core_net.Core.command.Goals as goal

pub command-requires-clause-sighted : goal.command-requires-clause-sighted
command-requires-clause-sighted c =
    let n = c.self.inside in
    (core_sighted (record { chans = n.names.chans; sites = map site_of n.sites; ports = n.names.ports }) n.phases (comps_of n.nodes) (heres_of n.nodes) n.ends.items n.ready c.self.invariant.0)

pub command-requires-clause-stays : goal.command-requires-clause-stays
command-requires-clause-stays c =
    let n = c.self.inside in
    let w : Wiring = record { chans = n.names.chans; sites = map site_of n.sites; ports = n.names.ports } in
    let same : w ≡ c.args.self.now.wiring = ap (λ (v : Standing). v.wiring) c.self.view_is in
    let to : c.args.port ≤ length w.ports = subst (λ (v : Wiring). c.args.port ≤ length v.ports) (sym same) c.requires.to in
    let agreed : refusal_at w c.args.verb c.args.port c.args.value ≡ None = subst (λ (v : Wiring). refusal_at v c.args.verb c.args.port c.args.value ≡ None) (sym same) c.requires.agreed in
    (core_host w n.phases (comps_of n.nodes) (heres_of n.nodes) n.ends.items n.ready c.self.invariant.0 c.args.verb c.args.port c.args.value c.requires.from to agreed)

pub invariant_of-self : goal.invariant_of-self
invariant_of-self c =
    let n = c.self.inside in let d = c.command.new in let r = c.command.result in
    let w : Wiring = record { chans = n.names.chans; sites = map site_of n.sites; ports = n.names.ports } in
    let same : w ≡ c.args.self.now.wiring = ap (λ (v : Standing). v.wiring) c.self.view_is in
    let to : c.args.port ≤ length w.ports = subst (λ (v : Wiring). c.args.port ≤ length v.ports) (sym same) c.requires.to in
    let agreed : refusal_at w c.args.verb c.args.port c.args.value ≡ None = subst (λ (v : Wiring). refusal_at v c.args.verb c.args.port c.args.value ≡ None) (sym same) c.requires.agreed in
    let told : Retold w.sites (heres_of n.nodes) (heres_of d.nodes) c.args.port (host_after c.args.verb c.args.value (phase_in n.phases c.args.port)) =
    c.command.ensures.told in
    let does : CommandedAt w.sites n.ends.items (comps_of n.nodes) n.phases d.phases n.ready d.ready c.args.verb c.args.port c.args.value r =
    rw c.deref.ensures.value at c.command.ensures.commanded in
    rw c.command.ensures.comps
    (core_commanded w n.phases (comps_of n.nodes) (heres_of n.nodes) n.ends.items n.ready c.self.invariant.0 d.phases (heres_of d.nodes) d.ready c.args.verb c.args.port c.args.value r c.requires.from to agreed does told, c.self.invariant.1, c.self.invariant.2, c.self.invariant.3)

pub returns-clause-step : goal.returns-clause-step
returns-clause-step c =
    let n = c.self.inside in let d = c.command.new in let r = c.command.result in
    let w : Wiring = record { chans = n.names.chans; sites = map site_of n.sites; ports = n.names.ports } in
    let same : w ≡ c.args.self.now.wiring = ap (λ (v : Standing). v.wiring) c.self.view_is in
    let to : c.args.port ≤ length w.ports = subst (λ (v : Wiring). c.args.port ≤ length v.ports) (sym same) c.requires.to in
    let agreed : refusal_at w c.args.verb c.args.port c.args.value ≡ None = subst (λ (v : Wiring). refusal_at v c.args.verb c.args.port c.args.value ≡ None) (sym same) c.requires.agreed in
    let told : Retold w.sites (heres_of n.nodes) (heres_of d.nodes) c.args.port (host_after c.args.verb c.args.value (phase_in n.phases c.args.port)) =
    c.command.ensures.told in
    let does : CommandedAt w.sites n.ends.items (comps_of n.nodes) n.phases d.phases n.ready d.ready c.args.verb c.args.port c.args.value r =
    rw c.deref.ensures.value at c.command.ensures.commanded in
    let step : HostStep w (state_of n.phases (comps_of n.nodes)) c.args.verb c.args.port c.args.value r (state_of d.phases (comps_of n.nodes)) =
    core_host_step w n.phases (comps_of n.nodes) (heres_of n.nodes) n.ends.items n.ready c.self.invariant.0 d.phases (heres_of d.nodes) d.ready c.args.verb c.args.port c.args.value r c.requires.from to agreed does told in
    rw c.command.ensures.comps (subst (λ (v : Standing). HostStep v.wiring v.state c.args.verb c.args.port c.args.value r (state_of d.phases (comps_of n.nodes))) c.self.view_is step)

pub command-requires-clause-are_ends : goal.command-requires-clause-are_ends
command-requires-clause-are_ends c =
    let n = c.self.inside in
    let w : Wiring = record { chans = n.names.chans; sites = map site_of n.sites; ports = n.names.ports } in
    rw c.deref.ensures.value (all_are_ends w n.ends.items c.self.invariant.0.ends_of)

pub returns-clause-within : goal.returns-clause-within
returns-clause-within c =
    let n = c.self.inside in
    let w : Wiring = record { chans = n.names.chans; sites = map site_of n.sites; ports = n.names.ports } in
    let same : w ≡ c.args.self.now.wiring = ap (λ (v : Standing). v.wiring) c.self.view_is in
    let to : c.args.port ≤ length w.ports = subst (λ (v : Wiring). c.args.port ≤ length v.ports) (sym same) c.requires.to in
    subst (λ (v : Wiring). c.args.port ≤ length v.chans) same (let few = c.self.invariant.0.wired.ports_to in omega (arith, to, few))

pub returns-clause-unbroken : goal.returns-clause-unbroken
returns-clause-unbroken c =
    let n = c.self.inside in let d = c.command.new in let r = c.command.result in
    let w : Wiring = record { chans = n.names.chans; sites = map site_of n.sites; ports = n.names.ports } in
    let same : w ≡ c.args.self.now.wiring = ap (λ (v : Standing). v.wiring) c.self.view_is in
    let to : c.args.port ≤ length w.ports = subst (λ (v : Wiring). c.args.port ≤ length v.ports) (sym same) c.requires.to in
    let agreed : refusal_at w c.args.verb c.args.port c.args.value ≡ None = subst (λ (v : Wiring). refusal_at v c.args.verb c.args.port c.args.value ≡ None) (sym same) c.requires.agreed in
    let told : Retold w.sites (heres_of n.nodes) (heres_of d.nodes) c.args.port (host_after c.args.verb c.args.value (phase_in n.phases c.args.port)) =
    c.command.ensures.told in
    let does : CommandedAt w.sites n.ends.items (comps_of n.nodes) n.phases d.phases n.ready d.ready c.args.verb c.args.port c.args.value r =
    rw c.deref.ensures.value at c.command.ensures.commanded in
    (core_commanded w n.phases (comps_of n.nodes) (heres_of n.nodes) n.ends.items n.ready c.self.invariant.0 d.phases (heres_of d.nodes) d.ready c.args.verb c.args.port c.args.value r c.requires.from to agreed does told).tied.kept
