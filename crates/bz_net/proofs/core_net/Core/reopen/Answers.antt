use Rattle.std.proofs.Common.{◌≡◌, length, map, replicate, sym, ap, ◌∙◌, subst}
use Rattle.std.proofs.lemmas.List.{length-map}
use Rattle.bz_model.specs.Nets.{Wiring, opening}
use Rattle.bz_model.specs.declared.channel.Phase.TheVariants.{Idle}
use Rattle.bz_flat.specs.Flats.{site_of}
use Rattle.bz_net.specs.Core.{Standing}
use Rattle.bz_net.specs.Keeping.{state_of, Started, MarksAll}
use Rattle.bz_net.specs.Nodes.{comp_of, comps_of, heres_of}
use Rattle.bz_net.specs.Told.{AreBlank}
use Rattle.bz_net.proofs.Cores.{core_first, sighted_first}
use Rattle.bz_net.proofs.Opening.{marks_ready, starts_well, state_opening, unless_first}
use Rattle.bz_net.proofs.core_net.Core.reopen.Goals as goal

pub restart_all-requires-clause-starts : goal.restart_all-requires-clause-starts
restart_all-requires-clause-starts c =
    let n = c.self.inside in
    starts_well (record { chans = n.names.chans; sites = map site_of n.sites; ports = n.names.ports }) c.self.invariant.0.wired

pub restart_all-requires-clause-each : goal.restart_all-requires-clause-each
restart_all-requires-clause-each c =
    let n = c.self.inside in
    sym (length-map n.nodes comp_of) ∙ c.self.invariant.0.tied.comps_len ∙ length-map n.sites site_of

pub mark_all-requires-clause-sighted : goal.mark_all-requires-clause-sighted
mark_all-requires-clause-sighted c =
    let n = c.self.inside in
    let w : Wiring = record { chans = n.names.chans; sites = map site_of n.sites; ports = n.names.ports } in
    let comps = comps_of c.restart_all.new.nodes in
    let heres = heres_of c.restart_all.new.nodes in
    let count = sym (length-map n.sites site_of) in
    let begun : Started w.chans w.sites comps (length n.sites) = c.in_ok-restart_all.ensures.started in
    let blank : AreBlank w.sites heres (length n.sites) = c.in_ok-restart_all.ensures.blank in
    let idle : c.clear.new.self ≡ replicate (length w.chans) Idle = c.clear.ensures ∙ ap (λ k. replicate k Idle) c.self.invariant.0.tied.phases_len in
    sighted_first w c.clear.new.self comps heres c.self.invariant.0.wired idle (subst (Started w.chans w.sites comps) count begun) (subst (AreBlank w.sites heres) count blank)

pub invariant_of-result : goal.invariant_of-result
invariant_of-result c =
    let n = c.self.inside in
    let w : Wiring = record { chans = n.names.chans; sites = map site_of n.sites; ports = n.names.ports } in
    let comps = comps_of c.restart_all.new.nodes in
    let heres = heres_of c.restart_all.new.nodes in
    let phases = c.clear.new.self in
    let count = sym (length-map n.sites site_of) in
    let begun : Started w.chans w.sites comps (length n.sites) = c.in_ok-restart_all.ensures.started in
    let blank : AreBlank w.sites heres (length n.sites) = c.in_ok-restart_all.ensures.blank in
    let idle : phases ≡ replicate (length w.chans) Idle = c.clear.ensures ∙ ap (λ k. replicate k Idle) c.self.invariant.0.tied.phases_len in
    let marks : MarksAll w.sites (state_of phases comps) c.in-Ok.ready (length n.sites) = c.in-Ok.ensures in (
      core_first w phases comps heres c.self.invariant.0.wired idle (subst (Started w.chans w.sites comps) count begun) (subst (AreBlank w.sites heres) count blank) n.ends.items c.in-Ok.ready c.self.invariant.0.ends_of
          (marks_ready w (state_of phases comps) c.in-Ok.ready (length n.sites) count marks),
      c.self.invariant.1,
      c.self.invariant.2,
      unless_first w.chans w.sites comps c.fill.new.self.items (subst (Started w.chans w.sites comps) count begun) (sym c.fill.new.self.ok.0 ∙ c.fill.ensures.len ∙ n.moved.ok.0 ∙ c.self.invariant.3.len),
    )

pub returns-clause-state : goal.returns-clause-state
returns-clause-state c =
    let n = c.self.inside in
    let w : Wiring = record { chans = n.names.chans; sites = map site_of n.sites; ports = n.names.ports } in
    let comps = comps_of c.restart_all.new.nodes in
    let begun : Started w.chans w.sites comps (length n.sites) = c.in_ok-restart_all.ensures.started in
    let idle : c.clear.new.self ≡ replicate (length w.chans) Idle = c.clear.ensures ∙ ap (λ k. replicate k Idle) c.self.invariant.0.tied.phases_len in
    ap (λ f. state_of f comps) idle ∙ state_opening w comps (subst (Started w.chans w.sites comps) (sym (length-map n.sites site_of)) begun) ∙ ap (λ (v : Standing). opening v.wiring) c.self.view_is
