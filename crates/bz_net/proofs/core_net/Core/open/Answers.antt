use Rattle.std.proofs.Common.{◌≡◌, length, replicate, sym, ap, ◌∙◌, subst, arith}
use Rattle.std.proofs.lemmas.List.{length-map}
use Rattle.std.proofs.lemmas.Grind.{common_steps}
use Rattle.bz_model.specs.Nets.{Wiring, opening}
use Rattle.bz_model.specs.declared.channel.Phase.TheVariants.{Idle}
use Rattle.bz_flat.specs.Flats.{site_of, wiring_of}
use Rattle.bz_net.specs.Keeping.{state_of, Started, MarksAll}
use Rattle.bz_net.specs.Nodes.{comps_of, heres_of}
use Rattle.bz_net.specs.Told.{AreBlank}
use Rattle.bz_net.proofs.Cores.{core_first, sighted_first}
use Rattle.bz_net.proofs.Opening.{marks_ready, state_opening, unless_first}
use Rattle.bz_net.proofs.core_net.Core.open.Goals as goal

pub mark_all-requires-clause-sighted : goal.mark_all-requires-clause-sighted
mark_all-requires-clause-sighted c =
    let p = c.into_pieces-pieces.result in
    let w : Wiring = wiring_of p.chans p.comps p.ports.items in
    let phases = c.in-Ok.phases in
    let comps = comps_of c.in_ok-nodes.nodes in
    let heres = heres_of c.in_ok-nodes.nodes in
    let idle : phases ≡ replicate (length w.chans) Idle = grind (arith, common_steps) in
    let count = sym (length-map p.comps site_of) in
    let begun : Started w.chans w.sites comps (length p.comps) = c.in_ok-nodes.ensures.started in
    let blank : AreBlank w.sites heres (length p.comps) = c.in_ok-nodes.ensures.blank in
    let started = subst (Started w.chans w.sites comps) count begun in
    let blanks = subst (AreBlank w.sites heres) count blank in
    (sighted_first w phases comps heres c.into_pieces-pieces.ensures.wired idle started blanks)

pub invariant_of-result : goal.invariant_of-result
invariant_of-result c =
    let p = c.into_pieces-pieces.result in
    let w : Wiring = wiring_of p.chans p.comps p.ports.items in
    let phases = c.in-Ok.phases in
    let comps = comps_of c.in_ok-nodes.nodes in
    let heres = heres_of c.in_ok-nodes.nodes in
    let idle : phases ≡ replicate (length w.chans) Idle = grind (arith, common_steps) in
    let count = sym (length-map p.comps site_of) in
    let begun : Started w.chans w.sites comps (length p.comps) = c.in_ok-nodes.ensures.started in
    let blank : AreBlank w.sites heres (length p.comps) = c.in_ok-nodes.ensures.blank in
    let started = subst (Started w.chans w.sites comps) count begun in
    let blanks = subst (AreBlank w.sites heres) count blank in
    let marks : MarksAll w.sites (state_of phases comps) c.in-Ok-mark_all.ready (length p.comps) = c.in-Ok-mark_all.ensures in
    rw c.new-2.ensures (
      core_first w phases comps heres c.into_pieces-pieces.ensures.wired idle started blanks p.ends.items c.in-Ok-mark_all.ready c.into_pieces-pieces.ensures.ends_of
          (marks_ready w (state_of phases comps) c.in-Ok-mark_all.ready (length p.comps) count marks),
      rw c.deref.ensures.value at c.in-Ok-of.ensures,
      c.mixes-mixes.ensures,
      unless_first w.chans w.sites comps c.in-Ok-vec.moved.items started (sym c.in-Ok-vec.moved.ok.0 ∙ c.in-Ok-vec.ensures.len ∙ c.len-2.ensures ∙ count),
    )

pub returns-clause-state : goal.returns-clause-state
returns-clause-state c =
    let p = c.into_pieces-pieces.result in
    let w : Wiring = wiring_of p.chans p.comps p.ports.items in
    let phases = c.in-Ok.phases in
    let comps = comps_of c.in_ok-nodes.nodes in
    let heres = heres_of c.in_ok-nodes.nodes in
    let idle : phases ≡ replicate (length w.chans) Idle = grind (arith, common_steps) in
    let count = sym (length-map p.comps site_of) in
    let begun : Started w.chans w.sites comps (length p.comps) = c.in_ok-nodes.ensures.started in
    let blank : AreBlank w.sites heres (length p.comps) = c.in_ok-nodes.ensures.blank in
    let started = subst (Started w.chans w.sites comps) count begun in
    let blanks = subst (AreBlank w.sites heres) count blank in
    let same : c.args.flat.wiring ≡ w = c.into_pieces-pieces.ensures.wiring in
    ap (λ f. state_of f comps) idle ∙ state_opening w comps started ∙ ap opening (sym same)

pub returns-clause-wired : goal.returns-clause-wired
returns-clause-wired c = rw c.new-2.ensures c.into_pieces-pieces.ensures.wired

pub returns-clause-wiring : goal.returns-clause-wiring
returns-clause-wiring c = rw c.new-2.ensures (sym c.into_pieces-pieces.ensures.wiring)
