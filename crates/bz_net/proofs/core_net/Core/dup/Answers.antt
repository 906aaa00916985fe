use Rattle.std.proofs.Common.{length, map, sym, ap, subst, ◌∙◌}
use Rattle.std.proofs.lemmas.List.{length-map}
use Rattle.bz_model.specs.Names.{Outside}
use Rattle.bz_model.specs.Nets.{Wiring}
use Rattle.bz_flat.specs.Flats.{site_of}
use Rattle.bz_net.specs.Keeping.{MarksAll, state_of}
use Rattle.bz_net.proofs.Cores.{core_same, core_sighted}
use Rattle.bz_net.proofs.Opening.{marks_ready}
use Rattle.bz_net.specs.Noted.{NoneMixes}
use Rattle.bz_net.specs.Nodes.{comps_of, heres_of}
use Rattle.bz_net.proofs.core_net.Core.dup.Goals as goal

pub mark_all-requires-clause-sighted : goal.mark_all-requires-clause-sighted
mark_all-requires-clause-sighted c =
    let n = c.self.inside in
    (core_sighted (record { chans = n.names.chans; sites = map site_of n.sites; ports = n.names.ports }) n.phases (comps_of n.nodes) (heres_of n.nodes) n.ends.items n.ready c.self.invariant.0)

pub invariant_of-result : goal.invariant_of-result
invariant_of-result c =
    let n = c.self.inside in
    let w : Wiring = record { chans = n.names.chans; sites = map site_of n.sites; ports = n.names.ports } in
    let all : MarksAll w.sites (state_of n.phases (comps_of n.nodes)) c.in_ok-ready.ready (length n.sites) = c.in_ok-ready.ensures in
    let sites = c.in_ok-sites.ensures in
    let names = c.in_ok-names.ensures in (
      core_same w _ n.phases _ (comps_of n.nodes) _ (heres_of n.nodes) _ n.ends.items _ n.ready c.in_ok-ready.ready
          (λ i. record { chans = (names i).chans; sites = sites i; ports = (names i).ports })
          c.in_ok-phases.ensures
          (ap comps_of c.in_ok-nodes.ensures)
          (ap heres_of c.in_ok-nodes.ensures)
          (c.in_ok-ends.ensures.items ∙ c.deref.ensures.value)
          c.self.invariant.0
          (marks_ready w (state_of n.phases (comps_of n.nodes)) c.in_ok-ready.ready (length n.sites) (sym (length-map n.sites site_of)) all),
      rw (sites, c.in_ok-ends.ensures.items ∙ c.deref.ensures.value, c.in_ok-links.ensures.row, c.in_ok-links.ensures.starts) c.self.invariant.1,
      λ never. subst NoneMixes (sym sites) (c.self.invariant.2 never),
      rw (ap (λ (o : Outside). o.chans) names, sites, ap comps_of c.in_ok-nodes.ensures, c.in_ok-moved.ensures.items ∙ c.deref-2.ensures.value) c.self.invariant.3,
    )
