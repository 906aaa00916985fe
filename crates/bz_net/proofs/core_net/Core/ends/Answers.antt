use Rattle.std.proofs.Common.{◌≤◌, ◌-◌, true, false, length, map, sym, ap, subst, arith}
use Rattle.std.proofs.lemmas.List.{get_or_read}
use Rattle.bz_flat.specs.declared.flat.Ends.{Ends}
use Rattle.bz_model.specs.Nets.{Wiring}
use Rattle.bz_flat.specs.Wires.{no_ends}
use Rattle.bz_flat.specs.Flats.{site_of}
use Rattle.bz_net.specs.Core.{Standing}
use Rattle.bz_net.specs.Ends.{StandsAt}
use Rattle.bz_net.proofs.Stands.{stands_at}
use Rattle.bz_net.proofs.core_net.Core.ends.Goals as goal

pub returns : goal.returns
returns c =
    let n = c.self.inside in
    let w : Wiring = record { chans = n.names.chans; sites = map site_of n.sites; ports = n.names.ports } in
    let of = c.self.invariant.0.ends_of in
    let len = of.ends_len in
    let to : c.args.chan ≤ length w.chans = subst (λ (v : Standing). c.args.chan ≤ length v.wiring.chans) (sym c.self.view_is) c.requires.to in
    let pair = get_or_read n.ends.items (c.args.chan - 1) c.index-pair.result.now (omega arith) c.index-pair.ensures no_ends in (
      subst (λ (v : Standing). StandsAt v.wiring.sites c.args.chan false c.index-pair.result.now.active) c.self.view_is (stands_at w n.ends.items c.args.chan false c.index-pair.result.now.active of c.requires.from (sym (ap (λ (p : Ends). p.active) pair))),
      subst (λ (v : Standing). StandsAt v.wiring.sites c.args.chan true c.index-pair.result.now.passive) c.self.view_is (stands_at w n.ends.items c.args.chan true c.index-pair.result.now.passive of c.requires.from (sym (ap (λ (p : Ends). p.passive) pair))),
    )
