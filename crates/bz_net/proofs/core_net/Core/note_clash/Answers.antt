use Rattle.std.proofs.Common.{◌≡◌, ◌-◌, true, length, map, sym, ap, subst, arith, ◌∙◌}
use Rattle.std.proofs.lemmas.List.{get_or_read, length-map}
use Rattle.bz_flat.specs.declared.flat.Ends.{Ends}
use Rattle.bz_flat.specs.Wires.{ends_in, no_ends, at_side}
use Rattle.bz_model.specs.Nets.{Wiring}
use Rattle.bz_flat.specs.Flats.{site_of}
use Rattle.bz_net.specs.Core.{Standing}
use Rattle.bz_net.specs.Noted.{IsHolder, NotedAt, WatchesBut}
use Rattle.bz_net.proofs.Cores.{core_reads}
use Rattle.bz_net.proofs.Stands.{in_range, holder_at}
use Rattle.bz_net.specs.Nodes.{comps_of, heres_of}
use Rattle.bz_net.proofs.core_net.Core.note_clash.Goals as goal

pub note_clash-requires-clause-reads : goal.note_clash-requires-clause-reads
note_clash-requires-clause-reads c =
    let n = c.self.inside in
    let w : Wiring = record { chans = n.names.chans; sites = map site_of n.sites; ports = n.names.ports } in
    (core_reads w n.phases (comps_of n.nodes) (heres_of n.nodes) n.ends.items n.ready c.self.invariant.0)

pub note_clash-requires-clause-ends : goal.note_clash-requires-clause-ends
note_clash-requires-clause-ends c d p q one other on sense = (c.self.invariant.0.wired.one_end d p d q one other on sense).1

pub note_clash-requires-clause-to : goal.note_clash-requires-clause-to
note_clash-requires-clause-to c =
    let to = c.requires.to in
    let same = ap (λ (v : Standing). length v.wiring.chans) c.self.view_is in
    let len = c.self.invariant.0.tied.phases_len in
    omega (arith, to, same, len)

pub note_clash-requires-clause-holder : goal.note_clash-requires-clause-holder
note_clash-requires-clause-holder c =
    let n = c.self.inside in
    let w : Wiring = record { chans = n.names.chans; sites = map site_of n.sites; ports = n.names.ports } in
    let to = c.requires.to in
    let same = ap (λ (v : Standing). length v.wiring.chans) c.self.view_is in
    let len = c.self.invariant.0.ends_of.ends_len in
    let from = c.requires.from in
    let pair_is : c.index-pair.result.now ≡ ends_in n.ends.items c.args.chan = get_or_read n.ends.items (c.args.chan - 1) c.index-pair.result.now (omega (arith, to, same, len, from)) c.index-pair.ensures no_ends in
    subst (λ (p : Ends). IsHolder w.sites c.args.chan (at_side p true)) (sym pair_is) (holder_at w n.ends.items c.args.chan c.self.invariant.0.ends_of from)

pub note_clash-requires-clause-end : goal.note_clash-requires-clause-end
note_clash-requires-clause-end c =
    let n = c.self.inside in
    let to = c.requires.to in
    let same = ap (λ (v : Standing). length v.wiring.chans) c.self.view_is in
    let len = c.self.invariant.0.ends_of.ends_len in
    let from = c.requires.from in
    let pair_is : c.index-pair.result.now ≡ ends_in n.ends.items c.args.chan = get_or_read n.ends.items (c.args.chan - 1) c.index-pair.result.now (omega (arith, to, same, len, from)) c.index-pair.ensures no_ends in
    in_range n.sites n.ends.items c.args.chan true c.index-pair.result.now.passive c.self.invariant.0.ends_of.stands (ap (λ (p : Ends). at_side p true) (sym pair_is))

pub note_clash-requires-clause-most : goal.note_clash-requires-clause-most
note_clash-requires-clause-most c =
    let n = c.self.inside in
    c.requires.most ∙ sym (ap (λ (v : Standing). length v.wiring.sites) c.self.view_is) ∙ length-map n.sites site_of

pub note_clash-requires-clause-watches : goal.note_clash-requires-clause-watches
note_clash-requires-clause-watches c =
    subst (λ (v : Standing). WatchesBut c.args.chan v.wiring.sites v.state.phases c.args.noted.now) (sym c.self.view_is) c.requires.watches

pub returns : goal.returns
returns c =
    subst (λ (v : Standing). NotedAt v.wiring.sites v.state.phases c.args.noted.now c.note_clash.new.noted c.args.chan) c.self.view_is c.note_clash.ensures
