-- The wiring of a part whose walk has ended.
use Rattle.std.proofs.Common.{◌≡◌, ℕ, zero, suc, ◌-◌, ◌<◌, ◌≤◌, ◌^◌, Bool, Some, List, [], length, map, inl, inr, refl, sym, ap, subst, arith, get_or, length-append, ◌∷◌}
use Rattle.std.specs.List.{AllByRecursion, flat_map}
use Rattle.std.proofs.lemmas.Bool.Decides.{leb_tells}
use Rattle.std.proofs.lemmas.List.{length-map, get_or_append_left, get_or_past}
use Rattle.bz_model.specs.declared.channel.Chan.{Chan}
use Rattle.bz_model.specs.declared.channel.ChanKind.TheVariants.{Sync}
use Rattle.bz_model.specs.declared.channel.TheConstants.{MAX_WIDTH}
use Rattle.bz_model.specs.declared.names.Port.{Port}
use Rattle.bz_model.specs.Names.{External, external}
use Rattle.bz_model.specs.Nets.{Site, IsPort, no_site, site_at, chan_at, chan_in}
use Rattle.bz_breeze_records.specs.declared.part.Part.{Part}
use Rattle.bz_breeze_records.specs.Parts.{IsFit}
use Rattle.bz_flat.specs.declared.flat.Ends.{Ends}
use Rattle.bz_flat.specs.declared.flat.FlatComp.{FlatComp}
use Rattle.bz_elab.specs.declared.walk.Draft.{Draft}
use Rattle.bz_flat.specs.Flats.{site_of, sites_of, wiring_of}
use Rattle.bz_elab.specs.Paths.{stops, net, all_places, own_chans, most_instances}
use Rattle.bz_elab.specs.Refusals.{HasPortChannels, IsTooDeep}
use Rattle.bz_flat.specs.Wires.{WellWired, EndsOf, end_at}
use Rattle.bz_elab.specs.Seats.{CompsFit, WellEnded}
use Rattle.bz_elab.specs.Growth.{IsNet, IsSoundBelow, Within, below_copy}
use Rattle.bz_elab.proofs.Distinct.{places_are_different, sites_are}
use Rattle.bz_elab.proofs.Meeting.{IsPlaced, comps_placed}

pub net_is : (parts : List Part) (top : Part) (d : Draft) → IsNet parts top d → wiring_of d.chans d.comps top.ports.items ≡ net parts top
unfolding net
net_is parts top d n =
    let sites = sites_are parts top (all_places parts top) (stops parts top) d.comps (places_are_different parts top) n.leaves in
    rw (n.chans_are, sites) refl

pub placed : (parts : List Part) (top : Part) (d : Draft) (c : ℕ) → IsNet parts top d → IsSoundBelow parts top most_instances → c < length d.comps
    → IsPlaced d.chans d.ends (get_or (sites_of d.comps) c no_site)
placed parts top d c n s lt =
    rw (n.chans_are, n.ends_are) (comps_placed parts top (all_places parts top) d.comps c no_site s refl n.leaves lt)

pub comps_fit : (parts : List Part) (top : Part) (d : Draft) → IsNet parts top d → IsSoundBelow parts top most_instances → Within d → CompsFit (length d.chans) (sites_of d.comps)
comps_fit parts top d n s w =
    let many : length (sites_of d.comps) ≡ length d.comps = length-map d.comps site_of in
    record {
      few = let k = w.chans_few in omega arith;
      comps_few = let k = w.comps_few in omega arith;
      each = λ c from to.
          let p = placed parts top d (c - 1) n s (omega (arith, many, from, to)) in
          (let a = p.few in let b = w.ends_few in omega arith, p.within);
    }

-- the top's own channels are the first ones
own_first : (parts : List Part) (top : Part) → length top.channels.items ≤ length (flat_map own_chans (stops parts top))
unfolding stops
own_first parts top =
    let rest = below_copy parts [] most_instances top in
    omega (arith, length-append top.channels.items (flat_map own_chans rest))

ports_are_few : (parts : List Part) (top : Part) (d : Draft) → IsNet parts top d → IsSoundBelow parts top most_instances → Within d → (c : ℕ) → length (site_at (sites_of d.comps) c).chans < 2 ^ 32
ports_are_few parts top d n s w c = elim (leb_tells (length d.comps) (c - 1)) [
  | inl h ↦
      let many : length (sites_of d.comps) ≡ length d.comps = length-map d.comps site_of in
      let none : site_at (sites_of d.comps) c ≡ no_site = get_or_past (sites_of d.comps) (c - 1) no_site (omega (arith, h.1, many)) in
      let zero : length (site_at (sites_of d.comps) c).chans ≡ 0 = ap (λ (x : Site). length x.chans) none in
      omega (arith, zero)
  | inr h ↦ let p = placed parts top d (c - 1) n s h.1 in let a = p.few in let b = w.ends_few in omega arith
]

narrow_at : (xs : List Chan) (i : ℕ) (d : Chan) → AllByRecursion (λ c. c.width ≤ MAX_WIDTH) xs → i < length xs → (get_or xs i d).width ≤ MAX_WIDTH
narrow_at [] i d narrow lt = absurd (omega arith)
narrow_at (c ∷ cs) zero d narrow lt = narrow.0
narrow_at (c ∷ cs) (suc i) d narrow lt = narrow_at cs i d narrow.1 (omega arith)

-- a port's channel is one of the top's own
port_narrow : (parts : List Part) (top : Part) (k : ℕ) → IsFit top → HasPortChannels top → 0 < k → k ≤ length top.ports.items → (chan_in (flat_map own_chans (stops parts top)) k).width ≤ MAX_WIDTH
unfolding stops
port_narrow parts top k good whole from to =
    let rest = below_copy parts [] most_instances top in
    let none : Chan = record { kind = Sync; width = 0 } in
    subst (λ (c : Chan). c.width ≤ MAX_WIDTH) (sym (get_or_append_left top.channels.items (flat_map own_chans rest) none (k - 1) (omega (arith, from, to, whole))))
    (narrow_at top.channels.items (k - 1) none good.narrow (omega (arith, from, to, whole)))

pub well_wired : (parts : List Part) (top : Part) (d : Draft) (ends : List Ends) → IsNet parts top d → IsSoundBelow parts top most_instances → Within d → HasPortChannels top → IsFit top
    → WellEnded (sites_of d.comps) (map external top.ports.items) ends → WellWired (wiring_of d.chans d.comps top.ports.items)
well_wired parts top d ends n s w whole good e =
    let fit = comps_fit parts top d n s w in
    let at : (c p : ℕ) → IsPort (sites_of d.comps) c p → (0 < chan_at (sites_of d.comps) c p) × (chan_at (sites_of d.comps) c p ≤ length d.chans) =
    λ c p is. (fit.each c is.comp_from is.comp_to).1 (p - 1) (let a = is.port_from in let b = is.port_to in omega arith) in
    let many : length (sites_of d.comps) ≡ length d.comps = length-map d.comps site_of in
    record {
      chan_from = λ c p is. (at c p is).0;
      chan_to = λ c p is. (at c p is).1;
      one_end = e.one_end;
      host_end = e.host_end;
      other_end = e.other_end;
      rows = λ c from to. (placed parts top d (c - 1) n s (omega (arith, many, from, to))).meets;
      ports_to = let a = length-map top.ports.items external in let b = own_first parts top in let k = ap length n.chans_are in omega (arith, a, b, k, whole);
      names_differ = good.names_differ;
      ports_narrow = λ k from to. rw n.chans_are (port_narrow parts top k good whole from (omega (arith, length-map top.ports.items external, to)));
      chans_few = w.chans_few;
      comps_few = let k = w.comps_few in omega (arith, many);
      ports_few = ports_are_few parts top d n s w;
    }

pub ends_of : (chans : List Chan) (comps : List FlatComp) (ports : List Port) (ends : List Ends) → length ends ≡ length chans → WellEnded (sites_of comps) (map external ports) ends
    → EndsOf (wiring_of chans comps ports) ends
ends_of chans comps ports ends len e = record {
  ends_len = len;
  finds = e.finds;
  stands = record { from = from; to = to };
  holds = e.holds;
}
  where
    from : (k c : ℕ) (side : Bool) → end_at ends k side ≡ Some c → 0 < c
    from zero c side h = (e.holds 1 c side (omega arith) h).is_port.comp_from
    from (suc k) c side h = (e.holds (suc k) c side (omega arith) h).is_port.comp_from

    to : (k c : ℕ) (side : Bool) → end_at ends k side ≡ Some c → c ≤ length (sites_of comps)
    to zero c side h = (e.holds 1 c side (omega arith) h).is_port.comp_to
    to (suc k) c side h = (e.holds (suc k) c side (omega arith) h).is_port.comp_to

pub ports_within : (parts : List Part) (top : Part) (d : Draft) → IsNet parts top d → HasPortChannels top → length top.ports.items ≤ length d.chans
ports_within parts top d n whole = let a = own_first parts top in let k = ap length n.chans_are in omega (arith, a, k, whole)

-- ports of the same names and senses make the same wiring
pub same_ports : (chans : List Chan) (comps : List FlatComp) (ports others : List Port) → map external ports ≡ map external others → wiring_of chans comps ports ≡ wiring_of chans comps others
same_ports chans comps ports others e = ap (λ (es : List External). record { chans = chans; sites = sites_of comps; ports = es }) e

pub not_too_deep : (parts : List Part) (top : Part) → IsSoundBelow parts top most_instances → IsTooDeep parts top → ⊥
not_too_deep parts top s h = let short = s.short h.path h.part h.reached in let long = h.long in omega arith
