-- A copy stands in its net as the part alone does, with what surrounds it at its ports.
use Rattle.std.proofs.Common.{◌≡◌, ◌≢◌, ℕ, suc, ◌+◌, ◌-◌, ◌<◌, ◌≤◌, inl, inr, None, Some, List, [], ◌∷◌, ◌++◌, length, map, get_or, refl, sym, ◌∙◌, ap, subst, arith, append_assoc, length-append}
use Rattle.std.specs.Prelude.{not}
use Rattle.std.specs.List.{flat_map, range_with_len}
use Rattle.std.proofs.lemmas.Bool.{cases_lt}
use Rattle.std.proofs.lemmas.Grind.{flat_map-append}
use Rattle.std.proofs.lemmas.List.{get_or-append-add, get_or-append_right, get_or-map, get_or_append_left, length-map}
use Rattle.std.proofs.lemmas.List.FromFn.{get_or-range_with_len, length-range_with_len}
use Rattle.bz_model.specs.Nets.{Site, IsPort, chan_at, no_site, passive_at, site_at}
use Rattle.bz_model.specs.Hosts.{port_is_passive}
use Rattle.bz_model.specs.Rows.{is_passive}
use Rattle.bz_flat.specs.Wires.{WellWired}
use Rattle.bz_breeze_records.specs.declared.part.Part.{Part}
use Rattle.bz_breeze_records.specs.declared.part.Component.{Component}
use Rattle.bz_elab.specs.Entries.{arranged}
use Rattle.bz_elab.specs.Paths.{Path, Place, Stop, leaf, all_places, chans_at, copied, joined, kind_in, leaf_role, leaf_site, most_instances, net, number_in, own_sites, stops}
use Rattle.bz_elab.specs.Refusals.{HasPortChannels}
use Rattle.bz_elab.specs.Growth.{IsSoundBelow}
use Rattle.bz_elab.specs.Walks.{Has}
use Rattle.bz_elab.proofs.Distinct.{Extends}
use Rattle.bz_elab.proofs.Seating.{other_one}
use Rattle.bz_run_laws.specs.Embeddings.{AreNumbers, Embedding, IsPartOf, in_part, in_whole, placed}
use Rattle.bz_run_laws.specs.Copies.{PortsDiffer, UsesPorts, copy_at}
use Rattle.bz_run_laws.proofs.Cutting.{Cut, cut-copy, lifted, within}
use Rattle.bz_run_laws.proofs.Numbers.{found}
use Rattle.bz_run_laws.proofs.Placing.{first-places, has-left, has-right, joined-above, joined-there, leaf-chans, numbered, one-place}
use Rattle.bz_run_laws.proofs.Copying.{carry, chan-number, chans, chans-numbers, count-ports, inner-place, leaf-at, place-at, place-there, sites-are, sites-on}

none-some : {X : Type 0} (x : X) → None ≡ Some x → ⊥
none-some x e = cc

both : {X : Type 0} (x y : X) → Some x ≡ Some y → x ≡ y
both x y e = cc

module _ (parts : List Part) (top part : Part) (i : ℕ) (up : Path) (e : copied parts top (i ∷ up) ≡ Some part) (sound : IsSoundBelow parts top most_instances) where
  abbrev at : Path
  at = i ∷ up

  abbrev places : List Place
  places = all_places parts top

  abbrev sites-of : List Stop → List Site
  sites-of ss = flat_map (own_sites parts top places) ss

  cut : Cut parts top at (map (within at) (stops parts part))
  cut = cut-copy parts top at part e sound.short

  abbrev front : List Site
  front = sites-of cut.before

  abbrev back : List Site
  back = sites-of cut.after

  -- as many components come first
  pub first : ℕ
  first = length front

  abbrev count : ℕ
  count = length (net parts part).sites

  abbrev numbers : List ℕ
  numbers = range_with_len (suc first) count

  abbrev emb : Embedding
  emb = copy_at parts top at part first

  abbrev mine : List Site
  mine = map (placed emb) (net parts part).sites

  sites-cut : (net parts top).sites ≡ front ++ (mine ++ back)
  sites-cut =
      sites-are parts top ∙ ap sites-of cut.is
      ∙ flat_map-append (own_sites parts top places) cut.before (map (within at) (stops parts part) ++ cut.after)
      ∙ ap (λ xs. front ++ xs) (flat_map-append (own_sites parts top places) (map (within at) (stops parts part)) cut.after
      ∙ ap (λ xs. xs ++ back) (sites-on parts top part i up e sound numbers (stops parts part) (λ s h. h) ∙ ap (map (placed emb)) (sym (sites-are parts part))))

  first-is : length front ≡ first
  unfolding first
  first-is = refl

  count-sites : length (net parts top).sites ≡ first + (count + length back)
  count-sites =
      ap length sites-cut ∙ length-append front (mine ++ back) ∙ ap (λ n. n + length (mine ++ back)) first-is
      ∙ ap (λ n. first + n) (length-append mine back ∙ ap (λ n. n + length back) (length-map (net parts part).sites (placed emb)))

  comp-is : (c : ℕ) → 0 < c → c ≤ count → in_whole numbers c ≡ first + c
  comp-is c from to =
      let sum : suc first + (c - 1) ≡ first + c = omega (arith, from) in
      get_or-range_with_len (suc first) count (c - 1) 0 (omega (arith, from, to)) ∙ sum

  comps-numbers : AreNumbers numbers count (length (net parts top).sites)
  comps-numbers = record {
    len = length-range_with_len (suc first) count;
    from = λ c from to. let is = comp-is c from to in omega (arith, is, from);
    to = λ c from to. let is = comp-is c from to in let all = count-sites in omega (arith, is, to, all);
    differ = λ c d from to d-from d-to same. let a = comp-is c from to in let b = comp-is d d-from d-to in omega (arith, a, b, same);
  }

  site-here : (c : ℕ) → 0 < c → c ≤ count → site_at (net parts top).sites (first + c) ≡ placed emb (site_at (net parts part).sites c)
  site-here c from to =
      let len = first-is in
      let index : first + c - 1 ≡ length front + (c - 1) = omega (arith, from, len) in
      let many = length-map (net parts part).sites (placed emb) in
      ap (λ ss. get_or ss (first + c - 1) no_site) sites-cut
      ∙ ap (λ j. get_or (front ++ (mine ++ back)) j no_site) index
      ∙ get_or-append-add front (mine ++ back) (c - 1) no_site
      ∙ get_or_append_left mine back no_site (c - 1) (omega (arith, from, to, many))
      ∙ get_or-map (placed emb) (net parts part).sites (c - 1) no_site no_site (omega (arith, from, to))

  found-comp : (c d : ℕ) → 0 < c → c ≤ count → first + c ≡ d → in_part numbers d ≡ Some c
  found-comp c d from to is = ap (in_part numbers) (sym (comp-is c from to ∙ is)) ∙ found numbers count (length (net parts top).sites) comps-numbers c from to

  -- ---- a component outside is of another copy

  record IsElsewhere (d : ℕ) : Type 0 where
    path : Path
    comp : Component
    is_met : Has (stops parts top) (leaf path comp)
    site_is : site_at (net parts top).sites d ≡ leaf_site parts top places path comp
    clear : Extends at path → ⊥

  abbrev inside : List Stop
  inside = map (within at) (stops parts part)

  -- one that is met before the copy, or after it
  in-front : (d : ℕ) (r : Path) (x : Component) → d - 1 < length front → Has cut.before (leaf r x) → get_or front (d - 1) no_site ≡ leaf_site parts top places r x → IsElsewhere d
  in-front d r x lt h is = record {
    path = r;
    comp = x;
    is_met = subst (λ ss. Has ss (leaf r x)) (sym cut.is) (has-left cut.before (inside ++ cut.after) (leaf r x) h);
    site_is = ap (λ ss. get_or ss (d - 1) no_site) sites-cut ∙ get_or_append_left front (mine ++ back) no_site (d - 1) lt ∙ is;
    clear = cut.clear_before r x h;
  }

  in-back : (d : ℕ) (r : Path) (x : Component) → first + count < d → Has cut.after (leaf r x) → get_or back (d - 1 - first - count) no_site ≡ leaf_site parts top places r x → IsElsewhere d
  in-back d r x past h is = record {
    path = r;
    comp = x;
    is_met = subst (λ ss. Has ss (leaf r x)) (sym cut.is) (has-right cut.before (inside ++ cut.after) (leaf r x) (has-right inside cut.after (leaf r x) h));
    site_is = ap (λ ss. get_or ss (d - 1) no_site) sites-cut
        ∙ get_or-append_right front (mine ++ back) first (d - 1) no_site first-is (omega (arith, past))
        ∙ get_or-append_right mine back count (d - 1 - first) no_site (length-map (net parts part).sites (placed emb)) (omega (arith, past)) ∙ is;
    clear = cut.clear_after r x h;
  }

  elsewhere : (d : ℕ) → 0 < d → d ≤ length (net parts top).sites → in_part numbers d ≡ None → IsElsewhere d
  elsewhere d from to none =
      let len = first-is in
      let all = count-sites in
      elim (cases_lt first d) [
        | inr le ↦
            let lt : d - 1 < length front = omega (arith, from, le, len) in
            let leaf-there = leaf-at parts top cut.before (d - 1) lt in
            in-front d leaf-there.0 leaf-there.1 lt leaf-there.2 leaf-there.3
        | inl beyond ↦ elim (cases_lt (first + count) d) [
          | inr le ↦
              let c : ℕ = d - first in
              absurd (none-some c (sym none ∙ found-comp c d (omega (arith, beyond)) (omega (arith, beyond, le)) (omega (arith, beyond))))
          | inl past ↦
              let leaf-there = leaf-at parts top cut.after (d - 1 - first - count) (omega (arith, past, to, all)) in
              in-back d leaf-there.0 leaf-there.1 past leaf-there.2 leaf-there.3
        ]
      ]

  -- one that is at a channel of the copy is in the copy
  stray : (d p k : ℕ) (q : Place) (r : Path) (x : Component) → IsPort (net parts top).sites d p → Has (stops parts top) (leaf r x) → site_at (net parts top).sites d ≡ leaf_site parts top places r x
      → Has places (lifted at q) → chan_at (net parts top).sites d p ≡ number_in places (lifted at q) → Extends at r
  stray d p k q r x port h site there same =
      let (own, is, all) = leaf-chans parts top sound r x h in
      let kind = kind_in (leaf_role x) in
      let ks = arranged kind (chans_at parts top r) x.entries.items in
      let number : ℕ → ℕ = λ c. number_in places (joined parts top r c) in
      let p-from = port.port_from in
      let p-to = port.port_to in
      let many : length (site_at (net parts top).sites d).chans ≡ length ks = ap (λ (s : Site). length s.chans) site ∙ length-map ks number in
      let lt : p - 1 < length ks = omega (arith, p-from, p-to, many) in
      let c : ℕ = get_or ks (p - 1) 0 in
      let within-own = all kind (chans_at parts top r) (p - 1) 0 lt in
      let has = joined-there parts top sound r own c is within-own.0 within-own.1 in
      let read : chan_at (net parts top).sites d p ≡ number c = ap (λ (s : Site). get_or s.chans (p - 1) 0) site ∙ get_or-map number ks (p - 1) 0 0 lt in
      let place = one-place parts top (joined parts top r c) (lifted at q) has there (sym read ∙ same) in
      let (xs, ext) = joined-above parts top r c in
      (xs ++ q.path, ext ∙ ap (λ ys. xs ++ ys) (ap (λ (z : Place). z.path) place) ∙ sym (append_assoc xs q.path at))

  module _ (top-ports : HasPortChannels top) (has-ports : HasPortChannels part) (differ : PortsDiffer parts top at part)
      (wired : WellWired (net parts top)) (own : WellWired (net parts part)) (used : UsesPorts (net parts part)) where
    abbrev on : List ℕ
    on = chans parts top part i up e sound

    -- an inner channel, and its place
    inner-number : (k : ℕ) → length (net parts part).ports < k → k ≤ length (net parts part).chans → (q : Place) × Has places (lifted at q) × (in_whole on k ≡ number_in places (lifted at q))
    inner-number k beyond to =
        let ports = count-ports parts part in
        let (q, is, h) = place-at parts top part i up e sound k (omega (arith, beyond)) to in
        let place = inner-place parts top part i up e sound q k is h (omega (arith, ports, beyond)) in
        (q, subst (Has places) place (place-there parts top part i up e sound q h), chan-number parts top part i up e sound q k is ∙ ap (number_in places) place)

    alone : (k d p : ℕ) → length (net parts part).ports < k → k ≤ length (net parts part).chans → IsPort (net parts top).sites d p
        → chan_at (net parts top).sites d p ≡ in_whole on k → in_part numbers d ≢ None
    alone k d p beyond to port same none =
        let (q, there, number) = inner-number k beyond to in
        let other = elsewhere d port.comp_from port.comp_to none in
        other.clear (stray d p k q other.path other.comp port other.is_met other.site_is there (same ∙ number))

    hidden : (k : ℕ) → length (net parts part).ports < k → k ≤ length (net parts part).chans → length (net parts top).ports < in_whole on k
    hidden k beyond to =
        let (q, there, number) = inner-number k beyond to in
        let (from, at-number) = numbered parts top (lifted at q) there in
        let n : ℕ = number_in places (lifted at q) in
        let ports = count-ports parts top in
        elim (cases_lt (length (net parts top).ports) (in_whole on k)) [
          | inl lt ↦ lt
          | inr le ↦
              let first-one = first-places parts top n from (omega (arith, le, number, ports, top-ports)) in
              let same : lifted at q ≡ record { path = []; number = n } = both (lifted at q) (record { path = []; number = n }) (sym at-number ∙ first-one.1) in
              let paths : q.path ++ at ≡ [] = ap (λ (z : Place). z.path) same in
              let len = sym (length-append q.path at) ∙ ap length paths in
              absurd (omega (arith, len))
        ]

    -- ---- ports

    -- the component at a port, and it is in the whole as in the part
    record IsHeld (k : ℕ) : Type 0 where
      comp : ℕ
      port : ℕ
      is_comp : in_part numbers (first + comp) ≡ Some comp
      is_port : IsPort (net parts top).sites (first + comp) port
      on_chan : chan_at (net parts top).sites (first + comp) port ≡ in_whole on k
      sense : passive_at (net parts top).sites (first + comp) port ≡ port_is_passive (net parts part).ports k

    held : (k : ℕ) → 0 < k → k ≤ length (net parts part).ports → IsHeld k
    held k from to =
        let (c, p, end) = used k from to in
        let port = end.is_port in
        let c-from = port.comp_from in
        let c-to = port.comp_to in
        let p-from = port.port_from in
        let p-to = port.port_to in
        let all = count-sites in
        let site = site-here c c-from c-to in
        let many : length (site_at (net parts top).sites (first + c)).chans ≡ length (site_at (net parts part).sites c).chans =
        ap (λ (s : Site). length s.chans) site ∙ length-map (site_at (net parts part).sites c).chans (in_whole on) in
        record {
          comp = c;
          port = p;
          is_comp = found-comp c (first + c) c-from c-to refl;
          is_port = record { comp_from = omega (arith, c-from); comp_to = omega (arith, c-to, all); port_from = p-from; port_to = omega (arith, p-to, many) };
          on_chan = ap (λ (s : Site). get_or s.chans (p - 1) 0) site ∙ get_or-map (in_whole on) (site_at (net parts part).sites c).chans (p - 1) 0 0 (omega (arith, p-from, p-to)) ∙ ap (in_whole on) end.on;
          sense = ap (λ (s : Site). is_passive s.kind s.sizes p) site ∙ end.sense;
        }

    facing : (k d p : ℕ) → 0 < k → k ≤ length (net parts part).ports → IsPort (net parts top).sites d p
        → chan_at (net parts top).sites d p ≡ in_whole on k → in_part numbers d ≡ None
        → passive_at (net parts top).sites d p ≡ not (port_is_passive (net parts part).ports k)
    facing k d p from to port same none =
        let here = held k from to in
        other_one (passive_at (net parts top).sites d p) (port_is_passive (net parts part).ports k) (λ alike.
        let one = wired.one_end d p (first + here.comp) here.port port here.is_port (same ∙ sym here.on_chan) (alike ∙ sym here.sense) in
        none-some here.comp (sym none ∙ ap (in_part numbers) one.0 ∙ here.is_comp))

    passed : (k : ℕ) → 0 < k → k ≤ length (net parts part).ports → in_whole on k ≤ length (net parts top).ports
        → port_is_passive (net parts top).ports (in_whole on k) ≡ port_is_passive (net parts part).ports k
    passed k from to outer =
        let here = held k from to in
        let host = wired.host_end (first + here.comp) here.port here.is_port (subst (λ n. n ≤ length (net parts top).ports) (sym here.on_chan) outer) in
        ap (port_is_passive (net parts top).ports) (sym here.on_chan) ∙ sym host ∙ here.sense

    pub is-part : IsPartOf (net parts part) (net parts top) emb
    is-part = record {
      comps = comps-numbers;
      chans = chans-numbers parts top part i up e sound has-ports differ;
      sites = λ c from to. ap (site_at (net parts top).sites) (comp-is c from to) ∙ site-here c from to;
      carry = carry parts top part i up e sound;
      alone = alone;
      hidden = hidden;
      facing = facing;
      passed = passed;
    }
