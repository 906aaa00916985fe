-- The net of a part is a part of each net in which it has a copy.
use Rattle.std.proofs.Common.{◌≡◌, ℕ, zero, suc, ◌+◌, ◌-◌, ◌<◌, ◌≤◌, inl, inr, Some, List, [], ◌∷◌, ◌++◌, length, map, drop, get_or, refl, sym, ◌∙◌, ap, ap₂, subst, arith, length-append, slice_get}
use Rattle.std.specs.List.{flat_map}
use Rattle.std.specs.Option.{option_map}
use Rattle.std.proofs.lemmas.Bool.{cases_lt}
use Rattle.std.proofs.lemmas.List.{append_cancel_right, drop_all, drop_more, ext_get_or, get_or-map, length-map, map-append}
use Rattle.std.proofs.lemmas.Option.{get_or_from_slice_get, slice_get-get_or, slice_get-map, slice_get_within}
use Rattle.bz_model.specs.declared.channel.Chan.{Chan}
use Rattle.bz_model.specs.declared.channel.ChanKind.TheVariants.{Sync}
use Rattle.bz_model.specs.declared.kind.Kind.{Kind}
use Rattle.bz_model.specs.Names.{external}
use Rattle.bz_model.specs.Nets.{chan_in, no_site}
use Rattle.bz_breeze_records.specs.declared.part.Part.{Part}
use Rattle.bz_breeze_records.specs.declared.part.Component.{Component}
use Rattle.bz_elab.specs.Entries.{arranged}
use Rattle.bz_elab.specs.Paths.{Path, Place, Stop, copy, leaf, actual, all_places, chans_at, chans_of_copy, copied, joined, kind_in, leaf_role, leaf_site, most_instances, net, number_in, own_chans, own_places, own_sites, places_from, ports_at, stops}
use Rattle.bz_elab.specs.Refusals.{HasPortChannels, IsChannel}
use Rattle.bz_elab.specs.Growth.{IsNumber, IsSoundBelow}
use Rattle.bz_elab.specs.Walks.{Has}
use Rattle.bz_elab.proofs.Meeting.{joined_chan}
use Rattle.bz_run_laws.specs.Embeddings.{AreNumbers, Embedding, in_whole, placed}
use Rattle.bz_run_laws.specs.Copies.{PortsDiffer}
use Rattle.bz_run_laws.proofs.Cutting.{copied-below, joined-below, lifted, within}
use Rattle.bz_run_laws.proofs.Placing.{first-places, joined-above, joined-there, leaf-chans, met, number-of, numbered, one-place, own-joined, own-of, port-joined}

-- ---- the channel at a number is that of its place

abbrev no-chan : Chan
no-chan = record { kind = Sync; width = 0 }

abbrev no-place : Place
no-place = record { path = []; number = 0 }

get-has : {X : Type 0} (xs : List X) (i : ℕ) (x : X) → slice_get xs i ≡ Some x → Has xs x
get-has [] i x e = absurd (cc)
get-has (y ∷ ys) zero x e = inl (cc)
get-has (y ∷ ys) (suc i) x e = inr (get-has ys i x e)

both : {X : Type 0} (x y : X) → Some x ≡ Some y → x ≡ y
both x y e = cc

module _ (parts : List Part) (top : Part) where
  abbrev chan-of : Place → Chan
  chan-of p = chan_in (chans_of_copy (copied parts top p.path)) p.number

  places-chans : (part : Part) (path : Path) (p n : ℕ) → copied parts top path ≡ Some part → n ≡ length part.channels.items - p
      → map chan-of (places_from path (suc p) n) ≡ drop p part.channels.items
  places-chans part path p zero at e = sym (drop_all p part.channels.items (omega (arith, e)))
  places-chans part path p (suc n) at e =
      let lt : p < length part.channels.items = omega (arith, e) in
      let z : suc p - 1 ≡ p = omega arith in
      let here : chan-of (record { path = path; number = suc p }) ≡ get_or part.channels.items p no-chan = ap (λ o. chan_in (chans_of_copy o) (suc p)) at ∙ ap (λ i. get_or part.channels.items i no-chan) z in
      let rest = places-chans part path (suc p) n at (omega (arith, e)) in
      let s : p + 1 ≡ suc p = omega arith in
      ap (λ x. x ∷ map chan-of (places_from path (suc (suc p)) n)) here ∙ (ap (λ xs. get_or part.channels.items p no-chan ∷ xs) rest
      ∙ (ap (λ k. get_or part.channels.items p no-chan ∷ drop k part.channels.items) (sym s) ∙ sym (drop_more part.channels.items p no-chan lt)))

  stop-chans : (s : Stop) → Has (stops parts top) s → map chan-of (own_places s) ≡ own_chans s
  stop-chans (leaf path c) h = refl
  stop-chans (copy path part) h =
      let (at, stands) = met parts top (copy path part) h in
      places-chans part path (ports_at path part) (length part.channels.items - ports_at path part) stands.1 refl

  stops-chans : (ss : List Stop) → ((s : Stop) → Has ss s → Has (stops parts top) s) → map chan-of (flat_map own_places ss) ≡ flat_map own_chans ss
  stops-chans [] among = refl
  stops-chans (s ∷ ss) among =
      map-append chan-of (own_places s) (flat_map own_places ss)
      ∙ ap (λ xs. xs ++ map chan-of (flat_map own_places ss)) (stop-chans s (among s (inl refl)))
      ∙ ap (λ xs. own_chans s ++ xs) (stops-chans ss (λ t h. among t (inr h)))

  chans-are : (net parts top).chans ≡ map chan-of (all_places parts top)
  unfolding net
  chans-are = sym (stops-chans (stops parts top) (λ s h. h))

  chan-at-number : (p : Place) (k : ℕ) → IsNumber (all_places parts top) p k → chan_in (net parts top).chans k ≡ chan-of p
  chan-at-number p k is =
      ap (λ cs. chan_in cs k) chans-are
      ∙ get_or_from_slice_get (map chan-of (all_places parts top)) (k - 1) (chan-of p) no-chan (slice_get-map chan-of (all_places parts top) (k - 1) ∙ ap (option_map chan-of) is.1)

  count-chans : length (net parts top).chans ≡ length (all_places parts top)
  count-chans = ap length chans-are ∙ length-map (all_places parts top) chan-of

  pub sites-are : (net parts top).sites ≡ flat_map (own_sites parts top (all_places parts top)) (stops parts top)
  unfolding net
  sites-are = refl

  pub count-ports : length (net parts top).ports ≡ length top.ports.items
  unfolding net
  count-ports = length-map top.ports.items external

  -- each site is that of a component that is met
  pub leaf-at : (ss : List Stop) (k : ℕ) → k < length (flat_map (own_sites parts top (all_places parts top)) ss)
      → (r : Path) × (x : Component) × Has ss (leaf r x) × (get_or (flat_map (own_sites parts top (all_places parts top)) ss) k no_site ≡ leaf_site parts top (all_places parts top) r x)
  leaf-at [] k lt = absurd (omega (arith, lt))
  leaf-at (copy path part ∷ ss) k lt = let (r, x, h, is) = leaf-at ss k lt in (r, x, inr h, is)
  leaf-at (leaf path c ∷ ss) zero lt = (path, c, inl refl, refl)
  leaf-at (leaf path c ∷ ss) (suc k) lt = let (r, x, h, is) = leaf-at ss k (omega (arith, lt)) in (r, x, inr h, is)

-- ---- the copy at a path

module _ (parts : List Part) (top part : Part) (i : ℕ) (up : Path) (e : copied parts top (i ∷ up) ≡ Some part) (sound : IsSoundBelow parts top most_instances) where
  abbrev at : Path
  at = i ∷ up

  abbrev places : List Place
  places = all_places parts top

  abbrev mine : List Place
  mine = all_places parts part

  abbrev place-on : Place → Place
  place-on p = joined parts top (p.path ++ at) p.number

  abbrev number-on : Place → ℕ
  number-on p = number_in places (place-on p)

  abbrev pub chans : List ℕ
  chans = map number-on mine

  sound-part : IsSoundBelow parts part most_instances
  sound-part = record {
    short = λ below q is. (let long = sound.short (below ++ at) q (copied-below parts top part at e below ∙ is) in let sum = length-append below at in omega (arith, long, sum));
    sound = λ below q is. sound.sound (below ++ at) q (copied-below parts top part at e below ∙ is);
  }

  -- ---- its channels

  pub place-there : (p : Place) → Has mine p → Has places (place-on p)
  place-there p h =
      let own = own-of parts part p h in
      let beyond = own.beyond in
      joined-there parts top sound (p.path ++ at) own.part p.number (copied-below parts top part at e p.path ∙ own.at) (omega (arith, beyond)) own.to

  pub place-at : (k : ℕ) → 0 < k → k ≤ length (net parts part).chans → (p : Place) × IsNumber mine p k × Has mine p
  place-at k from to =
      let len = count-chans parts part in
      let p = get_or mine (k - 1) no-place in
      let is = slice_get-get_or mine (k - 1) no-place (omega (arith, from, to, len)) in
      (p, (from, is), get-has mine (k - 1) p is)

  pub chan-number : (p : Place) (k : ℕ) → IsNumber mine p k → in_whole chans k ≡ number-on p
  chan-number p k is = get_or_from_slice_get (map number-on mine) (k - 1) (number-on p) 0 (slice_get-map number-on mine (k - 1) ∙ ap (option_map number-on) is.1)

  -- the place of a port, and that of another channel
  port-place : (p : Place) (k : ℕ) → HasPortChannels part → IsNumber mine p k → k ≤ length part.ports.items → p ≡ record { path = []; number = k }
  port-place p k has is to =
      let first = first-places parts part k is.0 (omega (arith, to, has)) in
      both p (record { path = []; number = k }) (sym is.1 ∙ first.1)

  pub inner-place : (p : Place) (k : ℕ) → IsNumber mine p k → Has mine p → length part.ports.items < k → place-on p ≡ lifted at p
  inner-place p k is h beyond = by p.path p.number refl
    where
      by : (q : Path) (c : ℕ) → p ≡ record { path = q; number = c } → place-on p ≡ lifted at p
      by [] c same =
          let own = own-of parts part p h in
          let from = own.beyond in
          let none : p.path ≡ [] = ap (λ (r : Place). r.path) same in
          let is-c : p.number ≡ c = ap (λ (r : Place). r.number) same in
          let part-is : part ≡ own.part = both part own.part (ap (copied parts part) (sym none) ∙ own.at) in
          let to : c ≤ length part.channels.items = subst (λ n. n ≤ length part.channels.items) is-c (subst (λ (q : Part). p.number ≤ length q.channels.items) (sym part-is) own.to) in
          let first = first-places parts part c (omega (arith, from, is-c)) to in
          let number : c ≡ k = sym (number-of parts part (record { path = []; number = c }) c first) ∙ ap (number_in mine) (sym same) ∙ number-of parts part p k is in
          ap place-on same ∙ own-joined parts top sound i up part e c (omega (arith, number, beyond)) ∙ ap (lifted at) (sym same)
      by (j ∷ q) c same =
          let own = own-of parts part p h in
          let path : p.path ≡ j ∷ q = ap (λ (r : Place). r.path) same in
          let is-c : p.number ≡ c = ap (λ (r : Place). r.number) same in
          let there : copied parts top (j ∷ q ++ at) ≡ Some own.part = copied-below parts top part at e (j ∷ q) ∙ ap (copied parts part) (sym path) ∙ own.at in
          let more : length own.part.ports.items < c = subst (λ n. n < c) (ap (λ r. ports_at r own.part) path) (subst (λ n. ports_at p.path own.part < n) is-c own.beyond) in
          ap place-on same ∙ own-joined parts top sound j (q ++ at) own.part there c more ∙ ap (lifted at) (sym same)

  module _ (has-ports : HasPortChannels part) (differ : PortsDiffer parts top at part) where
    -- a port's channel lies above the copy, another one in it
    port-above : (k : ℕ) (p : Place) → k ≤ length part.ports.items → joined parts top at k ≡ lifted at p → ⊥
    port-above k p to same =
        let a : ℕ = actual parts top up i k in
        let (xs, ext) = joined-above parts top up a in
        let path : (joined parts top up a).path ≡ p.path ++ at = ap (λ (q : Place). q.path) (sym (port-joined parts top sound i up part e k to) ∙ same) in
        let n = ap length ext ∙ length-append xs (joined parts top up a).path in
        let m = ap length path ∙ length-append p.path at in
        omega (arith, n, m)

    chans-differ : (k j : ℕ) (p q : Place) → IsNumber mine p k → IsNumber mine q j → Has mine p → Has mine q → place-on p ≡ place-on q → k ≡ j
    chans-differ k j p q is-p is-q has-p has-q same = elim (cases_lt (length part.ports.items) k) [
      | inl k-inner ↦ elim (cases_lt (length part.ports.items) j) [
        | inl j-inner ↦
            let there : lifted at p ≡ lifted at q = sym (inner-place p k is-p has-p k-inner) ∙ same ∙ inner-place q j is-q has-q j-inner in
            let path : p.path ≡ q.path = append_cancel_right p.path q.path at (ap (λ (r : Place). r.path) there) in
            let number : p.number ≡ q.number = ap (λ (r : Place). r.number) there in
            let one : p ≡ q = (λ n. record { path = path n; number = number n }) in
            sym (number-of parts part p k is-p) ∙ ap (number_in mine) one ∙ number-of parts part q j is-q
        | inr j-port ↦ absurd (port-above j p j-port (sym (ap place-on (port-place q j has-ports is-q j-port)) ∙ sym same ∙ inner-place p k is-p has-p k-inner))
      ]
      | inr k-port ↦ elim (cases_lt (length part.ports.items) j) [
        | inl j-inner ↦ absurd (port-above k q k-port (sym (ap place-on (port-place p k has-ports is-p k-port)) ∙ same ∙ inner-place q j is-q has-q j-inner))
        | inr j-port ↦ differ k j is-p.0 k-port is-q.0 j-port (sym (ap place-on (port-place p k has-ports is-p k-port)) ∙ same ∙ ap place-on (port-place q j has-ports is-q j-port))
      ]
    ]

    pub chans-numbers : AreNumbers chans (length (net parts part).chans) (length (net parts top).chans)
    chans-numbers = record {
      len = length-map mine number-on ∙ sym (count-chans parts part);
      from = λ k from to.
          let (p, is, h) = place-at k from to in
          subst (λ n. 0 < n) (sym (chan-number p k is)) (numbered parts top (place-on p) (place-there p h)).0;
      to = λ k from to.
          let (p, is, h) = place-at k from to in
          let (n-from, n-is) = numbered parts top (place-on p) (place-there p h) in
          let lt = slice_get_within places (number-on p - 1) (place-on p) n-is in
          let number = chan-number p k is in
          let len = count-chans parts top in
          omega (arith, n-from, lt, number, len);
      differ = λ k j from to j-from j-to same.
          let (p, is-p, has-p) = place-at k from to in
          let (q, is-q, has-q) = place-at j j-from j-to in
          chans-differ k j p q is-p is-q has-p has-q
          (one-place parts top (place-on p) (place-on q) (place-there p has-p) (place-there q has-q) (sym (chan-number p k is-p) ∙ same ∙ chan-number q j is-q));
    }

  -- a channel of the copy is of the kind and width that it has in the part
  pub carry : (k : ℕ) → 0 < k → k ≤ length (net parts part).chans → chan_in (net parts top).chans (in_whole chans k) ≡ chan_in (net parts part).chans k
  carry k from to =
      let (p, is, h) = place-at k from to in
      let own = own-of parts part p h in
      let beyond = own.beyond in
      let there = place-there p h in
      let copied-there : copied parts top (p.path ++ at) ≡ Some own.part = copied-below parts top part at e p.path ∙ own.at in
      let above = own-of parts top (place-on p) there in
      let same = joined_chan parts top most_instances (p.path ++ at) own.part p.number sound copied-there (omega (arith, beyond)) own.to in
      let outer : chan-of parts top (place-on p) ≡ chan_in own.part.channels.items p.number =
      ap (λ o. chan_in (chans_of_copy o) (place-on p).number) above.at ∙ (rw above.at at same) in
      ap (chan_in (net parts top).chans) (chan-number p k is)
      ∙ chan-at-number parts top (place-on p) (number-on p) (numbered parts top (place-on p) there)
      ∙ outer
      ∙ sym (chan-at-number parts part p k is ∙ ap (λ o. chan_in (chans_of_copy o) p.number) own.at)

  -- ---- its components

  module _ (comps : List ℕ) where
    abbrev emb : Embedding
    emb = record { comps = comps; chans = chans }

    -- a component's channel is where the part's is
    chan-on : (r : Path) (q : Part) (c : ℕ) → copied parts part r ≡ Some q → IsChannel q.channels.items c
        → number_in places (joined parts top (r ++ at) c) ≡ in_whole chans (number_in mine (joined parts part r c))
    chan-on r q c is (from, to) =
        let p = joined parts part r c in
        let h = joined-there parts part sound-part r q c is from to in
        ap (number_in places) (joined-below parts top part at e r c) ∙ sym (chan-number p (number_in mine p) (numbered parts part p h))

    site-on : (r : Path) (x : Component) → Has (stops parts part) (leaf r x) → leaf_site parts top places (r ++ at) x ≡ placed emb (leaf_site parts part mine r x)
    site-on r x h =
        let (q, is, all) = leaf-chans parts part sound-part r x h in
        let kind : Kind = kind_in (leaf_role x) in
        let own = chans_at parts part r in
        let ks = arranged kind own x.entries.items in
        let outer : ℕ → ℕ = λ k. number_in places (joined parts top (r ++ at) k) in
        let inner : ℕ → ℕ = λ k. number_in mine (joined parts part r k) in
        let len = length-map ks outer in
        let len-inner = length-map ks inner in
        let same : map outer ks ≡ map (in_whole chans) (map inner ks) =
        ext_get_or 0 (map outer ks) (map (in_whole chans) (map inner ks)) (len ∙ sym len-inner ∙ sym (length-map (map inner ks) (in_whole chans))) (λ j lt.
        let within-ks : j < length ks = omega (arith, lt, len) in
        get_or-map outer ks j 0 0 within-ks
        ∙ chan-on r q (get_or ks j 0) is (all kind own j 0 within-ks)
        ∙ sym (get_or-map (in_whole chans) (map inner ks) j 0 0 (omega (arith, within-ks, len-inner)) ∙ ap (in_whole chans) (get_or-map inner ks j 0 0 within-ks))) in
        let there : map outer (arranged kind (chans_at parts top (r ++ at)) x.entries.items) ≡ map outer ks =
        ap (λ o. map outer (arranged kind (chans_of_copy o) x.entries.items)) (copied-below parts top part at e r) in
        ap (λ cs. record { kind = kind; sizes = (leaf_site parts part mine r x).sizes; chans = cs }) (there ∙ same)

    pub sites-on : (ss : List Stop) → ((s : Stop) → Has ss s → Has (stops parts part) s)
        → flat_map (own_sites parts top places) (map (within at) ss) ≡ map (placed emb) (flat_map (own_sites parts part mine) ss)
    sites-on [] among = refl
    sites-on (copy path q ∷ ss) among = sites-on ss (λ s h. among s (inr h))
    sites-on (leaf r x ∷ ss) among =
        ap₂ (λ s xs. s ∷ xs) (site-on r x (among (leaf r x) (inl refl))) (sites-on ss (λ s h. among s (inr h)))
