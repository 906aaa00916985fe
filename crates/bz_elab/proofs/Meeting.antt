-- The components of a net stand on channels of the net, and these meet the rows of their kinds.
use Rattle.std.proofs.Common.{◌≡◌, ℕ, zero, suc, ◌+◌, ◌-◌, ◌<◌, ◌≤◌, Option, None, Some, List, [], ◌∷◌, ◌++◌, length, map, drop, inl, inr, refl, sym, ◌∙◌, ap, subst, arith, get_or, length-append, slice_get, option_and_then}
use Rattle.std.specs.List.{flat_map, All}
use Rattle.std.proofs.lemmas.Bool.Decides.{leb_tells}
use Rattle.std.proofs.lemmas.Option.{slice_get_within, slice_get-map, get_or_from_slice_get}
use Rattle.std.proofs.lemmas.List.{drop_all, drop_more, get_or-map, get_or-take, length-map, map-append}
use Rattle.std.proofs.lemmas.List.Elements.{All-head, All-tail}
use Rattle.bz_model.specs.declared.channel.Chan.{Chan}
use Rattle.bz_model.specs.declared.channel.ChanKind.TheVariants.{Sync}
use Rattle.bz_model.specs.Rows.{MeetsRow}
use Rattle.bz_model.specs.Nets.{Site, chan_in}
use Rattle.bz_breeze_records.specs.declared.part.Part.{Part}
use Rattle.bz_breeze_records.specs.declared.part.Component.{Component}
use Rattle.bz_flat.specs.declared.flat.FlatComp.{FlatComp}
use Rattle.bz_elab.specs.Entries.{flattened, arranged}
use Rattle.bz_flat.specs.Flats.{site_of}
use Rattle.bz_elab.specs.Paths.{Path, Place, Role, of_kind, Stop, copy, leaf, named, component, inner, copied, joined, role, role_by, each_from, visit, walk, stops, own_chans, own_places, places_from, ports_at, most_instances, chans_of_copy}
use Rattle.bz_elab.specs.Refusals.{IsChannel, actuals_of, formals_of, own_ends}
use Rattle.bz_elab.specs.Seats.{ChansFit}
use Rattle.bz_elab.specs.Growth.{IsSound, IsSoundLeaf, IsSoundInstance, IsSoundBelow, IsNumber, AreNumbers, IsLeaf, AreLeaves}
use Rattle.bz_elab.proofs.Slots.{all_arranged, length-arranged, agree_at}

abbrev no_chan : Chan
no_chan = record { kind = Sync; width = 0 }

-- the channel at a place
abbrev channels_in : Option Part → List Chan
channels_in None = []
channels_in (Some part) = part.channels.items

abbrev chan_of : List Part → Part → Place → Chan
chan_of parts top p = chan_in (channels_in (copied parts top p.path)) p.number

-- What a walk meets.

abbrev IsStop : List Part → Part → Stop → Type 0
IsStop parts top (copy path part) = copied parts top path ≡ Some part
IsStop parts top (leaf path c) = (part : Part) × (i : ℕ) × (copied parts top path ≡ Some part) × (component part i ≡ Some c) × (named parts c.name.items ≡ None)

abbrev AreStops : List Part → Part → List Stop → Type 0
AreStops parts top [] = Unit {0}
AreStops parts top (s ∷ ss) = IsStop parts top s × AreStops parts top ss

stops_then : (parts : List Part) (top : Part) (ss ts : List Stop) → AreStops parts top ss → AreStops parts top ts → AreStops parts top (ss ++ ts)
stops_then parts top [] ts a b = b
stops_then parts top (s ∷ ss) ts a b = (a.0, stops_then parts top ss ts a.1 b)

each_are_stops : (parts : List Part) (top : Part) (n : ℕ) (path : Path) (part : Part) (i : ℕ) (cs : List Component) → copied parts top path ≡ Some part
    → ((j k : ℕ) (c : Component) → k ≡ i + j → slice_get cs j ≡ Some c → component part k ≡ Some c)
    → ((up : Path) (q : Part) → copied parts top up ≡ Some q → AreStops parts top (walk parts n up q))
    → AreStops parts top (each_from i (visit parts path (walk parts n)) cs)
each_are_stops parts top n path part i [] at all go = tt
each_are_stops parts top n path part i (c ∷ cs) at all go =
    let has : component part i ≡ Some c = all 0 i c (omega arith) refl in
    let here : AreStops parts top (visit parts path (walk parts n) i c) = elim (named parts c.name.items) as (λ o. named parts c.name.items ≡ o → AreStops parts top (visit parts path (walk parts n) i c)) [
      | None ↦ λ e. rw (e, visit) ((part, i, at, has, e), tt)
      | Some q ↦ λ e. rw (e, visit) (go (i ∷ path) q (rw (at, has) e))
    ] refl in
    stops_then parts top (visit parts path (walk parts n) i c) _ here
    (each_are_stops parts top n path part (suc i) cs at (λ j k d e f. all (suc j) k d (omega arith) f) go)

walk_are_stops : (parts : List Part) (top : Part) (n : ℕ) (path : Path) (part : Part) → copied parts top path ≡ Some part → AreStops parts top (walk parts n path part)
walk_are_stops parts top zero path part at = tt
walk_are_stops parts top (suc n) path part at =
    (at, each_are_stops parts top n path part 1 part.components.items at (λ j k c e f. let z : k ≡ suc j = omega arith in rw z f) (walk_are_stops parts top n))

all_are_stops : (parts : List Part) (top : Part) → AreStops parts top (stops parts top)
unfolding stops
all_are_stops parts top = walk_are_stops parts top (suc most_instances) [] top refl

-- The channels of the places.

places_chans : (parts : List Part) (top part : Part) (path : Path) (p n : ℕ) → copied parts top path ≡ Some part → n ≡ length part.channels.items - p
    → map (chan_of parts top) (places_from path (suc p) n) ≡ drop p part.channels.items
places_chans parts top part path p zero at e = sym (drop_all p part.channels.items (omega arith))
places_chans parts top part path p (suc n) at e =
    let lt : p < length part.channels.items = omega arith in
    let z : suc p - 1 ≡ p = omega arith in
    let here : chan_of parts top (record { path = path; number = suc p }) ≡ get_or part.channels.items p no_chan = rw (at, z) refl in
    let rest = places_chans parts top part path (suc p) n at (omega arith) in
    let s : p + 1 ≡ suc p = omega arith in
    ap (λ x. x ∷ map (chan_of parts top) (places_from path (suc (suc p)) n)) here ∙ (ap (λ xs. get_or part.channels.items p no_chan ∷ xs) rest
    ∙ (ap (λ k. get_or part.channels.items p no_chan ∷ drop k part.channels.items) (sym s) ∙ sym (drop_more part.channels.items p no_chan lt)))

stop_chans : (parts : List Part) (top : Part) (s : Stop) → IsStop parts top s → map (chan_of parts top) (own_places s) ≡ own_chans s
stop_chans parts top (copy path part) at = places_chans parts top part path (ports_at path part) (length part.channels.items - ports_at path part) at refl
stop_chans parts top (leaf path c) at = refl

pub chans_are : (parts : List Part) (top : Part) (ss : List Stop) → AreStops parts top ss → map (chan_of parts top) (flat_map own_places ss) ≡ flat_map own_chans ss
chans_are parts top [] h = refl
chans_are parts top (s ∷ ss) h =
    map-append (chan_of parts top) (own_places s) (flat_map own_places ss) ∙ (ap (λ xs. xs ++ map (chan_of parts top) (flat_map own_places ss)) (stop_chans parts top s h.0)
    ∙ ap (λ xs. own_chans s ++ xs) (chans_are parts top ss h.1))

number_chan : (parts : List Part) (top : Part) (places : List Place) (p : Place) (k : ℕ) → IsNumber places p k → chan_in (map (chan_of parts top) places) k ≡ chan_of parts top p
number_chan parts top places p k h =
    get_or_from_slice_get (map (chan_of parts top) places) (k - 1) (chan_of parts top p) no_chan (slice_get-map (chan_of parts top) places (k - 1) ∙ rw h.1 refl)

-- A channel of a copy has the kind and the width that it has in its part.

chan_is : (a b : Chan) → a.kind ≡ b.kind → a.width ≡ b.width → a ≡ b
chan_is a b k w = ap (λ x. record { kind = x; width = a.width }) k ∙ ap (λ x. record { kind = b.kind; width = x }) w

-- the component that an instance's part comes by
pub inner_comp : (parts : List Part) (q : Part) (i : ℕ) (part : Part) → inner parts q i ≡ Some part → (x : Component) × (component q i ≡ Some x) × (named parts x.name.items ≡ Some part)
inner_comp parts q i part e = elim (component q i) as (λ o. component q i ≡ o → option_and_then (λ c. named parts c.name.items) o ≡ Some part → (x : Component) × (component q i ≡ Some x) × (named parts x.name.items ≡ Some part)) [
  | None ↦ λ f g. cc
  | Some x ↦ λ f g. (x, f, g)
] refl e

pub outer_copy : (parts : List Part) (top : Part) (i : ℕ) (up : Path) (part : Part) → copied parts top (i ∷ up) ≡ Some part → (q : Part) × (copied parts top up ≡ Some q) × (inner parts q i ≡ Some part)
outer_copy parts top i up part e = elim (copied parts top up) as (λ o. copied parts top up ≡ o → option_and_then (λ p. inner parts p i) o ≡ Some part → (q : Part) × (copied parts top up ≡ Some q) × (inner parts q i ≡ Some part)) [
  | None ↦ λ f g. cc
  | Some q ↦ λ f g. (q, f, g)
] refl e

-- a port of an instance is of the kind and width of its actual channel
port_chan : (chans : List Chan) (x : Component) (part : Part) (c : ℕ) → IsSoundInstance chans x part → 0 < c → c ≤ length part.ports.items
    → IsChannel chans (get_or (flattened x.entries.items) (c - 1) 0) × (chan_in chans (get_or (flattened x.entries.items) (c - 1) 0) ≡ chan_in part.channels.items c)
port_chan chans x part c s from to =
    let es = flattened x.entries.items in
    let ports = length part.ports.items in
    let count = s.count in
    let lt : c - 1 < length es = omega arith in
    let read : get_or (actuals_of chans x.entries.items) (c - 1) no_chan ≡ chan_in chans (get_or es (c - 1) 0) = get_or-map (chan_in chans) es (c - 1) 0 no_chan lt in
    let form : get_or (formals_of part) (c - 1) no_chan ≡ chan_in part.channels.items c = get_or-take ports part.channels.items (c - 1) no_chan (omega arith) in
    let kind = agree_at (λ (y : Chan). y.kind) (actuals_of chans x.entries.items) (formals_of part) (c - 1) no_chan s.kinds in
    let width = agree_at (λ (y : Chan). y.width) (actuals_of chans x.entries.items) (formals_of part) (c - 1) no_chan s.widths in
    (s.within (c - 1) 0 lt, sym read ∙ (chan_is _ _ kind width ∙ form))

pub joined_chan : (parts : List Part) (top : Part) (depth : ℕ) (path : Path) (part : Part) (c : ℕ) → IsSoundBelow parts top depth → copied parts top path ≡ Some part → 0 < c
    → c ≤ length part.channels.items → chan_of parts top (joined parts top path c) ≡ chan_in part.channels.items c
joined_chan parts top depth [] part c s at from to = let same : top ≡ part = cc in ap (λ (p : Part). chan_in p.channels.items c) same
joined_chan parts top depth (i ∷ up) part c s at from to =
    let (q, outer, inside) = outer_copy parts top i up part at in
    let (x, has, some) = inner_comp parts q i part inside in
    let own : IsSoundInstance q.channels.items x part = subst (λ (r : Role). IsSound q.channels.items x r) (ap (λ o. role_by o x) some) (s.sound up q outer i x has) in
    elim (leb_tells c (length part.ports.items)) [
      | inl h ↦
          let (within, same) = port_chan q.channels.items x part c own from h.1 in
          rw (at, h.0, outer, has) (joined_chan parts top depth up q (get_or (flattened x.entries.items) (c - 1) 0) s outer within.0 within.1 ∙ same)
      | inr h ↦ rw (at, h.0, at) refl
    ]

-- Components.

numbers_chans : (parts : List Part) (top : Part) (depth : ℕ) (places : List Place) (path : Path) (part : Part) (es ks : List ℕ) → IsSoundBelow parts top depth → copied parts top path ≡ Some part
    → All (IsChannel part.channels.items) es → AreNumbers places (map (joined parts top path) es) ks
    → map (chan_in (map (chan_of parts top) places)) ks ≡ map (chan_in part.channels.items) es
numbers_chans parts top depth places path part [] [] s at within h = refl
numbers_chans parts top depth places path part [] (k ∷ ks) s at within h = absurd h
numbers_chans parts top depth places path part (e ∷ es) [] s at within h = absurd h
numbers_chans parts top depth places path part (e ∷ es) (k ∷ ks) s at within h =
    let w = All-head (IsChannel part.channels.items) e es within in
    let here = number_chan parts top places (joined parts top path e) k h.0 ∙ joined_chan parts top depth path part e s at w.0 w.1 in
    let rest = numbers_chans parts top depth places path part es ks s at (All-tail (IsChannel part.channels.items) e es within) h.1 in
    ap (λ x. x ∷ map (chan_in (map (chan_of parts top) places)) ks) here ∙ ap (λ xs. chan_in part.channels.items e ∷ xs) rest

numbers_count : (places ps : List Place) (ks : List ℕ) → AreNumbers places ps ks → length ks ≡ length ps
numbers_count places [] [] h = refl
numbers_count places [] (k ∷ ks) h = absurd h
numbers_count places (p ∷ ps) [] h = absurd h
numbers_count places (p ∷ ps) (k ∷ ks) h = ap suc (numbers_count places ps ks h.1)

numbers_fit : (places ps : List Place) (ks : List ℕ) → AreNumbers places ps ks → ChansFit (length places) ks
numbers_fit places [] [] h j lt = absurd (omega arith)
numbers_fit places [] (k ∷ ks) h j lt = absurd h
numbers_fit places (p ∷ ps) [] h j lt = absurd h
numbers_fit places (p ∷ ps) (k ∷ ks) h zero lt = let w = slice_get_within places (k - 1) p h.0.1 in let from = h.0.0 in (from, omega (arith, w, from))
numbers_fit places (p ∷ ps) (k ∷ ks) h (suc j) lt = numbers_fit places ps ks h.1 j (omega arith)

-- a component of the net, among so many channels and ends
pub record IsPlaced (chans : List Chan) (ends : ℕ) (site : Site) : Type 0 where
  pub few : length site.chans ≤ ends
  pub within : ChansFit (length chans) site.chans
  pub meets : MeetsRow site.kind site.sizes (map (chan_in chans) site.chans)

leaf_placed : (parts : List Part) (top : Part) (depth : ℕ) (places : List Place) (path : Path) (c : Component) (f : FlatComp) → IsSoundBelow parts top depth → IsStop parts top (leaf path c)
    → IsLeaf parts top places path c f → IsPlaced (map (chan_of parts top) places) (length (flattened c.entries.items)) (site_of f)
leaf_placed parts top depth places path c f s (part, i, at, has, none) is =
    let role_is : role parts c ≡ of_kind f.kind = ap (λ o. role_by o c) none ∙ is.role_is in
    let sound : IsSoundLeaf part.channels.items c f.kind = subst (λ (r : Role). IsSound part.channels.items c r) role_is (s.sound path part at i c has) in
    let own = part.channels.items in
    let es = arranged f.kind own c.entries.items in
    let chans : AreNumbers places (map (joined parts top path) es) f.chans.items = subst (λ o. AreNumbers places (map (joined parts top path) (arranged f.kind (chans_of_copy o) c.entries.items)) f.chans.items) at is.chans in
    let within = all_arranged (IsChannel own) f.kind own c.entries.items sound.within in
    let carried = numbers_chans parts top depth places path part es f.chans.items s at within chans in
    let many = numbers_count places (map (joined parts top path) es) f.chans.items chans in
    let all = length-arranged f.kind own c.entries.items sound.fits.singles_are sound.fits.lists_are in
    record {
      few = let n = length-map es (joined parts top path) in omega (arith, many, all, n);
      within = let n = length-map places (chan_of parts top) in rw n (numbers_fit places _ f.chans.items is.chans);
      meets = rw (carried, is.sizes_are) (record { sizes_fit = sound.fits.sizes; kinds_are = sound.kinds; widths_fit = sound.widths });
    }

more_ends : (chans : List Chan) (n m : ℕ) (site : Site) → n ≤ m → IsPlaced chans n site → IsPlaced chans m site
more_ends chans n m site le p = record { few = let a = p.few in omega arith; within = p.within; meets = p.meets }

placed_at : (parts : List Part) (top : Part) (depth : ℕ) (places : List Place) (ss : List Stop) (fs : List FlatComp) (c : ℕ) (none : Site) → IsSoundBelow parts top depth → AreStops parts top ss
    → AreLeaves parts top places ss fs → c < length fs → IsPlaced (map (chan_of parts top) places) (length (flat_map own_ends ss)) (get_or (map site_of fs) c none)
placed_at parts top depth places [] [] c none s at h lt = absurd (omega arith)
placed_at parts top depth places [] (f ∷ fs) c none s at h lt = absurd h
placed_at parts top depth places (copy path part ∷ ss) fs c none s at h lt = placed_at parts top depth places ss fs c none s at.1 h lt
placed_at parts top depth places (leaf path x ∷ ss) [] c none s at h lt = absurd h
placed_at parts top depth places (leaf path x ∷ ss) (f ∷ fs) zero none s at h lt =
    more_ends _ _ _ _ (let n = length-append (flattened x.entries.items) (flat_map own_ends ss) in omega arith) (leaf_placed parts top depth places path x f s at.0 h.0)
placed_at parts top depth places (leaf path x ∷ ss) (f ∷ fs) (suc c) none s at h lt =
    more_ends _ _ _ _ (let n = length-append (flattened x.entries.items) (flat_map own_ends ss) in omega arith) (placed_at parts top depth places ss fs c none s at.1 h.1 (omega arith))

-- each component of a net
pub comps_placed : (parts : List Part) (top : Part) (places : List Place) (fs : List FlatComp) (c : ℕ) (none : Site) → IsSoundBelow parts top most_instances
    → places ≡ flat_map own_places (stops parts top) → AreLeaves parts top places (stops parts top) fs → c < length fs
    → IsPlaced (flat_map own_chans (stops parts top)) (length (flat_map own_ends (stops parts top))) (get_or (map site_of fs) c none)
comps_placed parts top places fs c none s same h lt =
    let are = all_are_stops parts top in
    let chans : map (chan_of parts top) places ≡ flat_map own_chans (stops parts top) = ap (map (chan_of parts top)) same ∙ chans_are parts top (stops parts top) are in
    subst (λ (xs : List Chan). IsPlaced xs (length (flat_map own_ends (stops parts top))) (get_or (map site_of fs) c none)) chans
    (placed_at parts top most_instances places (stops parts top) fs c none s are h lt)
