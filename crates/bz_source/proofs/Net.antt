-- The walk of a part's copies goes as that of the net by paths.
use Rattle.std.proofs.Common.{◌≡◌, ℕ, zero, suc, ◌+◌, ◌-◌, ◌<◌, Option, None, Some, List, [], ◌∷◌, ◌++◌, length, map, reverse, refl, sym, ap, ◌∙◌, subst, arith, slice_get, option_and_then}
use Rattle.std.specs.List.{flat_map, filter_map}
use Rattle.std.specs.Option.{option_map}
use Rattle.std.proofs.lemmas.List.{reverse-append, map-append, append-nil}
use Rattle.std.proofs.lemmas.List.Elements.{filter_map-append}
use Rattle.std.proofs.lemmas.Grind.{flat_map-append}
use Rattle.bz_breeze_records.specs.declared.part.Part.{Part}
use Rattle.bz_breeze_records.specs.declared.part.Component.{Component}
use Rattle.bz_elab.specs.Paths as net
use Rattle.bz_elab.specs.Paths.{each_from, most_instances, named}
use Rattle.bz_elab.specs.Numbers.{number_named}
use Rattle.bz_elab.proofs.Numbering.{named_number, named_within}
use Rattle.bz_source.specs.Found.{PathAt, Find, Located, component, channels_from, record_at, told, found_at, found_in, below, inner_channels, top_channels, at_channel, at_component, located, found, Locates}
use Rattle.bz_source.specs.Net.{place_at, leaf_at, own_leaf, FindsNet, FindsNamed}
use Rattle.bz_source.proofs.Walking.{comps_are, chans_are, of_component, of_instance}

-- What is picked of the finds is what is had of the stops: where it holds of a copy's channels and of a component, it holds
-- of the whole walk.
module _ {B : Type 0} (parts : List Part) (pick : List Find → List B) (own : net.Stop → List B)
    (none : pick [] ≡ []) (both : (xs ys : List Find) → pick (xs ++ ys) ≡ pick xs ++ pick ys)
    (of_told : (at : PathAt) (xs : List Find) → pick (told at xs) ≡ pick xs)
    (of_copy : (n : ℕ) (part : Part) (path : List ℕ) (i : ℕ) (up : List ℕ) → slice_get parts n ≡ Some part → reverse path ≡ i ∷ up → pick (inner_channels parts path n) ≡ own (net.copy (i ∷ up) part))
    (of_leaf : (n : ℕ) (part : Part) (path : List ℕ) (k : ℕ) (c : Component) → slice_get parts n ≡ Some part → slice_get part.components.items k ≡ Some c
    → pick (component (record_at n path (suc k)) ∷ []) ≡ own (net.leaf (reverse path) c)) where
  -- a walk below copies of this depth does
  abbrev Agrees : ℕ → Type 0
  Agrees d = (n : ℕ) (part : Part) (path : List ℕ) (i : ℕ) (up : List ℕ) → slice_get parts n ≡ Some part → reverse path ≡ i ∷ up → pick (found_in parts d path n) ≡ flat_map own (net.walk parts d (i ∷ up) part)

  one_by : (d : ℕ) → Agrees d → (n : ℕ) (part : Part) (path : List ℕ) (k : ℕ) (c : Component) → slice_get parts n ≡ Some part → slice_get part.components.items k ≡ Some c
      → (o : Option ℕ) → number_named parts c.name.items ≡ o → pick (found_at parts n path (found_in parts d) (suc k) c) ≡ flat_map own (net.visit parts (reverse path) (net.walk parts d) (suc k) c)
  one_by d agrees n part path k c at here None e =
      let name : named parts c.name.items ≡ None = named_number parts c.name.items ∙ ap (option_and_then (slice_get parts)) e in
      let visits : net.visit parts (reverse path) (net.walk parts d) (suc k) c ≡ net.leaf (reverse path) c ∷ [] = rw (name, net.visit) refl in
      ap pick (of_component parts n path (found_in parts d) (suc k) c e) ∙ of_leaf n part path k c at here ∙ sym (append-nil (own (net.leaf (reverse path) c))) ∙ ap (flat_map own) (sym visits)
  one_by d agrees n part path k c at here (Some m) e = by (slice_get parts m) refl
    where
      by : (q : Option Part) → slice_get parts m ≡ q → pick (found_at parts n path (found_in parts d) (suc k) c) ≡ flat_map own (net.visit parts (reverse path) (net.walk parts d) (suc k) c)
      by None f = absurd (past parts m (named_within parts c.name.items m e) f)
        where
          past : (ps : List Part) (j : ℕ) → j < length ps → slice_get ps j ≡ None → ⊥
          past [] j lt g = absurd (omega (arith, lt))
          past (p ∷ ps) zero lt g = cc
          past (p ∷ ps) (suc j) lt g = past ps j (omega (arith, lt)) g
      by (Some p) f =
          let name : named parts c.name.items ≡ Some p = named_number parts c.name.items ∙ ap (option_and_then (slice_get parts)) e ∙ f in
          let visits : net.visit parts (reverse path) (net.walk parts d) (suc k) c ≡ net.walk parts d (suc k ∷ reverse path) p = rw (name, net.visit) refl in
          let inside = path ++ suc k ∷ [] in
          ap pick (of_instance parts n m path (found_in parts d) (suc k) c e) ∙ of_told (record_at n path (suc k)) (found_in parts d inside m)
          ∙ agrees m p inside (suc k) (reverse path) f (reverse-append path (suc k ∷ [])) ∙ ap (flat_map own) (sym visits)

  -- these are the components of a part behind the first j
  abbrev AreFrom : List Component → ℕ → List Component → Type 0
  AreFrom all j cs = (i : ℕ) → slice_get cs i ≡ slice_get all (j + i)

  each : (d : ℕ) → Agrees d → (n : ℕ) (part : Part) (path : List ℕ) (j : ℕ) (cs : List Component) → slice_get parts n ≡ Some part → AreFrom part.components.items j cs
      → pick (each_from (suc j) (found_at parts n path (found_in parts d)) cs) ≡ flat_map own (each_from (suc j) (net.visit parts (reverse path) (net.walk parts d)) cs)
  each d agrees n part path j [] at are = none
  each d agrees n part path j (c ∷ cs) at are =
      let m : j + 0 ≡ j = omega arith in
      let here : slice_get part.components.items j ≡ Some c = ap (slice_get part.components.items) (sym m) ∙ sym (are 0) in
      let next : AreFrom part.components.items (suc j) cs = λ i. (let s : j + suc i ≡ suc j + i = omega arith in are (suc i) ∙ ap (slice_get part.components.items) s) in
      let found = found_at parts n path (found_in parts d) in
      let visit = net.visit parts (reverse path) (net.walk parts d) in
      both (found (suc j) c) (each_from (suc (suc j)) found cs)
      ∙ ap (λ xs. xs ++ pick (each_from (suc (suc j)) found cs)) (one_by d agrees n part path j c at here (number_named parts c.name.items) refl)
      ∙ ap (λ xs. flat_map own (visit (suc j) c) ++ xs) (each d agrees n part path (suc j) cs at next)
      ∙ sym (flat_map-append own (visit (suc j) c) (each_from (suc (suc j)) visit cs))

  comps_below : (d : ℕ) → Agrees d → (n : ℕ) (part : Part) (path : List ℕ) → slice_get parts n ≡ Some part
      → pick (below parts d path n) ≡ flat_map own (each_from 1 (net.visit parts (reverse path) (net.walk parts d)) part.components.items)
  comps_below d agrees n part path at =
      ap (λ cs. pick (each_from 1 (found_at parts n path (found_in parts d)) cs)) (comps_are parts n part at)
      ∙ each d agrees n part path 0 part.components.items at (λ i. (let z : i ≡ 0 + i = omega arith in ap (slice_get part.components.items) z))

  agree : (d : ℕ) → Agrees d
  agree zero n part path i up at rev = none
  agree (suc d) n part path i up at rev =
      both (inner_channels parts path n) (below parts d path n)
      ∙ ap (λ xs. xs ++ pick (below parts d path n)) (of_copy n part path i up at rev)
      ∙ ap (λ xs. own (net.copy (i ∷ up) part) ++ xs) (comps_below d (agree d) n part path at)
      ∙ ap (λ p. own (net.copy (i ∷ up) part) ++ flat_map own (each_from 1 (net.visit parts p (net.walk parts d)) part.components.items)) rev

  pub agree_all : (n : ℕ) (part : Part) → slice_get parts n ≡ Some part → pick (top_channels parts n) ≡ own (net.copy [] part) → pick (found parts n) ≡ flat_map own (net.stops parts part)
  unfolding found net.stops
  agree_all n part at tops =
      both (top_channels parts n) (below parts most_instances [] n)
      ∙ ap (λ xs. xs ++ pick (below parts most_instances [] n)) tops
      ∙ ap (λ xs. own (net.copy [] part) ++ xs) (comps_below most_instances (agree most_instances) n part [] at)

-- ---- channels

abbrev chans_of : List Find → List net.Place
chans_of xs = map place_at (filter_map at_channel xs)

chans_both : (xs ys : List Find) → chans_of (xs ++ ys) ≡ chans_of xs ++ chans_of ys
chans_both xs ys = ap (map place_at) (filter_map-append at_channel xs ys) ∙ map-append place_at (filter_map at_channel xs) (filter_map at_channel ys)

chans_told : (at : PathAt) (xs : List Find) → chans_of (told at xs) ≡ chans_of xs
chans_told at [] = refl
chans_told at (x ∷ xs) = refl

chans_from : (n : ℕ) (path : List ℕ) (k count : ℕ) → chans_of (channels_from n path k count) ≡ net.places_from (reverse path) k count
chans_from n path k zero = refl
chans_from n path k (suc count) = ap (λ ps. place_at (record_at n path k) ∷ ps) (chans_from n path (suc k) count)

chans_copy : (parts : List Part) (n : ℕ) (part : Part) (path : List ℕ) (i : ℕ) (up : List ℕ) → slice_get parts n ≡ Some part → reverse path ≡ i ∷ up → chans_of (inner_channels parts path n) ≡ net.own_places (net.copy (i ∷ up) part)
chans_copy parts n part path i up at rev =
    let ports = length part.ports.items in
    let count = length part.channels.items - ports in
    ap chans_of (chans_are parts path n part at) ∙ chans_from n path (suc ports) count ∙ ap (λ p. net.places_from p (suc ports) count) rev

chans_top : (parts : List Part) (n : ℕ) (part : Part) → slice_get parts n ≡ Some part → chans_of (top_channels parts n) ≡ net.own_places (net.copy [] part)
chans_top parts n part at =
    let tops : top_channels parts n ≡ channels_from n [] 1 (length part.channels.items) = rw (at, top_channels) refl in
    let all : length part.channels.items ≡ length part.channels.items - 0 = omega arith in
    ap chans_of tops ∙ chans_from n [] 1 (length part.channels.items) ∙ ap (net.places_from [] 1) all

-- ---- components

abbrev comps_of : List Part → List Find → List (Option net.Stop)
comps_of parts xs = map (leaf_at parts) (filter_map at_component xs)

comps_both : (parts : List Part) (xs ys : List Find) → comps_of parts (xs ++ ys) ≡ comps_of parts xs ++ comps_of parts ys
comps_both parts xs ys = ap (map (leaf_at parts)) (filter_map-append at_component xs ys) ∙ map-append (leaf_at parts) (filter_map at_component xs) (filter_map at_component ys)

comps_told : (parts : List Part) (at : PathAt) (xs : List Find) → comps_of parts (told at xs) ≡ comps_of parts xs
comps_told parts at [] = refl
comps_told parts at (x ∷ xs) = refl

no_comps : (n : ℕ) (path : List ℕ) (k count : ℕ) → filter_map at_component (channels_from n path k count) ≡ []
no_comps n path k zero = refl
no_comps n path k (suc count) = no_comps n path (suc k) count

comps_copy : (parts : List Part) (n : ℕ) (part : Part) (path : List ℕ) (i : ℕ) (up : List ℕ) → slice_get parts n ≡ Some part → reverse path ≡ i ∷ up → comps_of parts (inner_channels parts path n) ≡ own_leaf (net.copy (i ∷ up) part)
comps_copy parts n part path i up at rev =
    let ports = length part.ports.items in
    ap (comps_of parts) (chans_are parts path n part at) ∙ ap (map (leaf_at parts)) (no_comps n path (suc ports) (length part.channels.items - ports))

comps_top : (parts : List Part) (n : ℕ) (part : Part) → slice_get parts n ≡ Some part → comps_of parts (top_channels parts n) ≡ own_leaf (net.copy [] part)
comps_top parts n part at =
    let tops : top_channels parts n ≡ channels_from n [] 1 (length part.channels.items) = rw (at, top_channels) refl in
    ap (comps_of parts) tops ∙ ap (map (leaf_at parts)) (no_comps n [] 1 (length part.channels.items))

comps_leaf : (parts : List Part) (n : ℕ) (part : Part) (path : List ℕ) (k : ℕ) (c : Component) → slice_get parts n ≡ Some part → slice_get part.components.items k ≡ Some c
    → comps_of parts (component (record_at n path (suc k)) ∷ []) ≡ own_leaf (net.leaf (reverse path) c)
comps_leaf parts n part path k c at here =
    let is : leaf_at parts (record_at n path (suc k)) ≡ Some (net.leaf (reverse path) c) =
    ap (λ o. option_map (net.leaf (reverse path)) (option_and_then (λ p. net.component p (suc k)) o)) at ∙ ap (option_map (net.leaf (reverse path))) here in
    ap (λ o. o ∷ []) is

-- ---- the net

pub finds_net : (parts : List Part) (n : ℕ) (top : Part) → slice_get parts n ≡ Some top → FindsNet parts top (located (found parts n))
finds_net parts n top at = record {
  chans = agree_all parts chans_of net.own_places refl chans_both chans_told (chans_copy parts) (λ n part path k c at here. refl) n top at (chans_top parts n top at);
  comps = agree_all parts (comps_of parts) own_leaf refl (comps_both parts) (comps_told parts) (comps_copy parts) (comps_leaf parts) n top at (comps_top parts n top at);
}

pub finds_named : (parts : List Part) (name : List ℕ) (l : Located) → Locates parts name l → FindsNamed parts name l
finds_named parts name l (n, e, is) = by (slice_get parts n) refl
  where
    past : (ps : List Part) (j : ℕ) → j < length ps → slice_get ps j ≡ None → ⊥
    past [] j lt g = absurd (omega (arith, lt))
    past (p ∷ ps) zero lt g = cc
    past (p ∷ ps) (suc j) lt g = past ps j (omega (arith, lt)) g

    by : (o : Option Part) → slice_get parts n ≡ o → FindsNamed parts name l
    by None f = absurd (past parts n (named_within parts name n e) f)
    by (Some top) f = (top, named_number parts name ∙ ap (option_and_then (slice_get parts)) e ∙ f, subst (FindsNet parts top) (sym is) (finds_net parts n top f))
