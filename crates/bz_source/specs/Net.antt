-- What was found is what the net by paths has, in its order.
use Rattle.std.specs.Prelude.{◌≡◌, ℕ, Option, Some, List, [], ◌∷◌, map, reverse, slice_get, option_and_then}
use Rattle.std.specs.List.{flat_map}
use Rattle.std.specs.Option.{option_map}
use Rattle.bz_breeze_records.specs.declared.part.Part.{Part}
use Rattle.bz_elab.specs.Paths as net
use Rattle.bz_source.specs.Found.{PathAt, Located}

-- the place of a channel in the net by paths, where paths begin at the innermost instance
abbrev pub place_at : PathAt → net.Place
place_at at = record { path = reverse at.path; number = at.position }

-- the component that stands there, in its copy
abbrev pub leaf_at : List Part → PathAt → Option net.Stop
leaf_at parts at = option_map (net.leaf (reverse at.path)) (option_and_then (λ part. net.component part at.position) (slice_get parts at.part))

-- a stop of the net's walk where it is a component
abbrev pub own_leaf : net.Stop → List (Option net.Stop)
own_leaf (net.copy path part) = []
own_leaf (net.leaf path c) = Some (net.leaf path c) ∷ []

-- the channels are at the net's places, and the components are those that its walk meets
pub record FindsNet (parts : List Part) (top : Part) (l : Located) : Type 0 where
  pub chans : map place_at l.chans ≡ net.all_places parts top
  pub comps : map (leaf_at parts) l.comps ≡ flat_map own_leaf (net.stops parts top)

-- those of the net of the first part of this name
abbrev pub FindsNamed : List Part → List ℕ → Located → Type 0
FindsNamed parts name l = (top : Part) × (net.named parts name ≡ Some top) × FindsNet parts top l
