-- What stands in a net, and where: what a walk of a part's copies finds, each with its place in the text.
use Rattle.std.specs.Prelude.{◌≡◌, ℕ, zero, suc, ◌-◌, ◌<◌, Option, None, Some, List, [], ◌∷◌, ◌++◌, length, slice_get}
use Rattle.std.specs.List.{filter_map}
use Rattle.bz_breeze_records.specs.declared.part.Part.{Part}
use Rattle.bz_breeze_records.specs.declared.part.Component.{Component}
use Rattle.bz_elab.specs.Paths.{each_from, most_instances}
use Rattle.bz_elab.specs.Numbers.{number_named, number_at}
use Rattle.bz_source.specs.declared.error.PlacesError.{PlacesError}
use Rattle.bz_source.specs.declared.error.PlacesError.TheVariants.{NoPart, TooDeep, Memory}

-- A record of the text in one copy of its part: the number of the part, from 0, the position among the part's channels or
-- components, from 1, and the positions of the instances on the way to the copy, from the top on.
pub record PathAt : Type 0 where
  pub part : ℕ
  pub position : ℕ
  pub path : List ℕ

abbrev pub record_at : ℕ → List ℕ → ℕ → PathAt
record_at part path position = record { part = part; position = position; path = path }

pub data Find : Type 0 where
  channel : PathAt → Find
  component : PathAt → Find
  instance : PathAt → Find

-- n channels of a copy, from channel k on
abbrev pub channels_from : ℕ → List ℕ → ℕ → ℕ → List Find
channels_from part path k zero = []
channels_from part path k (suc n) = channel (record_at part path k) ∷ channels_from part path (suc k) n

-- the channels of an inner copy, without its ports, since they are channels of the copy above
abbrev pub inner_channels : List Part → List ℕ → ℕ → List Find
inner_channels parts path n = elim (slice_get parts n) [
  | None ↦ []
  | Some part ↦ channels_from n path (suc (length part.ports.items)) (length part.channels.items - length part.ports.items)
]

-- an instance is told before what is found in its copy, and it is not where nothing is
abbrev pub told : PathAt → List Find → List Find
told at [] = []
told at (f ∷ fs) = instance at ∷ f ∷ fs

-- component i of part n: itself, or what `go` finds in the copy of its part
abbrev pub found_at : List Part → ℕ → List ℕ → (List ℕ → ℕ → List Find) → ℕ → Component → List Find
found_at parts n path go i c = elim (number_named parts c.name.items) [
  | None ↦ component (record_at n path i) ∷ []
  | Some m ↦ told (record_at n path i) (go (path ++ i ∷ []) m)
]

abbrev pub components_of : List Part → ℕ → List Component
components_of parts n = elim (slice_get parts n) [ None ↦ [] | Some part ↦ part.components.items ]

-- an inner copy of part n, `depth` being one more than the instances that a path may go on with
abbrev pub found_in : List Part → ℕ → List ℕ → ℕ → List Find
found_in parts zero path n = []
found_in parts (suc depth) path n = inner_channels parts path n ++ each_from 1 (found_at parts n path (found_in parts depth)) (components_of parts n)

-- the components of a copy, with all that is below it
abbrev pub below : List Part → ℕ → List ℕ → ℕ → List Find
below parts depth path n = each_from 1 (found_at parts n path (found_in parts depth)) (components_of parts n)

abbrev pub top_channels : List Part → ℕ → List Find
top_channels parts n = elim (slice_get parts n) [ None ↦ [] | Some part ↦ channels_from n [] 1 (length part.channels.items) ]

-- the whole walk of the net of part n
unfoldable pub found : List Part → ℕ → List Find
found parts n = top_channels parts n ++ below parts most_instances [] n

-- The places of a net, in the order of its numbers.
pub record Located : Type 0 where
  pub chans : List PathAt
  pub comps : List PathAt
  pub instances : List PathAt

abbrev pub at_channel : Find → Option PathAt
at_channel (channel at) = Some at
at_channel find = None

abbrev pub at_component : Find → Option PathAt
at_component (component at) = Some at
at_component find = None

abbrev pub at_instance : Find → Option PathAt
at_instance (instance at) = Some at
at_instance find = None

abbrev pub located : List Find → Located
located finds = record { chans = filter_map at_channel finds; comps = filter_map at_component finds; instances = filter_map at_instance finds }

-- one find more
abbrev pub with_find : Located → Find → Located
with_find l find = record {
  chans = l.chans ++ filter_map at_channel (find ∷ []);
  comps = l.comps ++ filter_map at_component (find ∷ []);
  instances = l.instances ++ filter_map at_instance (find ∷ []);
}

-- the places of the net of the first part of this name
abbrev pub Locates : List Part → List ℕ → Located → Type 0
Locates parts name l = (n : ℕ) × (number_named parts name ≡ Some n) × (l ≡ located (found parts n))

-- some path from part n goes on for more instances
abbrev pub IsDeeper : List Part → ℕ → ℕ → Type 0
IsDeeper parts n depth = (path : List ℕ) × (m : ℕ) × (number_at parts n path ≡ Some m) × (depth < length path)

-- why there are no places
abbrev pub Misses : List Part → List ℕ → PlacesError → Type 0
Misses parts name NoPart = number_named parts name ≡ None
Misses parts name TooDeep = (n : ℕ) × (number_named parts name ≡ Some n) × IsDeeper parts n most_instances
Misses parts name Memory = ⊥
