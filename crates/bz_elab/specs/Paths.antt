-- The net of a part, told by paths.
--
-- A path is a list of component positions from the top part, written innermost first: `i ∷ up` is component i of the
-- part at `up`. The copies of parts are at paths, the top's own at `[]`. Positions and channels count from 1.
use Rattle.std.specs.Prelude.{ℕ, zero, suc, ◌-◌, Bool, ◌==◌, ◌&&◌, nat_le, bytes_eq, Option, None, Some, List, [], ◌∷◌, ◌++◌, length, map, drop, slice_index_or, slice_get, option_and_then, Result, Ok, Err, if◌then◌else◌}
use Rattle.std.specs.List.{flat_map, position_from}
use Rattle.bz_model.specs.declared.channel.Chan.{Chan}
use Rattle.bz_model.specs.declared.kind.Kind.{Kind}
use Rattle.bz_model.specs.declared.kind.Kind.TheVariants.{Loop}
use Rattle.bz_model.specs.Names.{external}
use Rattle.bz_model.specs.Nets.{Site, Wiring}
use Rattle.bz_breeze_records.specs.declared.part.Part.{Part}
use Rattle.bz_breeze_records.specs.declared.part.Component.{Component}
use Rattle.bz_model.specs.declared.error.KindError.{KindError}
use Rattle.bz_model.specs.declared.error.KindError.TheVariants.{BadParameter}
use Rattle.bz_kind_rows.specs.Naming.{kind_with}
use Rattle.bz_elab.specs.Entries.{flattened, sizes_of, arranged}

abbrev pub Path : Type 0
Path = List ℕ

-- where a channel of the net is: a copy, and the number in its part
pub record Place : Type 0 where
  pub path : Path
  pub number : ℕ

-- the first part of that name
abbrev pub named : List Part → List ℕ → Option Part
named [] name = None
named (p ∷ ps) name = if bytes_eq p.name.items name then Some p else named ps name

-- component i of a part
abbrev pub component : Part → ℕ → Option Component
component part zero = None
component part (suc i) = slice_get part.components.items i

-- the part of which component i is an instance
abbrev pub inner : List Part → Part → ℕ → Option Part
inner parts part i = option_and_then (λ c. named parts c.name.items) (component part i)

-- the part whose copy is at a path
abbrev pub copied : List Part → Part → Path → Option Part
copied parts top [] = Some top
copied parts top (i ∷ up) = option_and_then (λ part. inner parts part i) (copied parts top up)

-- the greatest number of instances on a path
abbrev pub most_instances : ℕ
most_instances = 64

-- What a component is: an instance of a part, of a kind, of a kind that cannot have its parameters, or nothing known.
pub data Role : Type 0 where
  instance : Part → Role
  of_kind : Kind → Role
  misfit : Role
  unknown : Role

abbrev pub kind_role : Result Kind KindError → Role
kind_role (Ok kind) = of_kind kind
kind_role (Err BadParameter) = misfit
kind_role (Err e) = unknown

-- what it is where it is no instance
unfoldable pub leaf_role : Component → Role
leaf_role c = kind_role (kind_with c.name.items c.params.items)

abbrev pub role_by : Option Part → Component → Role
role_by (Some part) c = instance part
role_by None c = leaf_role c

abbrev pub role : List Part → Component → Role
role parts c = role_by (named parts c.name.items) c

-- Channels.

abbrev pub port_count : Option Part → ℕ
port_count None = 0
port_count (Some part) = length part.ports.items

abbrev pub entry_of : Option Component → ℕ → ℕ
entry_of None c = 0
entry_of (Some comp) c = slice_index_or (flattened comp.entries.items) (c - 1) 0

-- the channel that component i of the part at `up` names at its entry c
abbrev pub actual : List Part → Part → Path → ℕ → ℕ → ℕ
actual parts top up i c = entry_of (option_and_then (λ part. component part i) (copied parts top up)) c

-- where channel c of the copy at a path is: a port of an instance is the actual channel of the parent
abbrev pub joined : List Part → Part → Path → ℕ → Place
joined parts top [] c = record { path = []; number = c }
joined parts top (i ∷ up) c =
    if nat_le c (port_count (copied parts top (i ∷ up))) then joined parts top up (actual parts top up i c)
    else record { path = i ∷ up; number = c }

-- What a walk of the net meets, in lexicographic order of paths: the copy of a part, or a component that is no instance,
-- of the copy at a path.
pub data Stop : Type 0 where
  copy : Path → Part → Stop
  leaf : Path → Component → Stop

-- f of each element and its number, one after another
abbrev pub each_from : {A B : Type 0} → ℕ → (ℕ → A → List B) → List A → List B
each_from i f [] = []
each_from i f (x ∷ xs) = f i x ++ each_from (suc i) f xs

-- component i of the copy at a path: a leaf, or where `go` leads
abbrev pub visit : List Part → Path → (Path → Part → List Stop) → ℕ → Component → List Stop
visit parts path go i c = elim (named parts c.name.items) [ None ↦ leaf path c ∷ [] | Some p ↦ go (i ∷ path) p ]

-- the copy at a path and all below it, n being one more than the instances that a path may go on with
abbrev pub walk : List Part → ℕ → Path → Part → List Stop
walk parts zero path part = []
walk parts (suc n) path part = copy path part ∷ each_from 1 (visit parts path (walk parts n)) part.components.items

-- the whole walk
unfoldable pub stops : List Part → Part → List Stop
stops parts top = walk parts (suc most_instances) [] top

-- The channels of a copy are its part's, without the ports of an inner copy, since they are the actual channels of the
-- parent.
abbrev pub ports_at : Path → Part → ℕ
ports_at [] part = 0
ports_at (i ∷ up) part = length part.ports.items

abbrev pub own_chans : Stop → List Chan
own_chans (copy path part) = drop (ports_at path part) part.channels.items
own_chans (leaf path comp) = []

-- `n` places of a copy, from channel c on
abbrev pub places_from : Path → ℕ → ℕ → List Place
places_from path c zero = []
places_from path c (suc n) = record { path = path; number = c } ∷ places_from path (suc c) n

abbrev pub own_places : Stop → List Place
own_places (copy path part) = places_from path (suc (ports_at path part)) (length part.channels.items - ports_at path part)
own_places (leaf path comp) = []

-- The net.

abbrev pub is_place : Place → Place → Bool
is_place p q = bytes_eq p.path q.path && (p.number == q.number)

abbrev pub one_more : Option ℕ → ℕ
one_more None = 0
one_more (Some i) = suc i

-- the number of a place among all places
abbrev pub number_in : List Place → Place → ℕ
number_in places place = one_more (position_from (is_place place) 0 places)

abbrev pub kind_in : Role → Kind
kind_in (of_kind kind) = kind
kind_in role = Loop

-- the channels of the part whose copy is at a path
abbrev pub chans_of_copy : Option Part → List Chan
chans_of_copy None = []
chans_of_copy (Some part) = part.channels.items

abbrev pub chans_at : List Part → Part → Path → List Chan
chans_at parts top path = chans_of_copy (copied parts top path)

-- a component that is no instance, on the channels that its entries come to
abbrev pub leaf_site : List Part → Part → List Place → Path → Component → Site
leaf_site parts top places path c = record {
  kind = kind_in (leaf_role c);
  sizes = sizes_of c.entries.items;
  chans = map (λ k. number_in places (joined parts top path k)) (arranged (kind_in (leaf_role c)) (chans_at parts top path) c.entries.items);
}

abbrev pub own_sites : List Part → Part → List Place → Stop → List Site
own_sites parts top places (copy path part) = []
own_sites parts top places (leaf path c) = leaf_site parts top places path c ∷ []

abbrev pub all_places : List Part → Part → List Place
all_places parts top = flat_map own_places (stops parts top)

-- the net of a part
unfoldable pub net : List Part → Part → Wiring
net parts top = record {
  chans = flat_map own_chans (stops parts top);
  sites = flat_map (own_sites parts top (all_places parts top)) (stops parts top);
  ports = map external top.ports.items;
}
