-- The net as far as the walk has come.
use Rattle.std.specs.Prelude.{◌≡◌, ℕ, ◌+◌, ◌-◌, ◌<◌, ◌≤◌, ⊤, ◌⊎◌, IsTrue, Some, List, [], ◌∷◌, ◌++◌, length, map, drop, slice_get, slice_index_or, nat_le, if◌then◌else◌}
use Rattle.std.specs.List.{flat_map, All}
use Rattle.bz_model.specs.declared.channel.Chan.{Chan}
use Rattle.bz_model.specs.declared.kind.Kind.{Kind}
use Rattle.bz_model.specs.Rows.{row_of, ports_of, has_widths}
use Rattle.bz_breeze_records.specs.declared.part.Part.{Part}
use Rattle.bz_breeze_records.specs.declared.part.Component.{Component}
use Rattle.bz_flat.specs.declared.error.ElabError.{ElabError}
use Rattle.bz_flat.specs.declared.error.ElabError.TheVariants.{TooBig, Memory}
use Rattle.bz_elab.specs.declared.error.Fault.{Fault}
use Rattle.bz_flat.specs.declared.flat.FlatComp.{FlatComp}
use Rattle.bz_elab.specs.declared.walk.Draft.{Draft}
use Rattle.bz_elab.specs.declared.walk.Level.{Level}
use Rattle.bz_elab.specs.Faults.{error_at}
use Rattle.bz_elab.specs.Entries.{flattened, sizes_of, arranged, FitsPorts}
use Rattle.bz_elab.specs.Paths.{named, Path, Place, Role, instance, of_kind, Stop, copy, leaf, component, copied, joined, role, leaf_role, each_from, visit, walk, own_chans, own_places, stops, all_places, most_instances, chans_at}
use Rattle.bz_elab.specs.Refusals.{IsChannel, kinds_of, widths_of, chans_of, actuals_of, formals_of, own_comps, own_ends, most_ends, IsTooMany, HasFault, AppliesTo}
use Rattle.bz_flat.specs.Wires.{most_comps, most_chans}

-- What one component has to be.

pub record IsSoundLeaf (chans : List Chan) (c : Component) (kind : Kind) : Type 0 where
  pub fits : FitsPorts kind c.entries.items
  pub within : All (IsChannel chans) (flattened c.entries.items)
  pub kinds : kinds_of (chans_of chans kind c.entries.items) ≡ map (λ r. r.kind) (ports_of (row_of kind) (sizes_of c.entries.items))
  pub widths : IsTrue (has_widths kind (sizes_of c.entries.items) (chans_of chans kind c.entries.items))

pub record IsSoundInstance (chans : List Chan) (c : Component) (part : Part) : Type 0 where
  pub count : length (flattened c.entries.items) ≡ length part.ports.items
  pub within : All (IsChannel chans) (flattened c.entries.items)
  pub kinds : kinds_of (actuals_of chans c.entries.items) ≡ kinds_of (formals_of part)
  pub widths : widths_of (actuals_of chans c.entries.items) ≡ widths_of (formals_of part)

abbrev pub IsSound : List Chan → Component → Role → Type 0
IsSound chans c (of_kind kind) = IsSoundLeaf chans c kind
IsSound chans c (instance part) = IsSoundInstance chans c part
IsSound chans c role = ⊥

-- a component that is no instance, by the numbers of its part's channels
pub record IsFlat (chans : List Chan) (c : Component) (f : FlatComp) : Type 0 where
  pub role_is : leaf_role c ≡ of_kind f.kind
  pub sizes_are : f.sizes ≡ sizes_of c.entries.items
  pub chans_are : f.chans.items ≡ arranged f.kind chans c.entries.items
  pub sound : IsSoundLeaf chans c f.kind

-- each component of a part is sound
abbrev pub IsSoundPart : List Part → Part → Type 0
IsSoundPart parts part = (i : ℕ) (c : Component) → component part i ≡ Some c → IsSound part.channels.items c (role parts c)

-- no path goes on for more than so many instances
abbrev pub IsShort : List Part → Part → ℕ → Type 0
IsShort parts part depth = (below : Path) (q : Part) → copied parts part below ≡ Some q → length below ≤ depth

-- there is no component and no channel at these stops
pub record IsBare (stops : List Stop) : Type 0 where
  pub comps : flat_map own_comps stops ≡ []
  pub chans : flat_map own_chans stops ≡ []

-- a part and all that it reaches is sound, and no path goes on for more than so many instances
pub record IsSoundBelow (parts : List Part) (part : Part) (depth : ℕ) : Type 0 where
  pub short : (below : Path) (q : Part) → copied parts part below ≡ Some q → length below ≤ depth
  pub sound : (below : Path) (q : Part) → copied parts part below ≡ Some q → IsSoundPart parts q

-- Numbers of places. Number k is this place's, by the list of all places so far.

abbrev pub IsNumber : List Place → Place → ℕ → Type 0
IsNumber places place k = (0 < k) × (slice_get places (k - 1) ≡ Some place)

abbrev pub AreNumbers : List Place → List Place → List ℕ → Type 0
AreNumbers places [] [] = Unit {0}
AreNumbers places [] (k ∷ ks) = ⊥
AreNumbers places (p ∷ ps) [] = ⊥
AreNumbers places (p ∷ ps) (k ∷ ks) = IsNumber places p k × AreNumbers places ps ks

-- the number in the net of a channel of a copy, by this copy and those above it but for the top's: a port is a channel of
-- the copy above
abbrev pub net_number : List Level → ℕ → ℕ
net_number [] c = c
net_number (l ∷ ls) c =
    if nat_le c (length l.ports.now) then net_number ls (slice_index_or l.ports.now (c - 1) 0)
    else l.before + (c - length l.ports.now)

-- the n channels of a copy are among the first m of the net
abbrev pub FitsNet : List Level → ℕ → ℕ → Type 0
FitsNet levels n m = (c : ℕ) → 0 < c → c ≤ n → net_number levels c ≤ m

-- the channels of the copy at a path are where these copies tell
abbrev pub CopyNumbers : List Part → Part → List Place → Path → List Level → Type 0
CopyNumbers parts top places path levels =
    (c : ℕ) → 0 < c → c ≤ length (chans_at parts top path) → IsNumber places (joined parts top path c) (net_number levels c)

-- a component of the net is that of a leaf, on the channels that its entries come to
pub record IsLeaf (parts : List Part) (top : Part) (places : List Place) (path : Path) (c : Component) (f : FlatComp) : Type 0 where
  pub role_is : leaf_role c ≡ of_kind f.kind
  pub sizes_are : f.sizes ≡ sizes_of c.entries.items
  pub chans : AreNumbers places (map (joined parts top path) (arranged f.kind (chans_at parts top path) c.entries.items)) f.chans.items

abbrev pub AreLeaves : List Part → Part → List Place → List Stop → List FlatComp → Type 0
AreLeaves parts top places [] [] = Unit {0}
AreLeaves parts top places [] (f ∷ fs) = ⊥
AreLeaves parts top places (copy path part ∷ stops) fs = AreLeaves parts top places stops fs
AreLeaves parts top places (leaf path c ∷ stops) [] = ⊥
AreLeaves parts top places (leaf path c ∷ stops) (f ∷ fs) = IsLeaf parts top places path c f × AreLeaves parts top places stops fs

-- the net grew by the channels and components of these stops
pub record Grows (parts : List Part) (top : Part) (before : List Place) (old new : Draft) (stops : List Stop) : Type 0 where
  pub comps : List FlatComp
  pub chans_are : new.chans ≡ old.chans ++ flat_map own_chans stops
  pub comps_are : new.comps ≡ old.comps ++ comps
  pub leaves : AreLeaves parts top (before ++ flat_map own_places stops) stops comps

-- the net grew by as much as these stops have
pub record Counts (old new : Draft) (stops : List Stop) : Type 0 where
  pub comps_are : length new.comps ≡ length old.comps + length (flat_map own_comps stops)
  pub chans_are : length new.chans ≡ length old.chans + length (flat_map own_chans stops)
  pub ends_are : new.ends ≡ old.ends + length (flat_map own_ends stops)

-- what lies below the copy of a part, with at most so many instances more on a path
abbrev pub below_copy : List Part → Path → ℕ → Part → List Stop
below_copy parts path depth part = each_from 1 (visit parts path (walk parts depth)) part.components.items

abbrev pub Flattened : List Part → Part → List Level → ℕ → Draft → Draft → Type 0
Flattened parts part levels depth old new =
    (top : Part) (path : Path) (before : List Place) → copied parts top path ≡ Some part → length before ≡ length old.chans
    → CopyNumbers parts top before path levels → Grows parts top before old new (below_copy parts path depth part)

abbrev pub Counted : List Part → Part → ℕ → Draft → Draft → Type 0
Counted parts part depth old new = (path : Path) → Counts old new (below_copy parts path depth part)

-- a copy was entered: the channels of its part but for its ports were added
pub record Entered (old new : Draft) (part : Part) (ports : ℕ) : Type 0 where
  pub chans_are : new.chans ≡ old.chans ++ drop ports part.channels.items
  pub comps_are : new.comps ≡ old.comps
  pub ends_are : new.ends ≡ old.ends

-- a component at this place was not added: for want of memory, for a fault, or since the net would be too big
abbrev pub Refused : List Chan → Component → Role → Draft → Stop → ℕ → ℕ → ElabError → Type 0
Refused own c role old stop n i e =
    (e ≡ Memory) ⊎ (((f : Fault) × (e ≡ error_at f n i) × HasFault own c role f)
    ⊎ ((e ≡ TooBig) × IsTooMany (length old.comps) (length old.chans) old.ends (stop ∷ [])))

-- why the walk of the net of `top` ends at these stops
abbrev pub EndsWalk : List Part → Part → Draft → List Stop → ElabError → Type 0
EndsWalk parts top old stops Memory = ⊤
EndsWalk parts top old stops TooBig = IsTooMany (length old.comps) (length old.chans) old.ends stops
EndsWalk parts top old stops e = AppliesTo parts top e

abbrev pub Fails : List Part → Part → ℕ → Draft → ElabError → Type 0
Fails parts part depth old e =
    (top : Part) (path : Path) → copied parts top path ≡ Some part → length path + depth ≡ most_instances
    → EndsWalk parts top old (below_copy parts path depth part) e

-- a draft within what a net may have
pub record Within (d : Draft) : Type 0 where
  pub comps_few : length d.comps ≤ most_comps
  pub chans_few : length d.chans ≤ most_chans
  pub ends_few : d.ends ≤ most_ends

-- the channels, components and ends of the net of `top`
pub record IsNet (parts : List Part) (top : Part) (d : Draft) : Type 0 where
  pub chans_are : d.chans ≡ flat_map own_chans (stops parts top)
  pub comps_len : length d.comps ≡ length (flat_map own_comps (stops parts top))
  pub ends_are : d.ends ≡ length (flat_map own_ends (stops parts top))
  pub leaves : AreLeaves parts top (all_places parts top) (stops parts top) d.comps

-- the components of the net of the part of this name
pub record AreComponents (parts : List Part) (name : List ℕ) (comps : List FlatComp) : Type 0 where
  pub top : Part
  pub is_named : named parts name ≡ Some top
  pub leaves : AreLeaves parts top (all_places parts top) (stops parts top) comps
