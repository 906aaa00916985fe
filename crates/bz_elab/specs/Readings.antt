-- What was read of each part: its components, each looked at once for all copies.
use Rattle.std.specs.Prelude.{◌≡◌, ℕ, ◌+◌, ◌<◌, ◌≤◌, ◌⊎◌, None, Some, List, [], ◌∷◌, ◌++◌, length, map, slice_get}
use Rattle.bz_model.specs.declared.channel.Chan.{Chan}
use Rattle.bz_breeze_records.specs.declared.part.Part.{Part}
use Rattle.bz_breeze_records.specs.declared.part.Component.{Component}
use Rattle.bz_flat.specs.declared.flat.FlatComp.{FlatComp}
use Rattle.bz_elab.specs.declared.walk.Draft.{Draft}
use Rattle.bz_elab.specs.declared.walk.Level.{Level}
use Rattle.bz_elab.specs.declared.reading.Item.{Item}
use Rattle.bz_elab.specs.declared.reading.Item.TheVariants.{Leaf, Copy}
use Rattle.bz_elab.specs.declared.reading.Instance.{Instance}
use Rattle.bz_elab.specs.declared.reading.Reading.{Reading}
use Rattle.bz_elab.specs.Entries.{flattened}
use Rattle.bz_elab.specs.Paths.{Path, named}
use Rattle.bz_elab.specs.Refusals.{most_ends}
use Rattle.bz_flat.specs.Wires.{most_comps}
use Rattle.bz_elab.specs.Numbers.{number_named, IsReached}
use Rattle.bz_elab.specs.Growth.{IsFlat, IsSoundInstance, IsShort, IsBare, net_number, Entered, below_copy}

-- a copy of this part adds no component and no channel
pub record IsEmpty (parts : List Part) (part : Part) : Type 0 where
  pub no_own : length part.channels.items ≤ length part.ports.items
  pub bare : (path : Path) (depth : ℕ) → IsShort parts part depth → IsBare (below_copy parts path depth part)

-- a component is an instance of a part whose copy adds nothing
pub record AddsNothing (parts : List Part) (c : Component) : Type 0 where
  pub part : Part
  pub is_named : named parts c.name.items ≡ Some part
  pub empty : IsEmpty parts part

-- a component is an instance, by the number of its part and the numbers of its part's channels
pub record IsCopy (parts : List Part) (own : List Chan) (c : Component) (i : Instance) : Type 0 where
  pub part : Part
  pub is_named : named parts c.name.items ≡ Some part
  pub number : number_named parts c.name.items ≡ Some i.part
  pub stands : slice_get parts i.part ≡ Some part
  pub chans_are : i.chans.items ≡ flattened c.entries.items
  pub sound : IsSoundInstance own c part

-- what an item tells of a component, on the channels of its part
abbrev pub IsItem : List Part → List Chan → Component → Item → Type 0
IsItem parts own c (Leaf f) = (named parts c.name.items ≡ None) × IsFlat own c f
IsItem parts own c (Copy i) = IsCopy parts own c i

-- the items tell of all components, in order, but for those that add nothing
abbrev pub AreRead : List Part → List Chan → List Component → List Item → Type 0
AreRead parts own [] [] = Unit {0}
AreRead parts own [] (x ∷ xs) = ⊥
AreRead parts own (c ∷ cs) [] = AddsNothing parts c × AreRead parts own cs []
AreRead parts own (c ∷ cs) (x ∷ xs) = (IsItem parts own c x × AreRead parts own cs xs) ⊎ (AddsNothing parts c × AreRead parts own cs (x ∷ xs))

-- what was read of a part: of its components before its first instance, then of the others
abbrev pub told : Reading → List Item
told r = map Leaf r.leaves ++ r.items.items

-- what was read of the parts of which P holds
pub record AreReadings (parts : List Part) (P : ℕ → Type 0) (readings : List Reading) : Type 0 where
  pub len : length readings ≡ length parts
  pub are : (n : ℕ) (p : Part) (r : Reading) → P n → slice_get parts n ≡ Some p → slice_get readings n ≡ Some r → AreRead parts p.channels.items p.components.items (told r)

-- what was read of a part and all that it reaches
abbrev pub IsReadBelow : List Part → ℕ → List Reading → Type 0
IsReadBelow parts n readings = AreReadings parts (IsReached parts n) readings

-- how many ends components have
abbrev pub ends_of : List FlatComp → ℕ
ends_of [] = 0
ends_of (f ∷ fs) = length f.chans.items + ends_of fs

-- what was read of part n is of these components, which are no instances; they and their ends are not too many for a net
pub record AreOwn (readings : List Reading) (n : ℕ) (comps : List FlatComp) (ends : ℕ) : Type 0 where
  pub reading : Reading
  pub stands : slice_get readings n ≡ Some reading
  pub all : told reading ≡ map Leaf comps
  pub ends_are : ends ≡ ends_of comps
  pub few : length comps ≤ most_comps
  pub few_ends : ends ≤ most_ends

-- The walk.

-- a component that is no instance was added, on the net's channels in place of its part's
pub record LeafOn (levels : List Level) (named : FlatComp) (old new : Draft) : Type 0 where
  pub added : FlatComp
  pub on : added.chans.items ≡ map (net_number levels) named.chans.items
  pub kind_is : added.kind ≡ named.kind
  pub sizes_are : added.sizes ≡ named.sizes
  pub chans_are : new.chans ≡ old.chans
  pub comps_are : new.comps ≡ old.comps ++ added ∷ []
  pub ends_are : new.ends ≡ old.ends + length added.chans.items

-- the copy of a part was entered, its ports being on these channels of the copy above; `inside` are the copies from it up
pub record CopyOn (levels : List Level) (ports : List ℕ) (part : Part) (old new : Draft) (inside : List Level) : Type 0 where
  pub level : Level
  pub inside_is : inside ≡ level ∷ levels
  pub before_is : level.before ≡ length old.chans
  pub ports_are : level.ports.now ≡ ports
  pub entered : Entered old new part (length part.ports.items)

-- there is no place for one component more with so many ends
abbrev pub IsFull : Draft → ℕ → Type 0
IsFull d ends = (most_comps ≤ length d.comps) ⊎ (most_ends < d.ends + ends)
