-- The least of the faults of components, as far as they were looked at.
use Rattle.std.specs.Prelude.{◌≡◌, ◌⊎◌, ℕ, ◌+◌, ◌<◌, ◌≤◌, Bool, true, Option, None, Some, List, slice_get, nat_le, if◌then◌else◌}
use Rattle.bz_model.specs.declared.channel.Chan.{Chan}
use Rattle.bz_breeze_records.specs.declared.part.Part.{Part}
use Rattle.bz_breeze_records.specs.declared.part.Component.{Component}
use Rattle.bz_elab.specs.declared.error.Fault.{Fault}
use Rattle.bz_elab.specs.declared.faults.Found.{Found}
use Rattle.bz_elab.specs.declared.faults.Seen.{Seen}
use Rattle.bz_elab.specs.declared.faults.Seen.TheVariants.{Wrong, Nothing, Adds}
use Rattle.bz_elab.specs.declared.reading.Item.TheVariants.{Leaf, Copy}
use Rattle.bz_elab.specs.Readings.{IsEmpty, AddsNothing, IsItem}
use Rattle.bz_elab.specs.Faults.{error_at}
use Rattle.bz_elab.specs.Paths.{component, role}
use Rattle.bz_elab.specs.Refusals.{HasFault}
use Rattle.bz_elab.specs.Growth.{IsSound}
use Rattle.bz_elab.specs.Order.{NoLater, NoneBefore, order}
use Rattle.bz_elab.specs.Numbers.{is_marked}

-- what a component is: its first fault, or sound, adding nothing or what an item tells
abbrev pub IsSeen : List Part → List Chan → Component → Seen → Type 0
IsSeen parts chans c (Wrong f) = HasFault chans c (role parts c) f × NoneBefore chans c (role parts c) f
IsSeen parts chans c Nothing = IsSound chans c (role parts c) × AddsNothing parts c
IsSeen parts chans c (Adds item) = IsSound chans c (role parts c) × IsItem parts chans c item

-- the first fault of a component; none where it is sound
abbrev pub IsFirstFault : List Part → List Chan → Component → Option Fault → Type 0
IsFirstFault parts chans c None = IsSound chans c (role parts c)
IsFirstFault parts chans c (Some f) = HasFault chans c (role parts c) f × NoneBefore chans c (role parts c) f

-- an instance of part n, whose entries name these channels
abbrev pub IsSeenCopy : List Part → ℕ → List ℕ → Seen → Type 0
IsSeenCopy parts n chans (Wrong f) = ⊥
IsSeenCopy parts n chans Nothing = (part : Part) × (slice_get parts n ≡ Some part) × IsEmpty parts part
IsSeenCopy parts n chans (Adds (Leaf f)) = ⊥
IsSeenCopy parts n chans (Adds (Copy i)) = (i.part ≡ n) × (i.chans.items ≡ chans)

-- component i of part n of the text has this fault
pub record FaultHere (parts : List Part) (n i : ℕ) (f : Fault) : Type 0 where
  pub part : Part
  pub comp : Component
  pub number : slice_get parts n ≡ Some part
  pub here : component part i ≡ Some comp
  pub fault : HasFault part.channels.items comp (role parts comp) f

-- the components of marked parts before part n, and those up to i of part n
abbrev pub Upto : List Bool → ℕ → ℕ → ℕ → ℕ → Type 0
Upto marks n i m j = (is_marked marks m ≡ true) × ((m < n) ⊎ ((m ≡ n) × (j ≤ i)))

abbrev pub InMarked : List Bool → ℕ → ℕ → Type 0
InMarked marks m j = is_marked marks m ≡ true

-- the first fault in the order, of the components at the places that were seen; none where each of them is sound
abbrev pub IsLeastFault : List Part → (ℕ → ℕ → Type 0) → Option Found → Type 0
IsLeastFault parts Seen None =
    (n i : ℕ) (part : Part) (c : Component) → Seen n i → slice_get parts n ≡ Some part → component part i ≡ Some c → IsSound part.channels.items c (role parts c)
IsLeastFault parts Seen (Some b) =
    Seen b.spot.part b.spot.position × FaultHere parts b.spot.part b.spot.position b.fault
    × ((n i : ℕ) (f : Fault) → Seen n i → FaultHere parts n i f → NoLater (error_at b.fault b.spot.part b.spot.position) (error_at f n i))

-- the components of part n were looked at too
abbrev pub LeastOn : List Part → ℕ → Option Found → Option Found → Type 0
LeastOn parts n before after =
    (marks : List Bool) → is_marked marks n ≡ true → IsLeastFault parts (Upto marks n 0) before → IsLeastFault parts (Upto marks (n + 1) 0) after

-- the one of the two that comes first, the earlier one of two alike
abbrev pub lesser : Option Found → Found → Found
lesser None found = found
lesser (Some least) found = if nat_le (order least.fault) (order found.fault) then least else found
