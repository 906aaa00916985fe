-- When a part has no net: the condition of each refusal.
use Rattle.std.specs.Prelude.{◌≡◌, ◌≢◌, ℕ, ◌+◌, ◌<◌, ◌≤◌, ◌⊎◌, ⊤, IsTrue, None, Some, List, [], ◌∷◌, length, map, take, slice_get}
use Rattle.std.specs.List.{flat_map, All}
use Rattle.bz_model.specs.declared.channel.Chan.{Chan}
use Rattle.bz_model.specs.declared.channel.ChanKind.{ChanKind}
use Rattle.bz_model.specs.declared.kind.Kind.{Kind}
use Rattle.bz_model.specs.Rows.{row_of, ports_of, has_widths}
use Rattle.bz_model.specs.Nets.{Wiring, chan_in}
use Rattle.bz_breeze_records.specs.declared.part.Part.{Part}
use Rattle.bz_breeze_records.specs.declared.part.Component.{Component}
use Rattle.bz_breeze_records.specs.declared.part.Slot.{Slot}
use Rattle.bz_flat.specs.declared.error.ElabError.{ElabError}
use Rattle.bz_flat.specs.declared.error.ElabError.TheVariants.{NoPart, Recursive, TooDeep, UnknownComponent, BadParameter, PortCount, BadChannel, TooBig, KindMismatch, WidthMismatch, TwoEnds, LooseEnd, PortSense, Memory}
use Rattle.bz_elab.specs.declared.error.Fault.{Fault}
use Rattle.bz_elab.specs.declared.error.Fault.TheVariants as fault
use Rattle.bz_elab.specs.Entries.{flattened, sizes_of, arranged, FitsPorts}
use Rattle.bz_elab.specs.Paths.{Path, Role, instance, of_kind, misfit, unknown, Stop, copy, leaf, named, component, copied, role, stops, own_chans, net, most_instances}
use Rattle.bz_flat.specs.Wires.{HasTwo, IsLoose, IsMisused, most_comps, most_chans}

-- One component of a part, by the channels of that part.

abbrev pub IsChannel : List Chan → ℕ → Type 0
IsChannel chans k = (0 < k) × (k ≤ length chans)

abbrev pub kinds_of : List Chan → List ChanKind
kinds_of chans = map (λ c. c.kind) chans

abbrev pub widths_of : List Chan → List ℕ
widths_of chans = map (λ c. c.width) chans

-- the channels of a component's ports, in the order of the ports of its kind
abbrev pub chans_of : List Chan → Kind → List Slot → List Chan
chans_of chans kind slots = map (chan_in chans) (arranged kind chans slots)

-- the channels that an instance's entries name, and those of the ports of its part
abbrev pub actuals_of : List Chan → List Slot → List Chan
actuals_of chans slots = map (chan_in chans) (flattened slots)

abbrev pub formals_of : Part → List Chan
formals_of part = take (length part.ports.items) part.channels.items

-- a component on the channels of a part, being what it is, has this fault
abbrev pub HasFault : List Chan → Component → Role → Fault → Type 0
HasFault chans c unknown fault.UnknownComponent = ⊤
HasFault chans c misfit fault.BadParameter = ⊤
HasFault chans c (of_kind kind) fault.PortCount = FitsPorts kind c.entries.items → ⊥
HasFault chans c (of_kind kind) fault.BadChannel = All (IsChannel chans) (flattened c.entries.items) → ⊥
HasFault chans c (of_kind kind) fault.KindMismatch =
    kinds_of (chans_of chans kind c.entries.items) ≢ map (λ r. r.kind) (ports_of (row_of kind) (sizes_of c.entries.items))
HasFault chans c (of_kind kind) fault.WidthMismatch = IsTrue (has_widths kind (sizes_of c.entries.items) (chans_of chans kind c.entries.items)) → ⊥
HasFault chans c (instance part) fault.PortCount = length (flattened c.entries.items) ≢ length part.ports.items
HasFault chans c (instance part) fault.BadChannel = All (IsChannel chans) (flattened c.entries.items) → ⊥
HasFault chans c (instance part) fault.KindMismatch = kinds_of (actuals_of chans c.entries.items) ≢ kinds_of (formals_of part)
HasFault chans c (instance part) fault.WidthMismatch = widths_of (actuals_of chans c.entries.items) ≢ widths_of (formals_of part)
HasFault chans c role f = ⊥

-- component i of part n of the text, a part that the top reaches
pub record At (parts : List Part) (top : Part) (n i : ℕ) : Type 0 where
  pub path : Path
  pub part : Part
  pub comp : Component
  pub reached : copied parts top path ≡ Some part
  pub number : slice_get parts n ≡ Some part
  pub here : component part i ≡ Some comp

abbrev pub FaultAt : List Part → Part → Fault → ℕ → ℕ → Type 0
FaultAt parts top f n i = (at : At parts top n i) × HasFault at.part.channels.items at.comp (role parts at.comp) f

-- part n of the text is reached by the top, and reaches itself by one instance or more
pub record IsRecursive (parts : List Part) (top : Part) (n : ℕ) : Type 0 where
  pub path : Path
  pub part : Part
  pub reached : copied parts top path ≡ Some part
  pub number : slice_get parts n ≡ Some part
  pub first : ℕ
  pub others : Path
  pub again : copied parts part (first ∷ others) ≡ Some part

-- some path goes on for too many instances
pub record IsTooDeep (parts : List Part) (top : Part) : Type 0 where
  pub path : Path
  pub part : Part
  pub reached : copied parts top path ≡ Some part
  pub long : most_instances < length path

-- the components of a net, and their ends
abbrev pub own_comps : Stop → List Component
own_comps (copy path part) = []
own_comps (leaf path c) = c ∷ []

abbrev pub own_ends : Stop → List ℕ
own_ends (copy path part) = []
own_ends (leaf path c) = flattened c.entries.items

abbrev pub most_ends : ℕ
most_ends = 4000000

-- stops beyond so many components, channels and ends are more than a net may have
abbrev pub IsTooMany : ℕ → ℕ → ℕ → List Stop → Type 0
IsTooMany comps chans ends ss =
    (most_comps < comps + length (flat_map own_comps ss)) ⊎ ((most_chans < chans + length (flat_map own_chans ss))
    ⊎ (most_ends < ends + length (flat_map own_ends ss)))

-- a refusal applies to a part; those of the whole net are said of the net as far as paths may go
abbrev pub AppliesTo : List Part → Part → ElabError → Type 0
AppliesTo parts top NoPart = ⊥
AppliesTo parts top (Recursive n) = IsRecursive parts top n
AppliesTo parts top TooDeep = IsTooDeep parts top
AppliesTo parts top (UnknownComponent n i) = FaultAt parts top fault.UnknownComponent n i
AppliesTo parts top (BadParameter n i) = FaultAt parts top fault.BadParameter n i
AppliesTo parts top (PortCount n i) = FaultAt parts top fault.PortCount n i
AppliesTo parts top (BadChannel n i) = FaultAt parts top fault.BadChannel n i
AppliesTo parts top TooBig = IsTooMany 0 0 0 (stops parts top)
AppliesTo parts top (KindMismatch n i) = FaultAt parts top fault.KindMismatch n i
AppliesTo parts top (WidthMismatch n i) = FaultAt parts top fault.WidthMismatch n i
AppliesTo parts top (TwoEnds k) = HasTwo (net parts top).sites k
AppliesTo parts top (LooseEnd k) = IsLoose (net parts top).sites (net parts top).ports k
AppliesTo parts top (PortSense k) = IsMisused (net parts top).sites (net parts top).ports k
AppliesTo parts top Memory = ⊥

-- a refusal applies to the part of this name
abbrev pub Applies : List Part → List ℕ → ElabError → Type 0
Applies parts name NoPart = named parts name ≡ None
Applies parts name e = (top : Part) × (named parts name ≡ Some top) × AppliesTo parts top e

-- each part has a channel for each of its ports
abbrev pub HasPortChannels : Part → Type 0
HasPortChannels part = length part.ports.items ≤ length part.channels.items

-- the net of the part of this name; no path of it is longer than a net may have
pub record Elaborated (parts : List Part) (name : List ℕ) (wiring : Wiring) : Type 0 where
  pub top : Part
  pub is_named : named parts name ≡ Some top
  pub wiring_is : wiring ≡ net parts top
  pub within : IsTooDeep parts top → ⊥
