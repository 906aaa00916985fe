-- The order in which refusals are looked for: by their kind, and those of one kind by their place.
use Rattle.std.specs.Prelude.{◌≡◌, ℕ, ◌<◌, ◌≤◌, ◌⊎◌, List}
use Rattle.bz_model.specs.declared.channel.Chan.{Chan}
use Rattle.bz_breeze_records.specs.declared.part.Part.{Part}
use Rattle.bz_breeze_records.specs.declared.part.Component.{Component}
use Rattle.bz_flat.specs.declared.error.ElabError.{ElabError}
use Rattle.bz_flat.specs.declared.error.ElabError.TheVariants.{NoPart, Recursive, TooDeep, UnknownComponent, BadParameter, PortCount, BadChannel, TooBig, KindMismatch, WidthMismatch, TwoEnds, LooseEnd, PortSense, Memory}
use Rattle.bz_elab.specs.declared.error.Fault.{Fault}
use Rattle.bz_elab.specs.Faults.{error_at}
use Rattle.bz_elab.specs.Paths.{Role}
use Rattle.bz_elab.specs.Refusals.{HasFault, AppliesTo, Applies}

-- want of memory may come at any time
abbrev pub rank : ElabError → ℕ
rank Memory = 0
rank NoPart = 1
rank (Recursive n) = 2
rank TooDeep = 3
rank (UnknownComponent n i) = 4
rank (BadParameter n i) = 5
rank (PortCount n i) = 6
rank (BadChannel n i) = 7
rank TooBig = 8
rank (KindMismatch n i) = 9
rank (WidthMismatch n i) = 10
rank (TwoEnds k) = 11
rank (LooseEnd k) = 12
rank (PortSense k) = 13

-- the part that is told
abbrev pub part_of : ElabError → ℕ
part_of (Recursive n) = n
part_of (UnknownComponent n i) = n
part_of (BadParameter n i) = n
part_of (PortCount n i) = n
part_of (BadChannel n i) = n
part_of (KindMismatch n i) = n
part_of (WidthMismatch n i) = n
part_of e = 0

-- the position in that part, or the channel or port
abbrev pub number_of : ElabError → ℕ
number_of (UnknownComponent n i) = i
number_of (BadParameter n i) = i
number_of (PortCount n i) = i
number_of (BadChannel n i) = i
number_of (KindMismatch n i) = i
number_of (WidthMismatch n i) = i
number_of (TwoEnds k) = k
number_of (LooseEnd k) = k
number_of (PortSense k) = k
number_of e = 0

-- e is looked for no later than q
abbrev pub NoLater : ElabError → ElabError → Type 0
NoLater e q = (rank e < rank q) ⊎ ((rank e ≡ rank q) × ((part_of e < part_of q) ⊎ ((part_of e ≡ part_of q) × (number_of e ≤ number_of q))))

-- a refusal applies to the part of this name, and it is the first one that does
pub record Refuses (parts : List Part) (name : List ℕ) (e : ElabError) : Type 0 where
  pub applies : Applies parts name e
  pub first : (q : ElabError) → Applies parts name q → NoLater e q

-- a refusal applies to this part, and it is the first one that does
pub record RefusesPart (parts : List Part) (top : Part) (e : ElabError) : Type 0 where
  pub applies : AppliesTo parts top e
  pub first : (q : ElabError) → AppliesTo parts top q → NoLater e q

-- no refusal applies to this part that can be told without its net
abbrev pub PassesPart : List Part → Part → Type 0
PassesPart parts top = (q : ElabError) → AppliesTo parts top q → 10 < rank q

-- the place of a fault in the order
abbrev pub order : Fault → ℕ
order f = rank (error_at f 0 0)

-- a component has no fault before this one
abbrev pub NoneBefore : List Chan → Component → Role → Fault → Type 0
NoneBefore chans c role f = (g : Fault) → HasFault chans c role g → order f ≤ order g
