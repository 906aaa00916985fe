-- The net that a text denotes, or why it denotes none.
use Rattle.std.specs.Prelude.{◌≡◌, ℕ, List, map, Option, Some, None, unwrap_or, slice_get, option_and_then, Ok, Err, MatchOption, ⊤}
use Rattle.std.specs.Option.{option_map}
use Rattle.bz_sexpr.specs.Data.{Datum}
use Rattle.bz_sexpr.specs.Spelling.{data_are, ComesTo}
use Rattle.bz_sexpr.specs.Views.{outcome_of}
use Rattle.bz_breeze_records.specs.declared.part.Part.{Part}
use Rattle.bz_breeze_records.specs.Records.{part_record}
use Rattle.bz_breeze.specs.Parts.{parts}
use Rattle.bz_breeze.specs.Faults.{Tells, fault_of}
use Rattle.bz_breeze.specs.Places.{IsLeast}
use Rattle.bz_flat.specs.declared.error.ElabError.{ElabError}
use Rattle.bz_flat.specs.declared.error.ElabError.TheVariants.{Recursive, UnknownComponent, BadParameter, PortCount, BadChannel, KindMismatch, WidthMismatch}
use Rattle.bz_elab.specs.Refusals.{Applies, Elaborated}
use Rattle.bz_elab.specs.Order.{Refuses}
use Rattle.bz_model.specs.Nets.{Wiring}
use Rattle.bz_cli_input.specs.Choosing.{Chooses, RefusesChoice}
use Rattle.bz_cli_input.specs.declared.fault.Fault.{Fault}
use Rattle.bz_cli_input.specs.declared.fault.Fault.TheVariants as fault

-- no refusal applies to the part of this name
abbrev pub IsSound : List Part → List ℕ → Type 0
IsSound listed name = (e : ElabError) → Applies listed name e → ⊥

-- The text spells data that name these parts.
pub record NamesParts (text : List ℕ) (listed : List Part) : Type 0 where
  pub forms : List Datum
  pub spelt : ComesTo text (data_are forms)
  pub read : parts forms ≡ Ok (map part_record listed)

-- The text names parts, and the one of them that is opened has this net. No refusal applies to it.
pub record Denotes (text : List ℕ) (asked : Option (List ℕ)) (w : Wiring) : Type 0 where
  pub listed : List Part
  pub names : NamesParts text listed
  pub name : List ℕ
  pub chosen : Chooses listed asked name
  pub net : Elaborated listed name w
  pub sound : IsSound listed name

-- the number, from 0, of the part that a refusal is in, where it is in one
abbrev pub part_in : ElabError → Option ℕ
part_in (Recursive n) = Some n
part_in (UnknownComponent n i) = Some n
part_in (BadParameter n i) = Some n
part_in (PortCount n i) = Some n
part_in (BadChannel n i) = Some n
part_in (KindMismatch n i) = Some n
part_in (WidthMismatch n i) = Some n
part_in e = None

-- the name of that part, else that of the part that is opened
abbrev pub name_told : List Part → List ℕ → ElabError → List ℕ
name_told listed name e = unwrap_or (option_map (λ part. part.name.items) (option_and_then (slice_get listed) (part_in e))) name

-- Why a text names no parts: it spells no data; or its data name none, and of their faults none stands at a lesser byte. Of
-- memory that was refused nothing is said, here and below.
abbrev pub RefusesText : List ℕ → Fault → Type 0
RefusesText text (fault.Text e) = MatchOption (outcome_of (Err e)) ⊥ (ComesTo text)
RefusesText text (fault.Part e) = (forms : List Datum) × ComesTo text (data_are forms) × Tells (parts forms) e × MatchOption (fault_of e) ⊥ (IsLeast forms)
RefusesText text fault.Memory = ⊤
RefusesText text fault = ⊥

-- why the part of this name has no net
abbrev pub RefusesPart : List Part → List ℕ → Fault → Type 0
RefusesPart listed name (fault.Net e part) = Refuses listed name e × (part.items ≡ name_told listed name e)
RefusesPart listed name fault.Memory = ⊤
RefusesPart listed name fault = ⊥

-- Why a text denotes no net: it names no parts; none of them is opened; or the one that is opened has no net. Nothing else is a
-- reason.
abbrev pub RefusesNet : List ℕ → Option (List ℕ) → Fault → Type 0
RefusesNet text asked (fault.Text e) = RefusesText text (fault.Text e)
RefusesNet text asked (fault.Part e) = RefusesText text (fault.Part e)
RefusesNet text asked (fault.Top names) = (listed : List Part) × NamesParts text listed × RefusesChoice listed asked (fault.Top names)
RefusesNet text asked (fault.Net e part) =
    (listed : List Part) × NamesParts text listed × ((name : List ℕ) × Chooses listed asked name × RefusesPart listed name (fault.Net e part))
RefusesNet text asked fault.Memory = ⊤
RefusesNet text asked fault = ⊥
