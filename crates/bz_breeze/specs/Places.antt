-- Each fault of a netlist, by its cause and the byte at which it stands.
use Rattle.std.specs.Prelude.{◌≡◌, ◌≢◌, ℕ, ◌-◌, ◌<◌, ◌≤◌, List, [], ◌∷◌, ◌++◌, length, true, Option, Some, None, codes}
use Rattle.std.specs.List.{filter_map}
use Rattle.std.specs.Option.{option_and_then}
use Rattle.bz_model.specs.Names.{External}
use Rattle.bz_model.specs.declared.channel.ChanKind.{ChanKind}
use Rattle.bz_model.specs.Limits.{max_width}
use Rattle.bz_sexpr.specs.Data.{Datum, leaf, text, span_of}
use Rattle.bz_sexpr.specs.declared.datum.Span.{Span}
use Rattle.bz_breeze_records.specs.Records.{ComponentRecord}
use Rattle.bz_breeze.specs.Turns.{inside, place_of, FaultAt}
use Rattle.bz_breeze.specs.Forms.{is_among}
use Rattle.bz_breeze.specs.Faults.{Fault}
use Rattle.bz_breeze.specs.Parts.{part_items}
use Rattle.bz_breeze.specs.Shapes.{headed, lists_headed, members_of, IsPort, IsArrayed, IsSync, IsWide, IsComponent}
use Rattle.bz_breeze.specs.declared.error.Code.{Code}
use Rattle.bz_breeze.specs.declared.error.Code.TheVariants.{BadForm, DoublePart, ArrayedPort, Undeclared, TooWide}

-- A datum stands in a list, behind these.
pub record Stands (ds before : List Datum) (d : Datum) : Type 0 where
  pub after : List Datum
  pub whole : ds ≡ before ++ d ∷ after

-- What is wrong with a member of `ports`, behind these members.
pub data PortFault : List Datum → Datum → Code → Type 0 where
  -- it has none of the shapes
  no_port : {before : List Datum} {d : Datum} → ((p : External) → IsPort d p → ⊥) → (IsArrayed d → ⊥) → PortFault before d BadForm
  -- an earlier port has its name
  named_before : {before : List Datum} {d : Datum} (p q : External) (sooner : List Datum) (e : Datum) → IsPort d p → Stands before sooner e → IsPort e q → q.name ≡ p.name → PortFault before d BadForm
  arrayed : {before : List Datum} {d : Datum} → IsArrayed d → PortFault before d ArrayedPort

-- What is wrong with a member of `channels`.
pub data ChannelFault : Datum → Code → Type 0 where
  -- it has none of the shapes
  no_channel : {d : Datum} → (IsSync d → ⊥) → ((kind : ChanKind) (w : ℕ) → IsWide d kind w → ⊥) → ChannelFault d BadForm
  width_0 : {d : Datum} (kind : ChanKind) → IsWide d kind 0 → ChannelFault d BadForm
  too_wide : {d : Datum} (kind : ChanKind) (w : ℕ) → IsWide d kind w → max_width < w → ChannelFault d TooWide

-- a list that is not headed by `component`
abbrev pub IsUndeclared : Datum → Type 0
IsUndeclared d = (ds : List Datum) × (inside d ≡ Some ds) × (headed (codes "component") d ≡ None)

-- What is wrong with a member of `components`.
pub data ComponentFault : Datum → Code → Type 0 where
  -- it has not the shape
  no_component : {d : Datum} → ((c : ComponentRecord) → IsComponent d c → ⊥) → (IsUndeclared d → ⊥) → ComponentFault d BadForm
  undeclared : {d : Datum} → IsUndeclared d → ComponentFault d Undeclared

-- the lists of a part that are read
pub data Read : Type 0 where
  ports : Read
  channels : Read
  components : Read

abbrev pub head_of : Read → List ℕ
head_of ports = codes "ports"
head_of channels = codes "channels"
head_of components = codes "components"

abbrev pub MemberFault : Read → List Datum → Datum → Code → Type 0
MemberFault ports before d code = PortFault before d code
MemberFault channels before d code = ChannelFault d code
MemberFault components before d code = ComponentFault d code

-- What is wrong with a form of a part, behind these forms.
pub data FormFault : List Datum → Datum → FaultAt → Type 0 where
  -- a list with this head came before
  second : {before : List Datum} {d : Datum} (read : Read) (members : List Datum) → headed (head_of read) d ≡ Some members → lists_headed (head_of read) before ≢ []
      → FormFault before d (record { code = BadForm; at = place_of d })
  -- one of its members
  member : {before : List Datum} {d : Datum} (read : Read) (members sooner : List Datum) (m : Datum) (code : Code) → headed (head_of read) d ≡ Some members
      → Stands members sooner m → MemberFault read sooner m code → FormFault before d (record { code = code; at = place_of m })

-- What is wrong in a part of these forms, whose closing parenthesis stands at `end`.
pub data PartFault : ℕ → List Datum → FaultAt → Type 0 where
  -- one of its forms
  form : {end : ℕ} {forms : List Datum} {fault : FaultAt} (before : List Datum) (d : Datum) → Stands forms before d → FormFault before d fault → PartFault end forms fault
  -- the ports of a part are its first channels
  few_channels : {end : ℕ} {forms : List Datum} → length (members_of (codes "channels") forms) < length (members_of (codes "ports") forms)
      → PartFault end forms (record { code = BadForm; at = end })

abbrev pub name_of : List Datum → Option (List ℕ)
name_of (leaf (text name) quote ∷ forms) = Some name
name_of ds = None

abbrev pub part_name : Datum → Option (List ℕ)
part_name d = option_and_then name_of (part_items d)

-- What is wrong with a list headed by `breeze-part`, behind these data.
pub data ListFault : List Datum → Datum → Fault → Type 0 where
  nameless : {before : List Datum} {d : Datum} (ds : List Datum) → part_items d ≡ Some ds → part_name d ≡ None
      → ListFault before d (record { code = BadForm; part = None; at = place_of d })
  -- an earlier part has its name
  double : {before : List Datum} {d : Datum} (name : List ℕ) (quote : Span) (forms : List Datum) → part_items d ≡ Some (leaf (text name) quote ∷ forms)
      → is_among (filter_map part_name before) name ≡ true → ListFault before d (record { code = DoublePart; part = Some name; at = quote.from })
  within : {before : List Datum} {d : Datum} (name : List ℕ) (quote : Span) (forms : List Datum) (fault : FaultAt) → part_items d ≡ Some (leaf (text name) quote ∷ forms)
      → PartFault ((span_of d).to - 1) forms fault → ListFault before d (record { code = fault.code; part = Some name; at = fault.at })

-- A fault of a netlist.
abbrev pub IsFault : List Datum → Fault → Type 0
IsFault netlist fault = (before : List Datum) × (d : Datum) × Stands netlist before d × ListFault before d fault

-- A fault, where no other stands at a lesser byte.
pub record IsLeast (netlist : List Datum) (fault : Fault) : Type 0 where
  pub holds : IsFault netlist fault
  pub least : (other : Fault) → IsFault netlist other → fault.at ≤ other.at
