-- The shapes of a netlist's lists, and the records that they name.
use Rattle.std.specs.Prelude.{◌≡◌, ℕ, ◌≤◌, List, [], ◌∷◌, Bool, true, false, Option, Some, None, ◌⊎◌, if◌then◌else◌, bytes_eq, codes, is_some}
use Rattle.std.specs.List.{AllZip, filter_map, filter}
use Rattle.std.specs.Option.{option_and_then}
use Rattle.bz_model.specs.Names.{External}
use Rattle.bz_model.specs.declared.channel.Chan.{Chan}
use Rattle.bz_model.specs.declared.channel.ChanKind.{ChanKind}
use Rattle.bz_model.specs.declared.channel.ChanKind.TheVariants.{Sync, Push, Pull}
use Rattle.bz_sexpr.specs.Data.{Datum, leaf, num, text, symbol}
use Rattle.bz_sexpr.specs.declared.datum.Span.{Span}
use Rattle.bz_breeze_records.specs.Records.{SlotRecord, one, many, ComponentRecord, PartRecord}
use Rattle.bz_breeze.specs.Turns.{inside}
use Rattle.bz_breeze.specs.Forms.{param}
use Rattle.bz_breeze.specs.Parts.{part_items}

-- what follows the head in a list headed so
abbrev pub after_symbol : List ℕ → List Datum → Option (List Datum)
after_symbol head (leaf (symbol name) span ∷ rest) = if bytes_eq name head then Some rest else None
after_symbol head ds = None

abbrev pub headed : List ℕ → Datum → Option (List Datum)
headed head d = option_and_then (after_symbol head) (inside d)

-- Ports: `(port "NAME" SENSE ..)` or `(sync-port "NAME" SENSE ..)`, where SENSE is `active` or `passive`.

abbrev pub IsSense : List ℕ → Bool → Type 0
IsSense sense true = sense ≡ codes "passive"
IsSense sense false = sense ≡ codes "active"

abbrev pub GivesPort : List Datum → External → Type 0
GivesPort (leaf (text name) at ∷ leaf (symbol sense) sense_at ∷ rest) p = (p.name ≡ name) × IsSense sense p.passive
GivesPort ds p = ⊥

pub data IsPort : Datum → External → Type 0 where
  port : {d : Datum} {p : External} (rest : List Datum) → headed (codes "port") d ≡ Some rest → GivesPort rest p → IsPort d p
  sync_port : {d : Datum} {p : External} (rest : List Datum) → headed (codes "sync-port") d ≡ Some rest → GivesPort rest p → IsPort d p

pub data IsArrayed : Datum → Type 0 where
  arrayed_port : {d : Datum} (rest : List Datum) → headed (codes "arrayed-port") d ≡ Some rest → IsArrayed d
  arrayed_sync_port : {d : Datum} (rest : List Datum) → headed (codes "arrayed-sync-port") d ≡ Some rest → IsArrayed d

-- Channels: `(sync ..)`, or `(push W ..)` or `(pull W ..)`, of the width W.

abbrev pub IsSync : Datum → Type 0
IsSync d = (rest : List Datum) × (headed (codes "sync") d ≡ Some rest)

abbrev pub IsWide : Datum → ChanKind → ℕ → Type 0
IsWide d Sync w = ⊥
IsWide d Push w = (at : Span) × (rest : List Datum) × (headed (codes "push") d ≡ Some (leaf (num w) at ∷ rest))
IsWide d Pull w = (at : Span) × (rest : List Datum) × (headed (codes "pull") d ≡ Some (leaf (num w) at ∷ rest))

abbrev pub IsChannel : Datum → Chan → Type 0
IsChannel d c = (IsSync d × (c ≡ record { kind = Sync; width = 0 })) ⊎ IsWide d c.kind c.width

-- Components: `(component "NAME" (PARAMETERS) (ENTRIES) ..)`, where an entry is the number of a channel or a list of such.

abbrev pub IsNumber : Datum → ℕ → Type 0
IsNumber (leaf (num m) at) n = (m ≡ n) × (n ≤ 4294967295)
IsNumber d n = ⊥

abbrev pub IsEntry : Datum → SlotRecord → Type 0
IsEntry d (one n) = IsNumber d n
IsEntry d (many ns) = (ds : List Datum) × (inside d ≡ Some ds) × AllZip IsNumber ds ns

pub record IsComponent (d : Datum) (c : ComponentRecord) : Type 0 where
  pub name_at : Span
  pub params_list : Datum
  pub entries_list : Datum
  pub rest : List Datum
  pub written : headed (codes "component") d ≡ Some (leaf (text c.name) name_at ∷ params_list ∷ entries_list ∷ rest)
  pub params : List Datum
  pub params_inside : inside params_list ≡ Some params
  -- by their shapes, where symbols and lists are none
  pub params_are : c.params ≡ filter_map param params
  pub entries : List Datum
  pub entries_inside : inside entries_list ≡ Some entries
  pub entries_are : AllZip IsEntry entries c.entries

-- Parts: `(breeze-part "NAME" FORM ..)`, where lists headed by `ports`, `channels` and `components` are read.

-- what follows the head in each of the lists headed so
abbrev pub lists_headed : List ℕ → List Datum → List (List Datum)
lists_headed head forms = filter_map (headed head) forms

abbrev pub first_or_empty : List (List Datum) → List Datum
first_or_empty [] = []
first_or_empty (members ∷ others) = members

-- the members of the first list headed so, or none
abbrev pub members_of : List ℕ → List Datum → List Datum
members_of head forms = first_or_empty (lists_headed head forms)

pub record IsPart (d : Datum) (p : PartRecord) : Type 0 where
  pub quote : Span
  pub forms : List Datum
  pub written : part_items d ≡ Some (leaf (text p.name) quote ∷ forms)
  pub ports : AllZip IsPort (members_of (codes "ports") forms) p.ports
  pub channels : AllZip IsChannel (members_of (codes "channels") forms) p.channels
  pub components : AllZip IsComponent (members_of (codes "components") forms) p.components

-- Lists headed by `breeze-part` are the parts, all else is skipped.
abbrev pub is_part : Datum → Bool
is_part d = is_some (part_items d)

abbrev pub AreParts : List Datum → List PartRecord → Type 0
AreParts netlist ps = AllZip IsPart (filter is_part netlist) ps
