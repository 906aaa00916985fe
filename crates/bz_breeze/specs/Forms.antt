-- The members of a part's lists: what each names, or its fault.
use Rattle.std.specs.Prelude.{ℕ, ◌==◌, nat_lt, nat_le, map, List, ◌∷◌, Bool, true, false, ◌||◌, Option, Some, None, Result, Ok, Err, if◌then◌else◌, bytes_eq, codes}
use Rattle.std.specs.List.{filter_map, list_any}
use Rattle.std.specs.Option.{option_map, option_and_then}
use Rattle.bz_model.specs.Names.{External}
use Rattle.bz_model.specs.declared.channel.Chan.{Chan}
use Rattle.bz_model.specs.declared.channel.ChanKind.{ChanKind}
use Rattle.bz_model.specs.declared.channel.ChanKind.TheVariants.{Sync, Push, Pull}
use Rattle.bz_model.specs.Limits.{max_width}
use Rattle.bz_sexpr.specs.Data.{Datum, leaf, items, num, truth, text, symbol}
use Rattle.bz_sexpr.specs.Views.{list_of}
use Rattle.bz_breeze_records.specs.Records.{ParamRecord, SlotRecord, ComponentRecord, one, many}
use Rattle.bz_breeze_records.specs.Records as seen
use Rattle.bz_breeze.specs.Turns.{inside, place_of, if_read, each, FaultAt, at_byte}
use Rattle.bz_breeze.specs.declared.error.Code.{Code}
use Rattle.bz_breeze.specs.declared.error.Code.TheVariants.{BadForm, ArrayedPort, Undeclared, TooWide}

abbrev pub is_among : List (List ℕ) → List ℕ → Bool
is_among names name = list_any (bytes_eq name) names

-- Ports: `(port "NAME" SENSE ..)` or `(sync-port "NAME" SENSE ..)`, where SENSE is `active` or `passive`.

abbrev pub named_port : List Datum → Result External Code
named_port (leaf (text name) name_at ∷ leaf (symbol sense) sense_at ∷ rest) =
    if bytes_eq sense (codes "passive") then Ok (record { name = name; passive = true })
    else (if bytes_eq sense (codes "active") then Ok (record { name = name; passive = false })
    else Err BadForm)
named_port ds = Err BadForm

abbrev pub listed_port : List Datum → Result External Code
listed_port (leaf (symbol head) span ∷ rest) =
    if bytes_eq head (codes "port") || bytes_eq head (codes "sync-port") then named_port rest
    else (if bytes_eq head (codes "arrayed-port") || bytes_eq head (codes "arrayed-sync-port") then Err ArrayedPort
    else Err BadForm)
listed_port ds = Err BadForm

abbrev pub port : Datum → Result External Code
port (items ds span) = listed_port (list_of ds)
port (leaf l span) = Err BadForm

abbrev pub names_of : List External → List (List ℕ)
names_of = map (λ p. p.name)

-- no two ports of a part have one name
abbrev pub new_port : List External → Datum → Result External Code
new_port before d = if_read (port d) (λ p. if is_among (names_of before) p.name then Err BadForm else Ok p)

abbrev pub ports : List Datum → Result (List External) FaultAt
ports = each (λ before d. at_byte (place_of d) (new_port before d))

-- Channels: `(sync ..)`, `(push W ..)` or `(pull W ..)`.

abbrev pub wide_channel : ChanKind → List Datum → Result Chan Code
wide_channel kind (leaf (num w) span ∷ rest) =
    if w == 0 then Err BadForm
    else (if nat_lt max_width w then Err TooWide
    else Ok (record { kind = kind; width = w }))
wide_channel kind ds = Err BadForm

abbrev pub listed_channel : List Datum → Result Chan Code
listed_channel (leaf (symbol head) span ∷ rest) =
    if bytes_eq head (codes "sync") then Ok (record { kind = Sync; width = 0 })
    else (if bytes_eq head (codes "push") then wide_channel Push rest
    else (if bytes_eq head (codes "pull") then wide_channel Pull rest
    else Err BadForm))
listed_channel ds = Err BadForm

abbrev pub channel : Datum → Result Chan Code
channel (items ds span) = listed_channel (list_of ds)
channel (leaf l span) = Err BadForm

abbrev pub channels : List Datum → Result (List Chan) FaultAt
channels = each (λ before d. at_byte (place_of d) (channel d))

-- Components: `(component "NAME" (PARAMETERS) (ENTRIES) ..)`.

-- a parameter goes by its shape, where symbols and lists are none
abbrev pub param : Datum → Option ParamRecord
param (leaf (num n) span) = Some (seen.num n)
param (leaf (truth b) span) = Some (seen.flag b)
param (leaf (text bytes) span) =
    if bytes_eq bytes (codes "true") then Some (seen.flag true)
    else (if bytes_eq bytes (codes "false") then Some (seen.flag false)
    else Some (seen.word bytes))
param (leaf (symbol name) span) = None
param (items ds span) = None

-- the number of a channel
abbrev pub number : Datum → Result ℕ Code
number (leaf (num n) span) = if nat_le n 4294967295 then Ok n else Err BadForm
number d = Err BadForm

abbrev pub numbers : List Datum → Result (List ℕ) Code
numbers = each (λ before d. number d)

-- an entry is such a number or a list of them
abbrev pub slot : Datum → Result SlotRecord Code
slot (items ds span) = if_read (numbers (list_of ds)) (λ ns. Ok (many ns))
slot (leaf l span) = if_read (number (leaf l span)) (λ n. Ok (one n))

abbrev pub slots : List Datum → Result (List SlotRecord) Code
slots = each (λ before d. slot d)

-- what stands in a component: its name, its parameters and its entries
pub record Fields : Type 0 where
  pub name : List ℕ
  pub params : List Datum
  pub entries : List Datum

abbrev pub named_fields : List ℕ → List Datum → Option Fields
named_fields name (ps ∷ es ∷ rest) = option_and_then (λ params. option_map (λ entries. record { name = name; params = params; entries = entries }) (inside es)) (inside ps)
named_fields name ds = None

abbrev pub fields_of : List Datum → Option Fields
fields_of (leaf (text name) name_at ∷ rest) = named_fields name rest
fields_of ds = None

abbrev pub component_of : Option Fields → Result ComponentRecord Code
component_of (Some c) = if_read (slots c.entries) (λ es. Ok (record { name = c.name; params = filter_map param c.params; entries = es }))
component_of None = Err BadForm

abbrev pub listed_component : List Datum → Result ComponentRecord Code
listed_component (leaf (symbol head) span ∷ rest) = if bytes_eq head (codes "component") then component_of (fields_of rest) else Err Undeclared
listed_component ds = Err Undeclared

abbrev pub component : Datum → Result ComponentRecord Code
component (items ds span) = listed_component (list_of ds)
component (leaf l span) = Err BadForm

abbrev pub components : List Datum → Result (List ComponentRecord) FaultAt
components = each (λ before d. at_byte (place_of d) (component d))
