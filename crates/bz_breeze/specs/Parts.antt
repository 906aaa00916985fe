-- The parts of a netlist: the records that the data name, or the first fault in the text.
use Rattle.std.specs.Prelude.{ℕ, ◌-◌, nat_lt, length, map, List, [], ◌∷◌, ◌++◌, Option, Some, None, Result, Ok, Err, if◌then◌else◌, bytes_eq, codes}
use Rattle.std.specs.Option.{option_and_then}
use Rattle.bz_model.specs.Names.{External}
use Rattle.bz_model.specs.declared.channel.Chan.{Chan}
use Rattle.bz_sexpr.specs.Data.{Datum, leaf, items, text, symbol, span_of}
use Rattle.bz_sexpr.specs.declared.datum.Span.{Span}
use Rattle.bz_sexpr.specs.Views.{list_of}
use Rattle.bz_breeze_records.specs.Records.{ComponentRecord, PartRecord}
use Rattle.bz_breeze.specs.Turns.{inside, if_read, in_turn, FaultAt}
use Rattle.bz_breeze.specs.Forms.{is_among, ports, channels, components}
use Rattle.bz_breeze.specs.Faults.{Fault}
use Rattle.bz_breeze.specs.declared.error.Code.TheVariants.{BadForm, DoublePart}

-- the lists of a part that have come so far
pub record Lists : Type 0 where
  pub ports : Option (List External)
  pub channels : Option (List Chan)
  pub components : Option (List ComponentRecord)

abbrev pub no_lists : Lists
no_lists = record { ports = None; channels = None; components = None }

-- what is read of a form at this byte, unless its list came before
abbrev pub once : {A B : Type 0} → Option A → ℕ → Result B FaultAt → Result B FaultAt
once None at read = read
once (Some before) at read = Err (record { code = BadForm; at = at })

abbrev pub ports_form : Lists → ℕ → List Datum → Result Lists FaultAt
ports_form lists at members = once lists.ports at (if_read (ports members) (λ ps. Ok (record lists { ports = Some ps })))

abbrev pub channels_form : Lists → ℕ → List Datum → Result Lists FaultAt
channels_form lists at members = once lists.channels at (if_read (channels members) (λ cs. Ok (record lists { channels = Some cs })))

abbrev pub components_form : Lists → ℕ → List Datum → Result Lists FaultAt
components_form lists at members = once lists.components at (if_read (components members) (λ cs. Ok (record lists { components = Some cs })))

-- Lists headed by `ports`, `channels` and `components` are read, all else in a part is skipped.
abbrev pub headed_form : Lists → ℕ → List Datum → Result Lists FaultAt
headed_form lists at (leaf (symbol head) span ∷ members) =
    if bytes_eq head (codes "ports") then ports_form lists at members
    else (if bytes_eq head (codes "channels") then channels_form lists at members
    else (if bytes_eq head (codes "components") then components_form lists at members
    else Ok lists))
headed_form lists at ds = Ok lists

abbrev pub form : Lists → Datum → Result Lists FaultAt
form lists (items ds span) = headed_form lists span.from (list_of ds)
form lists (leaf l span) = Ok lists

-- a list that has not come is empty
abbrev pub or_empty : {A : Type 0} → Option (List A) → List A
or_empty (Some xs) = xs
or_empty None = []

-- The ports of a part are its first channels, so it has no fewer channels than ports.
abbrev pub finished : List ℕ → ℕ → Lists → Result PartRecord FaultAt
finished name end lists =
    if nat_lt (length (or_empty lists.channels)) (length (or_empty lists.ports)) then Err (record { code = BadForm; at = end })
    else Ok (record { name = name; ports = or_empty lists.ports; channels = or_empty lists.channels; components = or_empty lists.components })

-- the part of a name whose forms are these, with its last byte at `end`
abbrev pub part_of : List ℕ → ℕ → List Datum → Result PartRecord FaultAt
part_of name end forms = if_read (in_turn form no_lists forms) (finished name end)

abbrev pub in_part : {A : Type 0} → List ℕ → Result A FaultAt → Result A Fault
in_part name (Ok x) = Ok x
in_part name (Err fault) = Err (record { code = fault.code; part = Some name; at = fault.at })

-- a part that is this piece of the text, with what follows its head, where parts of these names come before it
abbrev pub named_part : List (List ℕ) → Span → List Datum → Result PartRecord Fault
named_part names span (leaf (text name) quote ∷ forms) =
    if is_among names name then Err (record { code = DoublePart; part = Some name; at = quote.from })
    else in_part name (part_of name (span.to - 1) forms)
named_part names span ds = Err (record { code = BadForm; part = None; at = span.from })

abbrev pub after_head : List Datum → Option (List Datum)
after_head (leaf (symbol head) span ∷ rest) = if bytes_eq head (codes "breeze-part") then Some rest else None
after_head ds = None

-- what follows the head of a list headed by `breeze-part`
abbrev pub part_items : Datum → Option (List Datum)
part_items d = option_and_then after_head (inside d)

abbrev pub part_names : List PartRecord → List (List ℕ)
part_names = map (λ p. p.name)

abbrev pub listed_part : List PartRecord → Datum → Option (List Datum) → Result (List PartRecord) Fault
listed_part before d (Some ds) = if_read (named_part (part_names before) (span_of d) ds) (λ p. Ok (before ++ p ∷ []))
listed_part before d None = Ok before

-- A list headed by `breeze-part` is a part, all else is skipped.
abbrev pub part : List PartRecord → Datum → Result (List PartRecord) Fault
part before d = listed_part before d (part_items d)

abbrev pub parts : List Datum → Result (List PartRecord) Fault
parts = in_turn part []
