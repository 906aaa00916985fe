-- The kinds, an item after the other: of each its name, its ports, and what it asks of lengths, widths and parameters. An item is a
-- line of words, or an object of JSON. No name has a letter that JSON writes in another way.
use Rattle.std.specs.Prelude.{ℕ, zero, suc, Bool, Option, Some, None, List, [], ◌∷◌, ◌++◌, map, slice_get, codes, decimal, if◌then◌else◌}
use Rattle.bz_model.specs.Rows.{PortRow, WidthRule, equal, one_bit, sum_of, within, KindRow, rows, all_names}
use Rattle.bz_model.specs.Words.{chan_kind_text}
use Rattle.bz_model.specs.declared.kind_rules.LengthRule.{LengthRule}
use Rattle.bz_model.specs.declared.kind_rules.LengthRule.TheVariants.{Equal, Sets}
use Rattle.bz_model.specs.declared.kind_rules.ParamRow.{ParamRow}
use Rattle.bz_model.specs.declared.kind_rules.ParamMeaning.{ParamMeaning}
use Rattle.bz_model.specs.declared.kind_rules.ParamMeaning.TheVariants as is
use Rattle.bz_kind_rows.specs.Naming.{operation_names}
use Rattle.bz_cli_input.specs.Listing.{lines}
use Rattle.bz_cli_kinds.specs.Fields.{mark, listed, field, place_field}

-- port k
abbrev pub port_item : Bool → ℕ → PortRow → List ℕ
port_item is_json k port =
    mark is_json (codes "port " ++ decimal k) [] ++ (field is_json (codes "{\"name\": \"") port.name
    ++ (field is_json (codes ", \"sense\": \"") (if port.passive then codes "passive" else codes "active")
    ++ (field is_json (codes ", \"carries\": \"") (chan_kind_text port.kind)
    ++ (if port.array then mark is_json (codes " array\n") (codes ", \"array\": true}") else mark is_json (codes "\n") (codes ", \"array\": false}")))))

-- the name of an array, by its place among the arrays, and that of a port, by its place among the ports; both from 0
abbrev pub array_name : List PortRow → ℕ → List ℕ
array_name [] place = []
array_name (port ∷ ports) zero = if port.array then port.name else array_name ports zero
array_name (port ∷ ports) (suc place) = if port.array then array_name ports place else array_name ports (suc place)

abbrev pub name_in : Option PortRow → List ℕ
name_in None = []
name_in (Some port) = port.name

abbrev pub port_name : List PortRow → ℕ → List ℕ
port_name ports place = name_in (slice_get ports place)

-- the place of a kind's first parameter, of which its rules for lengths and widths speak
abbrev pub first_place : Bool → List ℕ → List ParamRow → List ℕ
first_place is_json before [] = []
first_place is_json before (parameter ∷ parameters) = place_field is_json before parameter.place

abbrev pub lengths_by : Bool → Option LengthRule → KindRow → List ℕ
lengths_by is_json None row = []
lengths_by is_json (Some Equal) row =
    mark is_json (codes "lengths equal") (codes "{\"rule\": \"equal\", \"arrays\": [")
    ++ (field is_json (codes "\"") (array_name row.ports 0) ++ (field is_json (codes ", \"") (array_name row.ports 1)
    ++ mark is_json (codes "\n") (codes "]}")))
lengths_by is_json (Some Sets) row =
    mark is_json (codes "lengths sets") (codes "{\"rule\": \"sets\"")
    ++ (field is_json (codes ", \"array\": \"") (array_name row.ports 0) ++ (first_place is_json (codes ", \"parameter\": \"") row.parameters
    ++ mark is_json (codes "\n") (codes "}")))

abbrev pub lengths_item : Bool → KindRow → List ℕ
lengths_item is_json row = lengths_by is_json row.lengths row

-- the ports at these places, and the end of their item
abbrev pub names_at : Bool → List PortRow → List ℕ → List ℕ
names_at is_json ports places =
    listed (λ k place. field is_json (codes "\"") (port_name ports place)) is_json places ++ mark is_json (codes "\n") (codes "]}")

abbrev pub width_item : Bool → KindRow → WidthRule → List ℕ
width_item is_json row (equal places) =
    mark is_json (codes "widths equal") (codes "{\"rule\": \"equal\", \"ports\": [") ++ names_at is_json row.ports places
width_item is_json row (one_bit places) =
    mark is_json (codes "widths one") (codes "{\"rule\": \"one\", \"ports\": [") ++ names_at is_json row.ports places
width_item is_json row (sum_of whole places) =
    mark is_json (codes "widths sum") (codes "{\"rule\": \"sum\"") ++ (field is_json (codes ", \"port\": \"") (port_name row.ports whole)
    ++ (mark is_json [] (codes ", \"of\": [") ++ names_at is_json row.ports places))
width_item is_json row (within part whole) =
    mark is_json (codes "widths within") (codes "{\"rule\": \"within\"") ++ (first_place is_json (codes ", \"from\": \"") row.parameters
    ++ (field is_json (codes ", \"port\": \"") (port_name row.ports part) ++ (field is_json (codes ", \"in\": \"") (port_name row.ports whole)
    ++ mark is_json (codes "\n") (codes "}"))))

abbrev pub width_items : Bool → KindRow → List ℕ
width_items is_json row = listed (λ k rule. width_item is_json row rule) is_json row.widths

-- what a parameter is
abbrev pub meaning_word : ParamMeaning → List ℕ
meaning_word is.Specification = codes "specification"
meaning_word is.Unary = codes "operation"
meaning_word is.Binary = codes "operation"
meaning_word (is.Sign place) = codes "sign"
meaning_word is.ConstantSign = codes "sign"
meaning_word is.ConstantWidth = codes "width"
meaning_word is.Constant = codes "value"
meaning_word is.Low = codes "low"
meaning_word is.Empty = codes "empty"

abbrev pub names_listed : Bool → List (List ℕ) → List ℕ
names_listed is_json names = listed (λ k name. field is_json (codes "\"") name) is_json names

-- the operations that it may be, or the operand of whose sign it speaks
abbrev pub operand_fields : Bool → KindRow → ParamMeaning → List ℕ
operand_fields is_json row (is.Sign place) = field is_json (codes "\"") (port_name row.ports place)
operand_fields is_json row is.ConstantSign = field is_json (codes "\"") (codes "constant")
operand_fields is_json row meaning = names_listed is_json (operation_names meaning)

-- whether a parameter may be left out, and the end of its item
abbrev pub optional_end : Bool → Bool → List ℕ
optional_end is_json is_optional =
    if is_optional then mark is_json (codes " optional\n") (codes "], \"optional\": true}") else mark is_json (codes "\n") (codes "], \"optional\": false}")

abbrev pub parameter_item : Bool → KindRow → ParamRow → List ℕ
parameter_item is_json row parameter =
    mark is_json (codes "parameter") (codes "{") ++ (place_field is_json (codes "\"place\": \"") parameter.place
    ++ (field is_json (codes ", \"is\": \"") (meaning_word parameter.meaning) ++ (mark is_json [] (codes ", \"of\": [")
    ++ (operand_fields is_json row parameter.meaning ++ optional_end is_json parameter.is_optional))))

abbrev pub parameter_items : Bool → KindRow → List ℕ
parameter_items is_json row = listed (λ k parameter. parameter_item is_json row parameter) is_json row.parameters

abbrev pub kind_item : Bool → KindRow → List ℕ
kind_item is_json row =
    field is_json (codes "{\"name\": \"") row.name
    ++ (mark is_json (codes "\n") (codes ", \"ports\": [") ++ (listed (port_item is_json) is_json row.ports
    ++ (mark is_json [] (codes "], \"lengths\": [") ++ (lengths_item is_json row
    ++ (mark is_json [] (codes "], \"widths\": [") ++ (width_items is_json row
    ++ (mark is_json [] (codes "], \"parameters\": [") ++ (parameter_items is_json row
    ++ mark is_json [] (codes "]}")))))))))

-- what stands in front of a kind, of which the first has number 1
abbrev pub head : Bool → ℕ → List ℕ
head is_json (suc (suc k)) = mark is_json (codes "kind") (codes ",\n")
head is_json k = mark is_json (codes "kind") (codes "\n")

-- lines, or one object with the kinds one a line
unfoldable pub kinds_text : Bool → List ℕ
kinds_text is_json =
    mark is_json (codes "kinds 1\n") (codes "{\"version\": 1, \"kinds\": [")
    ++ (lines (λ k row. head is_json k ++ kind_item is_json row) 1 (map rows all_names) ++ mark is_json [] (codes "\n]}\n"))
