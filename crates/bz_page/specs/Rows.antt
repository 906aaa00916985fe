-- What a page is told beside its list and its trace: what each kind in the net is, and what parameters of components say.
use Rattle.std.specs.Prelude.{ℕ, Bool, true, false, None, Some, List, [], ◌++◌, bytes_eq, codes, decimal, if◌then◌else◌}
use Rattle.std.specs.List.{flat_map, list_any}
use Rattle.std.specs.Option.{option_and_then}
use Rattle.bz_model.specs.Clashes.{may_meet}
use Rattle.bz_model.specs.Names.{numbered}
use Rattle.bz_model.specs.Nets.{Site}
use Rattle.bz_model.specs.Rows.{KindRow, PortRow, rows, all_names, word_of, kind_word}
use Rattle.bz_source.specs.Details.{Detail, detail_text}
use Rattle.bz_source.specs.Views.{detail_of_comp}
use Rattle.bz_source.specs.declared.survey.Survey.{Survey}
use Rattle.bz_cli_input.specs.Listing.{lines}

-- in front of a port's name: whether it is passive
abbrev pub sense_mark : Bool → List ℕ
sense_mark true = codes " p:"
sense_mark false = codes " a:"

-- what is written where something is so
abbrev pub mark : Bool → List ℕ → List ℕ
mark is_so text = if is_so then text else []

-- behind an array's name stands a star
abbrev pub port_word : PortRow → List ℕ
port_word port = sense_mark port.passive ++ (port.name ++ mark port.array (codes "*"))

-- behind the ports of a kind: what else is so of it, and its sign
abbrev pub marks_and_sign : KindRow → List ℕ
marks_and_sign row = mark row.is_variable (codes " variable") ++ (mark row.has_ordered_ports (codes " ordered") ++ (mark row.is_hub (codes " hub") ++ (mark (may_meet row.callers) (codes " meet") ++ (codes " s:" ++ (row.sign ++ codes "\n")))))

-- a kind, with its ports in their order
abbrev pub kind_line : KindRow → List ℕ
kind_line row = codes "row " ++ (word_of row ++ (flat_map port_word row.ports ++ marks_and_sign row))

-- whether a component of the net is of the kind of this word
abbrev pub has_kind : List Site → List ℕ → Bool
has_kind sites word = list_any (λ site. bytes_eq word (kind_word site.kind)) sites

-- the line of a kind that the net has
abbrev pub line_of : List Site → KindRow → List ℕ
line_of sites row = mark (has_kind sites (word_of row)) (kind_line row)

-- one for each kind in the net, in the order of the kinds
unfoldable pub kind_lines : List Site → List ℕ
kind_lines sites = flat_map (λ name. line_of sites (rows name)) all_names

-- a component, and what its parameters say
abbrev pub told_detail : ℕ → Detail → List ℕ
told_detail k detail = codes "detail " ++ (decimal k ++ (codes " " ++ (detail_text detail ++ codes "\n")))

-- of component k, where they say more than its kind and its name
abbrev pub detail_line : Survey → ℕ → Site → List ℕ
detail_line s k site = elim (option_and_then (detail_of_comp s.parts site.kind) (numbered s.places.comps k)) [ None ↦ [] | Some detail ↦ told_detail k detail ]

-- the lines of the kinds, then what parameters of components say, then how the run ended
abbrev pub rows_text : Survey → List Site → List ℕ → List ℕ
rows_text s sites ends = kind_lines sites ++ (lines (detail_line s) 1 sites ++ ends)
