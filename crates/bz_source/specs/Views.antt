-- How contracts see what the walk makes.
use Rattle.std.specs.Prelude.{◌≡◌, ℕ, zero, suc, ◌-◌, Option, None, Some, option_and_then, List, [], ◌++◌, map, take, length, nat_eq, if◌then◌else◌, slice_get, slice_index_or}
use Rattle.std.specs.declared.alloc.Global.{Global}
use Rattle.std.specs.declared.vec.Vec.{Vec}
use Rattle.bz_source.specs.declared.path_at.PathAt as code_path
use Rattle.bz_source.specs.declared.path_at.Find as code
use Rattle.bz_source.specs.declared.path_at.Find.TheVariants as code_find
use Rattle.bz_breeze_records.specs.declared.part.Part.{Part}
use Rattle.bz_source.specs.declared.lines.PartLines.{PartLines}
use Rattle.bz_source.specs.declared.text.LineAt as code_line
use Rattle.std.specs.Option.{option_copied, option_map}
use Rattle.bz_sexpr.specs.Forms.{text_view}
use Rattle.bz_breeze_records.specs.declared.part.Component.{Component}
use Rattle.bz_elab.specs.Paths.{component as component_in}
use Rattle.bz_model.specs.Names.{numbered}
use Rattle.bz_model.specs.declared.kind.Kind.{Kind}
use Rattle.bz_source.specs.declared.labels.Labels as code_labels
use Rattle.bz_source.specs.declared.labels.SourceMark.{SourceMark}
use Rattle.bz_source.specs.declared.labels.SourceAt as code_source
use Rattle.bz_source.specs.declared.labels.Label as code_label
use Rattle.bz_source.specs.declared.labels.WrittenSource.{WrittenSource}
use Rattle.bz_source.specs.declared.detail.Detail as code_detail
use Rattle.bz_source.specs.declared.detail.Detail.TheVariants as code_details
use Rattle.bz_source.specs.Details.{Detail, word, applied, number, from_bit, comp_detail, variable_name}
use Rattle.bz_source.specs.Labels.{Label, LabelsOfPart, SourceAt}
use Rattle.bz_source.specs.Lines.{LinesOfPart}
use Rattle.bz_source.specs.Texts.{LineAt}
use Rattle.bz_source.specs.Found.{PathAt, Find, channel, component, instance}

abbrev pub path_at_of : code_path.PathAt → PathAt
path_at_of p = record { part = p.part; position = p.position; path = p.path.items }

abbrev pub find_of : code.Find → Find
find_of (code_find.Channel p) = channel (path_at_of p)
find_of (code_find.Component p) = component (path_at_of p)
find_of (code_find.Instance p) = instance (path_at_of p)

-- these were added
abbrev pub Finds : Vec code.Find Global → Vec code.Find Global → List Find → Type 0
Finds old new finds = map find_of new.items ≡ map find_of old.items ++ finds

-- the last is gone where there are so many
abbrev pub Settled : ℕ → List code.Find → List code.Find → Type 0
Settled upto old new = new ≡ (if nat_eq (length old) upto then take (length old - 1) old else old)

abbrev pub source_at : code_source.SourceAt → SourceAt
source_at s = record { file = s.file.now; line = s.line; column = s.column }

abbrev pub mark_at : SourceMark → SourceAt
mark_at m = record { file = m.file.value.items; line = m.line; column = m.column }

abbrev pub written_at : WrittenSource → SourceAt
written_at s = record { file = text_view s.file; line = s.line; column = s.column }

abbrev pub label_of : code_label.Label → Label
label_of l = record { name = option_copied l.name; source = option_map source_at l.source }

abbrev pub labels_of_part : code_labels.Labels → LabelsOfPart
labels_of_part l = record {
  names = map (option_map (λ name. name.items)) l.names.items;
  channels = map (option_map mark_at) l.channels.items;
  components = map (option_map mark_at) l.components.items;
}

abbrev pub detail_of : code_detail.Detail → Detail
detail_of (code_details.Word w) = word w.now
detail_of (code_details.Applied w n) = applied w.now n
detail_of (code_details.Number n) = number n
detail_of (code_details.FromBit n) = from_bit n

abbrev pub part_lines_of : PartLines → LinesOfPart
part_lines_of l = record { part = l.part; channels = l.channels.items; components = l.components.items; labels = labels_of_part l.labels }

abbrev pub line_at_of : code_line.LineAt → LineAt
line_at_of s = record { part = s.part.now; position = s.position; line = s.line; path = s.path.now }

-- the line at a position, from 1
abbrev pub line_in : List ℕ → ℕ → ℕ
line_in lines zero = 0
line_in lines (suc i) = slice_index_or lines i 0

abbrev pub name_at : List Part → ℕ → List ℕ
name_at parts n = elim (slice_get parts n) [ None ↦ [] | Some part ↦ part.name.items ]

abbrev pub record_line : List Part → PathAt → ℕ → LineAt
record_line parts at line = record { part = name_at parts at.part; position = at.position; line = line; path = at.path }

abbrev pub chan_line_at : List Part → List PartLines → PathAt → LineAt
chan_line_at parts lines at = record_line parts at (elim (slice_get lines at.part) [ None ↦ 0 | Some l ↦ line_in l.channels.items at.position ])

abbrev pub comp_line_at : List Part → List PartLines → PathAt → LineAt
comp_line_at parts lines at = record_line parts at (elim (slice_get lines at.part) [ None ↦ 0 | Some l ↦ line_in l.components.items at.position ])

-- what the record at a position says, from 1
abbrev pub name_at_position : List (Option (Vec ℕ Global)) → ℕ → Option (List ℕ)
name_at_position names p = option_and_then (option_map (λ name. name.items)) (numbered names p)

abbrev pub source_at_position : List (Option SourceMark) → ℕ → Option SourceAt
source_at_position marks p = option_and_then (option_map mark_at) (numbered marks p)

abbrev pub name_label : List PartLines → PathAt → Option (List ℕ)
name_label lines at = elim (slice_get lines at.part) [ None ↦ None | Some l ↦ name_at_position l.labels.names.items at.position ]

abbrev pub chan_mark : List PartLines → PathAt → Option SourceAt
chan_mark lines at = elim (slice_get lines at.part) [ None ↦ None | Some l ↦ source_at_position l.labels.channels.items at.position ]

abbrev pub comp_mark : List PartLines → PathAt → Option SourceAt
comp_mark lines at = elim (slice_get lines at.part) [ None ↦ None | Some l ↦ source_at_position l.labels.components.items at.position ]

-- the component that stands there
abbrev pub component_at : List Part → PathAt → Option Component
component_at parts at = option_and_then (λ p. component_in p at.position) (slice_get parts at.part)

abbrev pub name_of_comp : List Part → PathAt → Option (List ℕ)
name_of_comp parts at = option_and_then variable_name (component_at parts at)

-- what is told of the channel and of the component that stand there
abbrev pub chan_label : List PartLines → PathAt → Label
chan_label lines at = record { name = name_label lines at; source = chan_mark lines at }

abbrev pub comp_label : List Part → List PartLines → PathAt → Label
comp_label parts lines at = record { name = name_of_comp parts at; source = comp_mark lines at }

abbrev pub detail_of_comp : List Part → Kind → PathAt → Option Detail
detail_of_comp parts kind at = option_and_then (λ p. option_and_then (λ c. comp_detail p c kind) (component_in p at.position)) (slice_get parts at.part)
