-- The lines of a text at which the records of its parts begin, and what these say of names and of a source.
use Rattle.std.specs.Prelude.{ℕ, ◌+◌, ◌==◌, List, map, take, count_by, codes}
use Rattle.std.specs.List.{filter_map}
use Rattle.std.specs.Option.{option_map}
use Rattle.bz_sexpr.specs.Data.{Datum}
use Rattle.bz_breeze.specs.Turns.{place_of}
use Rattle.bz_breeze.specs.Shapes.{headed, members_of}
use Rattle.bz_source.specs.Labels.{LabelsOfPart, labels}

abbrev pub feeds : List ℕ → ℕ
feeds text = count_by (λ b. b == 10) text

-- the line in which a byte stands, from 1
abbrev pub line_at : List ℕ → ℕ → ℕ
line_at text byte = feeds (take byte text) + 1

pub record LinesOfPart : Type 0 where
  pub part : ℕ
  pub channels : List ℕ
  pub components : List ℕ
  pub labels : LabelsOfPart

abbrev pub member_lines : List ℕ → List Datum → List ℕ
member_lines text members = map (λ m. line_at text (place_of m)) members

-- those of a part, by what follows its head
abbrev pub part_lines : List ℕ → Datum → List Datum → LinesOfPart
part_lines text d items = record {
  part = line_at text (place_of d);
  channels = member_lines text (members_of (codes "channels") items);
  components = member_lines text (members_of (codes "components") items);
  labels = labels (members_of (codes "channels") items) (members_of (codes "components") items);
}

abbrev pub lines_in : List ℕ → List Datum → List LinesOfPart
lines_in text netlist = filter_map (λ d. option_map (part_lines text d) (headed (codes "breeze-part") d)) netlist
