-- What the records of a text say of names, and of the source that they come from.
use Rattle.std.specs.Prelude.{ℕ, ◌++◌, ◌&&◌, List, [], ◌∷◌, Option, None, Some, map, drop, nat_le, if◌then◌else◌, codes}
use Rattle.std.specs.List.{filter_map}
use Rattle.std.specs.Option.{option_and_then}
use Rattle.bz_sexpr.specs.Data.{Datum, leaf, num, text}
use Rattle.bz_breeze.specs.Turns.{inside}
use Rattle.bz_breeze.specs.Shapes.{headed}
use Rattle.bz_model.specs.Traces.{name_form}
use Rattle.bz_text.specs.Pieces.{source_text}

-- a place in a compiler's source
pub record SourceAt : Type 0 where
  pub file : List ℕ
  pub line : ℕ
  pub column : ℕ

-- what follows the head in `(name TEXT ..)`
abbrev pub named : List Datum → Option (List ℕ)
named (leaf (text name) span ∷ rest) = Some name
named ds = None

abbrev pub name_in : Datum → Option (List ℕ)
name_in d = option_and_then named (headed (codes "name") d)

-- what follows the head in `(at LINE COLUMN TEXT ..)`, the numbers being below 2 ^ 32
abbrev pub placed : List Datum → Option SourceAt
placed (leaf (num l) l_span ∷ leaf (num c) c_span ∷ leaf (text f) f_span ∷ rest) =
    if nat_le l 4294967295 && nat_le c 4294967295 then Some (record { file = f; line = l; column = c }) else None
placed ds = None

abbrev pub source_in : Datum → Option SourceAt
source_in d = option_and_then placed (headed (codes "at") d)

abbrev pub first_of : {A : Type 0} → List A → Option A
first_of [] = None
first_of (x ∷ xs) = Some x

abbrev pub first_name : List Datum → Option (List ℕ)
first_name members = first_of (filter_map name_in members)

abbrev pub first_source : List Datum → Option SourceAt
first_source members = first_of (filter_map source_in members)

-- the data of a record behind its first n
abbrev pub behind : ℕ → Datum → List Datum
behind n d = drop n (elim (inside d) [ None ↦ [] | Some ds ↦ ds ])

-- the members of a channel's record stand behind its head
abbrev pub chan_name : Datum → Option (List ℕ)
chan_name d = first_name (behind 1 d)

abbrev pub chan_source : Datum → Option SourceAt
chan_source d = first_source (behind 1 d)

-- those of a component's stand behind its head, its name, its parameters and its entries
abbrev pub comp_source : Datum → Option SourceAt
comp_source d = first_source (behind 4 d)

-- what the records of a part's channels and components say
pub record LabelsOfPart : Type 0 where
  pub names : List (Option (List ℕ))
  pub channels : List (Option SourceAt)
  pub components : List (Option SourceAt)

abbrev pub labels : List Datum → List Datum → LabelsOfPart
labels channels components = record {
  names = map chan_name channels;
  channels = map chan_source channels;
  components = map comp_source components;
}

-- What a channel or a component of a net is called, and where it comes from.
pub record Label : Type 0 where
  pub name : Option (List ℕ)
  pub source : Option SourceAt

abbrev pub name_note : Option (List ℕ) → List ℕ
name_note None = []
name_note (Some name) = codes " name " ++ name_form name

abbrev pub source_note : Option SourceAt → List ℕ
source_note None = []
source_note (Some at) = codes " from " ++ source_text at.file at.line at.column

abbrev pub label_text : Label → List ℕ
label_text label = name_note label.name ++ source_note label.source
