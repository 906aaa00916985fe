-- What the command `parts` reads and writes: of each part what its own record has, in the order of the text.
use Rattle.std.specs.Prelude.{◌≡◌, ℕ, ◌-◌, Bool, true, false, List, ◌++◌, length, map, codes, decimal, count_by, is_some, slice_get, Option, None, Some, Result}
use Rattle.std.specs.List.{list_any}
use Rattle.bz_breeze_records.specs.declared.part.Part.{Part}
use Rattle.bz_breeze_records.specs.Parts.{number_named}
use Rattle.bz_model.specs.Names.{external}
use Rattle.bz_model.specs.Traces.{name_form}
use Rattle.bz_source.specs.declared.lines.PartLines.{PartLines}
use Rattle.bz_source.specs.Lines.{lines_in}
use Rattle.bz_source.specs.Views.{part_lines_of}
use Rattle.bz_cli_input.specs.declared.fault.Fault.{Fault}
use Rattle.bz_cli_input.specs.declared.fault.Fault.TheVariants.{Write}
use Rattle.bz_cli_input.specs.Answering.{Answers, AnswersInput}
use Rattle.bz_cli_input.specs.Listing.{lines, ports_text}
use Rattle.bz_cli_input.specs.Opening.{NamesParts, RefusesText}
use Rattle.bz_cli_input.specs.Stopping.{IsOfInput}
use Rattle.bz_cli_input.specs.Uses.{has_instance_of}

-- some part has an instance of part n
abbrev pub is_used : List Part → ℕ → Bool
is_used listed n = list_any (has_instance_of listed n) listed

-- how many of a part's components are instances
abbrev pub instance_count : List Part → Part → ℕ
instance_count listed part = count_by (λ c. is_some (number_named listed c.name.items)) part.components.items

-- the line at which part n begins, counted from 0
abbrev pub line_of_part : List PartLines → ℕ → ℕ
line_of_part places n = elim (slice_get places n) [ None ↦ 0 | Some l ↦ l.part ]

-- a part of which no part has an instance is told as one
abbrev pub top_text : Bool → List ℕ
top_text true = codes "\n"
top_text false = codes " top\n"

abbrev pub head_text : Part → ℕ → Bool → List ℕ
head_text part line used = codes "part " ++ (name_form part.name.items ++ (codes " line " ++ (decimal line ++ top_text used)))

abbrev pub own_ports_text : Part → List ℕ
own_ports_text part = ports_text part.channels.items (map external part.ports.items)

abbrev pub counts_text : Part → ℕ → List ℕ
counts_text part instances =
    codes "channels " ++ (decimal (length part.channels.items) ++ (codes "\ncomponents " ++ (decimal (length part.components.items) ++ (codes "\ninstances " ++ (decimal instances ++ codes "\n")))))

-- a part: its name, its line, its ports, and how much it has
abbrev pub part_text : List Part → ℕ → Bool → Part → List ℕ
part_text listed line used part = head_text part line used ++ (own_ports_text part ++ counts_text part (instance_count listed part))

-- part k of the list, counted from 1
abbrev pub numbered_text : List Part → List PartLines → ℕ → Part → List ℕ
numbered_text listed places k part = part_text listed (line_of_part places (k - 1)) (is_used listed (k - 1)) part

abbrev pub parts_text : List Part → List PartLines → List ℕ
parts_text listed places = lines (numbered_text listed places) 1 listed

-- the list of the parts that a text names, which begin at these lines
pub record IsPartList (text list : List ℕ) : Type 0 where
  pub listed : List Part
  pub names : NamesParts text listed
  pub places : List PartLines
  pub stand : map part_lines_of places ≡ lines_in text names.forms
  pub list_is : list ≡ parts_text listed places

-- The netlist is refused, or the list of its parts goes out.
abbrev pub TellsParts : {E : Type 0} → List ℕ → Option (List ℕ) → Option (List ℕ) → Result E Fault → Type 0
TellsParts text old new answer = Answers Write (λ u list. IsPartList text list) (RefusesText text) old new answer

-- The command.
abbrev pub ListsParts : {E : Type 0} → List ℕ → Option (List ℕ) → Option (List ℕ) → Result E Fault → Type 0
ListsParts text old new answer = AnswersInput IsOfInput (λ netlist. TellsParts netlist old new answer) text old new answer
