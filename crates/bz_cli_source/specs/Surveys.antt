-- What a text tells of a net: the net that it denotes, and where everything in it stands.
use Rattle.std.specs.Prelude.{◌≡◌, ℕ, List, Option, map}
use Rattle.bz_breeze_records.specs.declared.part.Part.{Part}
use Rattle.bz_model.specs.Nets.{Wiring}
use Rattle.bz_elab.specs.Refusals.{Elaborated}
use Rattle.bz_flat.specs.Flats.{wiring_of}
use Rattle.bz_flat.specs.Wires.{WellWired, EndsOf}
use Rattle.bz_flat.specs.declared.flat.Pieces.{Pieces}
use Rattle.bz_source.specs.Found.{Locates}
use Rattle.bz_source.specs.Lines.{lines_in}
use Rattle.bz_source.specs.Net.{FindsNamed}
use Rattle.bz_source.specs.Views.{part_lines_of}
use Rattle.bz_source.specs.declared.lines.PartLines.{PartLines}
use Rattle.bz_source.specs.declared.survey.Survey.{Survey}
use Rattle.bz_cli_input.specs.Choosing.{Chooses}
use Rattle.bz_cli_input.specs.Opening.{IsSound, NamesParts}

-- The text names these parts, which begin at these lines, and the one that is opened, of this name, has this net. No refusal
-- applies to it.
pub record IsRead (text : List ℕ) (asked : Option (List ℕ)) (name : List ℕ) (w : Wiring) (listed : List Part) (lines : List PartLines) : Type 0 where
  pub names : NamesParts text listed
  pub chosen : Chooses listed asked name
  pub net : Elaborated listed name w
  pub sound : IsSound listed name
  pub stand : map part_lines_of lines ≡ lines_in text names.forms

-- And everything in that net stands at these places: they are those of the net by paths, in its order.
pub record IsSurvey (text : List ℕ) (asked : Option (List ℕ)) (name : List ℕ) (w : Wiring) (s : Survey) : Type 0 where
  pub source : IsRead text asked name w s.parts s.lines.items
  pub places : Locates s.parts name s.places
  pub named : FindsNamed s.parts name s.places

abbrev pub wiring_in : Pieces → Wiring
wiring_in net = wiring_of net.chans net.comps net.ports.items

-- These are the pieces of that net: its wiring, and the ends of its channels.
pub record IsPlaced (text : List ℕ) (asked : Option (List ℕ)) (name : List ℕ) (net : Pieces) (s : Survey) : Type 0 where
  pub survey : IsSurvey text asked name (wiring_in net) s
  pub wired : WellWired (wiring_in net)
  pub ends : EndsOf (wiring_in net) net.ends.items
